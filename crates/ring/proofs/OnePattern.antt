-- Listing by one pattern of errors: a clean word near the ring tells every start, by the errors alone, and with no clean word near no start is listed.
use mathlib.Core.Path.{◌≡◌, refl, sym, ap, ap₂, ◌∙◌, subst, subst₂}
use mathlib.Core.Bool.{Bool, true, false, cond}
use mathlib.Core.List.{List, [], ◌∷◌}
use Prim.Native.Nat.{ℕ, zero, suc, min, ◌+◌, ◌-◌, ◌<◌, ◌≤◌}
use native.Mathlib.Nat.{le_trans, le_of_eq}
use native.Mathlib.Omega.{arith}
use lib.Dec.{eqb, eqb-zero-suc, eqb-suc-zero}
use lib.ListN.{length, get_or, replicate, set}
use Rattle.field.specs.Field.{sum}
use Rattle.field.proofs.Laws
use Rattle.polynomial.specs.Sums.{nonzero, weight}
use Rattle.code.specs.Word.{power_sum, Clean, added, marks, differs, distance}
use Rattle.code.specs.Inside.{PowerSums}
use Rattle.code.proofs.Words.{length_added, characters_added, added_comm, added_assoc, added_twice}
use Rattle.code.proofs.Sums.{power_sum_added}
use Rattle.code.proofs.Distances.{distance_weight, distance_comm, distance_added, triangle}
use Rattle.code.proofs.Lines.{clean_line, marks_long, marks_weight, unmarked, line_long}
use Rattle.code.proofs.Apart.{clean_near}
use Rattle.std.specs.Prelude.{Some, None}
use Rattle.mender.specs.declared.Mended.{Mended}
use Rattle.mender.specs.Mender.{Fits, Mends, Word}
use Rattle.ring.specs.Ring.{placed, Start, ListOf}
use Rattle.ring.specs.Promises.{Lists}
use Rattle.ring.specs.Inside.{seen, marks_at, Listable, ListsThose, place_of, errors_at, gain, gains, LightBy, Deciding}
use Rattle.ring.proofs.Placing.{kept, placed_again}
use Rattle.ring.proofs.marks.Marks.{marks_at_long, marks_placed}
use Rattle.ring.proofs.Those.{those_same, none_those}
use Rattle.ring.proofs.Loops.{placed_get}

pub marks_at_weight : (k : ℕ) → weight (marks_at k) ≡ 3
unfolding marks_at
marks_at_weight k = (kept (seen k 0)).weighs marks marks_long ∙ marks_weight

-- a line put back to its ring places is the clean word that it has without its marks, put back, with the marks of that start on it
pub marked_back : (k : ℕ) (l : List ℕ) → length l ≡ 63 → added (placed (seen k 0) (added l marks)) (marks_at k) ≡ placed (seen k 0) l
unfolding marks_at
marked_back k l whole =
    ap (λ (w : List ℕ). added w (placed (seen k 0) marks)) ((kept (seen k 0)).adds l marks (whole ∙ sym marks_long))
    ∙ added_twice (placed (seen k 0) l) (placed (seen k 0) marks) ((kept (seen k 0)).long l ∙ sym ((kept (seen k 0)).long marks))

module _ (ring : List ℕ) (k : ℕ) (long : length ring ≡ 63) (h : k < 126) where
  -- the errors with the marks of start k added are how far the ring lies from the clean word with those marks on it
  pub errors_apart : (c : List ℕ) → distance ring (added c (marks_at k)) ≡ weight (errors_at k ring c)
  errors_apart c = distance_weight ring (added c (marks_at k)) ∙ ap weight (sym (added_assoc ring c (marks_at k)))

  -- a clean word with the marks of start k on it is a line there
  pub errors_list : (c : List ℕ) (t : ℕ) → Clean c → weight (errors_at k ring c) ≤ t → Start t ring k
  errors_list c t clean light =
      let same : length c ≡ length (marks_at k) = clean.long ∙ sym (marks_at_long k) in
      let there : placed k (added c (marks_at k)) ≡ added (placed k c) marks =
      (kept k).adds c (marks_at k) same ∙ ap (added (placed k c)) (marks_placed k h)
      in
      let far : distance (placed k ring) (added (placed k c) marks) ≡ weight (errors_at k ring c) =
      ap (distance (placed k ring)) (sym there)
      ∙ (kept k).apart ring (added c (marks_at k)) long (length_added c (marks_at k) same ∙ clean.long)
      ∙ errors_apart c
      in
      (added (placed k c) marks, record { line = clean_line (placed k c) ((kept k).cleans c clean); near = omega arith })

  -- and a line there, put back to its ring places, is a clean word with the marks of start k on it
  record Marked (t : ℕ) : Type 0 where
    pub word : List ℕ
    pub clean : Clean word
    pub light : weight (errors_at k ring word) ≤ t

  list-errors : (t : ℕ) → Start t ring k → Marked t
  list-errors t (l, p) =
      let whole : length l ≡ 63 = line_long l p.line in
      let far : distance ring (placed (seen k 0) l) ≡ distance (placed k ring) l =
      sym ((kept k).apart ring (placed (seen k 0) l) long ((kept (seen k 0)).long l))
      ∙ ap (distance (placed k ring)) (placed_again k l whole h)
      in
      record {
        word = placed (seen k 0) (added l marks);
        clean = (kept (seen k 0)).cleans (added l marks) (unmarked l p.line);
        light = le_trans (le_of_eq (sym (errors_apart (placed (seen k 0) (added l marks))) ∙ ap (distance ring) (marked_back k l whole) ∙ far)) p.near;
      }

  -- so a listed start has a clean word within three more than the radius
  marked-near : (t : ℕ) (m : Marked t) → distance ring m.word ≤ t + 3
  marked-near t m =
      let same : length m.word ≡ length (marks_at k) = m.clean.long ∙ sym (marks_at_long k) in
      let full : length (added m.word (marks_at k)) ≡ 63 = length_added m.word (marks_at k) same ∙ m.clean.long in
      let d = triangle ring (added m.word (marks_at k)) m.word (long ∙ sym full) (m.clean.long ∙ sym full) in
      let e = errors_apart m.word in
      let f : distance (added m.word (marks_at k)) m.word ≡ 3 =
      distance_comm (added m.word (marks_at k)) m.word ∙ distance_added m.word (marks_at k) same ∙ marks_at_weight k
      in
      let g = m.light in
      omega arith

-- ---- a clean word near the ring

-- a ring of 63 characters lies at distance w from the clean word c, and w + 3 + t is at most 11: start k is listed for radius t
-- exactly when the errors with the marks of start k added have at most t characters that are not 0
pub listed_by_pattern : (ring c : List ℕ) (t k : ℕ) → length ring ≡ 63 → Clean c → k < 126 → distance ring c + 3 + t ≤ 11
    → (Start t ring k → weight (errors_at k ring c) ≤ t) × (weight (errors_at k ring c) ≤ t → Start t ring k)
listed_by_pattern ring c t k long clean h small = (
  λ start.
      let m : Marked ring k long h t = list-errors ring k long h t start in
      let near = marked-near ring k long h t m in
      let d = triangle c ring m.word (clean.long ∙ sym long) (m.clean.long ∙ sym long) in
      let e = distance_comm c ring in
      let same : m.word ≡ c = sym (clean_near c m.word clean m.clean (omega arith)) in
      subst (λ (w : List ℕ). weight (errors_at k ring w) ≤ t) same m.light,
  errors_list ring k long h c t clean,
)

-- with no clean word within t + 3 of the ring, no start is listed for radius t
pub none_without_pattern : (ring : List ℕ) (t : ℕ) → length ring ≡ 63 → ((c : List ℕ) → Clean c → distance ring c ≤ t + 3 → ⊥) → ListOf t ring []
none_without_pattern ring t long none =
    none_those (Start t ring) 126 0
    (λ k e.
    let m : Marked ring k long e.most t = list-errors ring k long e.most t e.has in
    none m.word m.clean (marked-near ring k long e.most t m))

-- ---- the count, by the errors at the places of the three marks

-- one character of the second word set anew changes the count at its address alone
weight_set : (u v : List ℕ) (a m : ℕ) → length u ≡ length v → a < length u
    → weight (added u (set v a m)) + nonzero (sum (get_or u a 0) (get_or v a 0)) ≡ weight (added u v) + nonzero (sum (get_or u a 0) m)
unfolding added weight
weight_set [] v a m e h = absurd (omega arith)
weight_set (c ∷ cs) [] a m e h = absurd (omega arith)
weight_set (c ∷ cs) (d ∷ ds) zero m e h = omega arith
weight_set (c ∷ cs) (d ∷ ds) (suc a) m e h = let r = weight_set cs ds a m (omega arith) (omega arith) in omega arith

weight_unmarked : (u : List ℕ) (n : ℕ) → length u ≡ n → weight (added u (replicate n 0)) ≡ weight u
unfolding added weight
weight_unmarked [] n e = refl
weight_unmarked (c ∷ cs) zero e = absurd (omega arith)
weight_unmarked (c ∷ cs) (suc n) e = rw (Laws.sum_zero c) (let r = weight_unmarked cs n (omega arith) in omega arith)

differs_one : (c d : ℕ) → differs (eqb c d) ≡ nonzero (sum c d)
unfolding distance added weight
differs_one c d =
    let e : differs (eqb c d) + 0 ≡ nonzero (sum c d) + 0 = distance_weight (c ∷ []) (d ∷ []) in
    omega arith

gain_at : (v m : ℕ) → 0 < m → gain v m + nonzero v ≡ 1 + nonzero (sum v m)
unfolding gain nonzero
gain_at v zero h = absurd (omega arith)
gain_at zero (suc m) h =
    ap (λ (b : Bool). cond b 0 2 + 0) (eqb-zero-suc m) ∙ ap (λ (n : ℕ). 1 + nonzero n) (sym (Laws.zero_sum (suc m)))
gain_at (suc v) (suc m) h = step (eqb (suc v) (suc m)) ∙ ap (λ (n : ℕ). 1 + n) (differs_one (suc v) (suc m))
  where
    step : (b : Bool) → cond b 0 (cond (eqb (suc v) 0) 2 1) + 1 ≡ 1 + differs b
    step true = refl
    step false = ap (λ (b : Bool). cond b 2 1 + 1) (eqb-suc-zero v)

marked_count : (u : List ℕ) → length u ≡ 63
    → weight (added u marks) + 3 ≡ weight u + gain (get_or u 52 0) 32 + gain (get_or u 55 0) 8 + gain (get_or u 62 0) 1
unfolding marks
marked_count u l =
    let a = weight_set u (replicate 63 0) 52 32 l (omega arith) in
    let b = weight_set u (set (replicate 63 0) 52 32) 55 8 l (omega arith) in
    let c = weight_set u (set (set (replicate 63 0) 52 32) 55 8) 62 1 l (omega arith) in
    let z = weight_unmarked u 63 l in
    let p = gain_at (get_or u 52 0) 32 (omega arith) in
    let q = gain_at (get_or u 55 0) 8 (omega arith) in
    let r = gain_at (get_or u 62 0) 1 (omega arith) in
    let x = ap nonzero (Laws.sum_zero (get_or u 52 0)) in
    let y = ap nonzero (Laws.sum_zero (get_or u 55 0)) in
    let w = ap nonzero (Laws.sum_zero (get_or u 62 0)) in
    omega arith

pub pattern_count : (e : List ℕ) (k : ℕ) → length e ≡ 63 → k < 126 → weight (added e (marks_at k)) + 3 ≡ weight e + gains k e
pattern_count e k l h =
    let same : length e ≡ length (marks_at k) = l ∙ sym (marks_at_long k) in
    let there : weight (added e (marks_at k)) ≡ weight (added (placed k e) marks) =
    sym ((kept k).weighs (added e (marks_at k)) (length_added e (marks_at k) same ∙ l))
    ∙ ap weight ((kept k).adds e (marks_at k) same ∙ ap (added (placed k e)) (marks_placed k h))
    in
    let whole : weight (placed k e) ≡ weight e = (kept k).weighs e l in
    let count = marked_count (placed k e) ((kept k).long e) in
    let a = ap (λ (v : ℕ). gain v 32) (placed_get k 52 e (omega arith)) in
    let b = ap (λ (v : ℕ). gain v 8) (placed_get k 55 e (omega arith)) in
    let c = ap (λ (v : ℕ). gain v 1) (placed_get k 62 e (omega arith)) in
    omega arith

-- so start k is listed exactly when the distance of the clean word and the three gains come to at most t + 3
pub listed_by_count : (ring c : List ℕ) (t k : ℕ) → length ring ≡ 63 → Clean c → k < 126 → distance ring c + 3 + t ≤ 11
    → (Start t ring k → distance ring c + gains k (added ring c) ≤ t + 3) × (distance ring c + gains k (added ring c) ≤ t + 3 → Start t ring k)
listed_by_count ring c t k long clean h small =
    let both = listed_by_pattern ring c t k long clean h small in
    let w : distance ring c ≡ weight (added ring c) = distance_weight ring c in
    let n = pattern_count (added ring c) k (length_added ring c (long ∙ sym clean.long) ∙ long) h in
    (λ start. let a = both.0 start in omega arith, λ few. both.1 (omega arith))

-- and where the errors and the marks are more than the radius, only a start with an error at the place of a mark is
pub mark_hit : (ring c : List ℕ) (t k : ℕ) → length ring ≡ 63 → Clean c → k < 126 → distance ring c + 3 + t ≤ 11 → t < distance ring c + 3 → Start t ring k
    → get_or (added ring c) (place_of k 52) 0 ≡ 0 → get_or (added ring c) (place_of k 55) 0 ≡ 0 → get_or (added ring c) (place_of k 62) 0 ≡ 0 → ⊥
unfolding gain
mark_hit ring c t k long clean h small many start x y z =
    let n = (listed_by_count ring c t k long clean h small).0 start in
    let a : gain (get_or (added ring c) (place_of k 52) 0) 32 ≡ 2 = ap (λ (v : ℕ). gain v 32) x in
    let b : gain (get_or (added ring c) (place_of k 55) 0) 8 ≡ 2 = ap (λ (v : ℕ). gain v 8) y in
    let d : gain (get_or (added ring c) (place_of k 62) 0) 1 ≡ 2 = ap (λ (v : ℕ). gain v 1) z in
    omega arith

-- ---- the errors that mending finds, from the ring's power sums

pub word_of : (ring : List ℕ) (t : ℕ) → Listable ring t → Word ring
word_of ring t asked = record { long = asked.long; characters = asked.characters }

added_back : (u v : List ℕ) → length u ≡ length v → added u (added u v) ≡ v
added_back u v h = added_comm u (added u v) ∙ ap (λ (w : List ℕ). added w u) (added_comm u v) ∙ added_twice v u (sym h)

module _ (ring sums : List ℕ) (word : Word ring) (us : PowerSums ring sums) where
  -- the ring without errors that have its sums is clean
  fits-clean : (m : ℕ) (e : List ℕ) → Fits sums 11 m e → Clean (added ring e)
  fits-clean m e f =
      let same : length ring ≡ length e = word.long ∙ sym f.long in
      record {
        long = length_added ring e same ∙ word.long;
        characters = characters_added ring e word.characters f.characters;
        sums = λ i h.
            power_sum_added (58 + i) ring e same ∙ ap₂ sum (sym (us.sum_at i h)) (sym (f.sums i h)) ∙ Laws.sum_self (get_or sums i 0);
      }

  -- and what a clean word differs by from the ring has its sums
  clean-fits : (m : ℕ) (c : List ℕ) → Clean c → distance ring c ≤ m → Fits sums 11 m (added ring c)
  clean-fits m c clean near =
      let same : length ring ≡ length c = word.long ∙ sym clean.long in
      record {
        long = length_added ring c same ∙ word.long;
        characters = characters_added ring c word.characters clean.characters;
        light = le_trans (le_of_eq (sym (distance_weight ring c))) near;
        sums = λ i h.
            us.sum_at i h ∙ sym (Laws.sum_zero (power_sum (58 + i) ring)) ∙ ap (sum (power_sum (58 + i) ring)) (sym (clean.sums i h))
            ∙ sym (power_sum_added (58 + i) ring c same);
      }

  module _ (t m : ℕ) (old : List ℕ) (deciding : Deciding t m) where
    module _ (found : Mended) (mends : Mends sums 11 m (Some found)) where
      light-all : found.weight ≤ m
      light-all = let f = mends.fits.light in let w = mends.weighs in omega arith

      pub pattern_light : found.weight ≤ t + 3
      pattern_light = le_trans light-all deciding.light

      -- those starts whose marks leave few enough errors are those that are listed
      pub by_pattern : (n : ℕ) → n ≡ t + 3 - found.weight → (f new : List ℕ) → ListsThose (LightBy found.word n) old f new → Lists ring t old f new
      by_pattern n e f new l =
          let same : length ring ≡ length found.word = word.long ∙ sym mends.fits.long in
          let back : added ring (added ring found.word) ≡ found.word = added_back ring found.word same in
          let far : distance ring (added ring found.word) ≡ found.weight = distance_added ring found.word same ∙ sym mends.weighs in
          let clean : Clean (added ring found.word) = fits-clean (min m 5) found.word mends.fits in
          let few = light-all in
          let light = pattern_light in
          let apart = deciding.apart in
          let both : (k : ℕ) → k < 126 → (Start t ring k → found.weight + gains k found.word ≤ t + 3) × (found.weight + gains k found.word ≤ t + 3 → Start t ring k) =
          λ k h.
          subst₂ (λ (d : ℕ) (x : List ℕ). (Start t ring k → d + gains k x ≤ t + 3) × (d + gains k x ≤ t + 3 → Start t ring k)) far back
          (listed_by_count ring (added ring found.word) t k word.long clean h (omega arith))
          in
          record {
            starts = l.starts;
            these = those_same (λ k h g. (both k h).1 (omega arith)) (λ k h s. let g = (both k h).0 s in omega arith) l.these;
            count = l.count;
            output = l.output;
          }

    -- and where there is no such pattern, none is listed up to radius 2
    pub by_none : Mends sums 11 m None → t ≤ 2 → Lists ring t old (0 ∷ []) old
    by_none none small =
        record {
          starts = [];
          these =
              none_without_pattern ring t word.long
              (λ c clean near.
              none.none (added ring c) (clean-fits (min m 5) c clean (let a = deciding.enough small in let b = deciding.few in omega arith)));
          count = refl;
          output = refl;
        }
