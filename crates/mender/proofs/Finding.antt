-- The word that is found is the one that fits, and where a test fails none does; from errors to the nearest word with given sums.
use mathlib.Core.Path.{◌≡◌, sym, ap, ◌∙◌, subst}
use mathlib.Core.Bool.{Bool, true, false, cond}
use mathlib.Core.Logic.{inl, inr, ⊎_elim}
use mathlib.Core.List.{List}
use Rattle.std.specs.Prelude.{Option, Some, None}
use Prim.Native.Nat.{ℕ, min, ◌+◌, ◌-◌, ◌/◌, ◌<◌, ◌≤◌}
use native.Mathlib.Nat.{le_trans, le_of_eq}
use native.Mathlib.Omega.{arith}
use lib.ListN.{get_or, length, replicate, get_or-eq_default}
use lib.Seq.{ext_get_or}
use lib.Dec.{eqb}
use Rattle.numbers.proofs.Cases.{le_or_lt}
use Rattle.refusal.specs.Promise.{Tells}
use Rattle.field.specs.Field.{sum, product, α, power}
use Rattle.field.specs.Inside.{inverse}
use Rattle.field.proofs.Laws
use Rattle.polynomial.specs.Sums.{weight}
use Rattle.polynomial.specs.Polynomial.{poly_at, over}
use Rattle.code.specs.Word.{Characters, power_sum, Clean, added, distance}
use Rattle.code.specs.Inside.{PowerSums, Ends}
use Rattle.code.proofs.Words.{zero_get, characters_below, length_added, added_get, characters_added}
use Rattle.code.proofs.Distances.{distance_weight, distance_added}
use Rattle.code.proofs.Sums.{power_sum_added}
use Rattle.mender.specs.declared.Mended.{Mended}
use Rattle.mender.specs.Mender.{Fits, Fitting, NoneFits, MendsTo, Mends, Near, NoneNear, Nearest, HasSums}
use Rattle.mender.specs.Inside.{mixed, coef, value_of, ValuedFrom}
use Rattle.mender.specs.Found.{SumsTo, Repaired}
use Rattle.mender.proofs.Fitting.{Least, combines_more, value_is}

-- ---- the values are characters

value_small : (p s : List ℕ) (x : ℕ) → value_of p s x < 64
unfolding value_of
value_small p s x = pick (eqb (poly_at p x) 0) (eqb (poly_at (over p x) x) 0)
  where
    pick : (a b : Bool) → cond a (cond b 0 (product (product (mixed (coef (over p x)) s 0) (power x 5)) (inverse (poly_at (over p x) x)))) 0 < 64
    pick true true = omega arith
    pick true false = Laws.product_lt (product (mixed (coef (over p x)) s 0) (power x 5)) (inverse (poly_at (over p x) x))
    pick false b = omega arith

valued_at : (p s w : List ℕ) → ValuedFrom p s w 63 → (a : ℕ) → a < 63 → get_or w a 0 ≡ value_of p s (power α (62 - a))
valued_at p s w v a h = ap (λ (b : ℕ). get_or w b 0) (twice-from a h) ∙ v.entry (62 - a) (omega arith)
  where
    twice-from : (a : ℕ) → a < 63 → a ≡ 62 - (62 - a)
    twice-from a h = omega arith

valued_characters : (p s w : List ℕ) → ValuedFrom p s w 63 → Characters w
valued_characters p s w v =
    characters_below w 63 (le_of_eq v.long)
    (λ a h. subst (λ (t : ℕ). t < 64) (sym (valued_at p s w v a h)) (value_small p s (power α (62 - a))))

-- ---- what a locator gives is the one word that fits

-- e errors at most, told by n windows of c sums
pub record Told (c e n : ℕ) : Type 0 where
  pub few : c ≤ 11
  pub most : e ≤ 5
  pub enough : e ≤ n
  pub among : n + e ≤ c

module _ (s : List ℕ) (c e n r : ℕ) (p : List ℕ) (b : Told c e n) (a : Least s e n r p) where
  only-word : (w : List ℕ) → ValuedFrom p s w 63 → (u : List ℕ) → Fits s c e u → w ≡ u
  only-word w v u t =
      ext_get_or 0 w u (v.long ∙ sym t.long)
      (λ i k. valued_at p s w v i (omega (arith, v.long))
      ∙ value_is s c e n u b.enough b.among b.most t p r a i (omega (arith, v.long)))

  -- of eleven sums a sixth window is there, and the locator combines it to 0 too
  sixth : c ≡ 11 → (u : List ℕ) → Fits s c e u → mixed (coef p) s 5 ≡ 0
  sixth q u t =
      combines_more s c e n u b.enough b.among b.most t p r a 5
      (λ k. ⊎_elim (λ (g : 6 ≤ k). inl (get_or-eq_default p 0 (le_trans (le_of_eq a.wide) g))) (λ (g : k < 6). inr (omega arith)) (le_or_lt 6 k))

-- ---- the ways out of find

module _ (s : List ℕ) (c e n r : ℕ) (p : List ℕ) (b : Told c e n) (a : Least s e n r p) where
  pub found_no_sixth : c ≡ 11 → (mixed (coef p) s 5 ≡ 0 → ⊥) → NoneFits s c e
  found_no_sixth q d = record { none = λ u t. d (sixth s c e n r p b a q u t) }

  module _ (w : List ℕ) (v : ValuedFrom p s w 63) (m : ℕ) (weighs : m ≡ weight w) where
    pub found_heavy : e < m → NoneFits s c e
    found_heavy h =
        record {
          none = λ u t.
              let z : m ≡ weight u = weighs ∙ ap weight (only-word s c e n r p b a w v u t) in
              let y = t.light in
              omega arith;
        }

    module _ (f : Bool) (has : Tells (SumsTo s w c) f) where
      pub found_other : f ≡ false → NoneFits s c e
      found_other q =
          record {
            none = λ u y.
                has.fails q (λ k i. y.sums k i ∙ ap (power_sum (58 + k)) (sym (only-word s c e n r p b a w v u y)));
          }

      pub found_word : (i j : ℕ) → Ends (replicate 63 0) w i j → m ≤ e → f ≡ true → Fitting s c e (record { weight = m; first = i; last = j; word = w })
      found_word i j ends y q =
          record {
            fits = record {
              long = v.long;
              characters = valued_characters p s w v;
              light = omega arith;
              sums = has.holds q;
            };
            weighs = weighs;
            ends = ends;
          }

-- ---- mend

pub mended : (s : List ℕ) (c e x y : ℕ) (m : Option Mended) → x ≡ min c 11 → y ≡ min e (x / 2) → MendsTo s x y m → Mends s c e m
mended s c e x y m ex ey t =
    subst (λ (k : ℕ). MendsTo s (min c 11) (min e (k / 2)) m) ex
    (subst (λ (k : ℕ). MendsTo s (min c 11) k m) ey (subst (λ (k : ℕ). MendsTo s k y m) ex t))

pub mended_bounds : (c e x y : ℕ) → x ≡ min c 11 → y ≡ min e (x / 2) → (x ≤ 11) × (y ≤ x / 2)
mended_bounds c e x y ex ey = (omega arith, omega arith)

-- ---- the nearest word with given sums

module _ (P : List ℕ → Type 0) (w : List ℕ) (e : ℕ) where
  pub other_length : (length w ≡ 63 → ⊥) → NoneNear P w e
  other_length d = record { none = λ y v p l. d y.long }

  pub out_of_range : (b : Bool) → Tells (Characters w) b → b ≡ false → NoneNear P w e
  out_of_range b t q = record { none = λ y v p l. t.fails q y.characters }

-- of a word w with sums u, and sums s wanted: the errors have the sums of both together
module _ (w u s d : List ℕ) (e : ℕ) (b : Bool) (long : length w ≡ 63) (range : Tells (Characters w) b) (in-range : b ≡ true) (us : PowerSums w u)
    (ls : length s ≡ 11) (ed : d ≡ added u s) where
  sum_is : (k : ℕ) → k < 11 → get_or d k 0 ≡ sum (power_sum (58 + k) w) (get_or s k 0)
  sum_is k h = ap (λ (l : List ℕ). get_or l k 0) ed ∙ added_get u s (us.long ∙ sym ls) k ∙ ap (λ (t : ℕ). sum t (get_or s k 0)) (us.sum_at k h)

  -- a word with the sums wanted is w with such errors added
  to-fits : (v : List ℕ) → HasSums s v → distance w v ≤ e → Fits d 11 e (added w v)
  to-fits v y l =
      let same : length w ≡ length v = long ∙ sym y.word.long in
      record {
        long = length_added w v same ∙ long;
        characters = characters_added w v (range.holds in-range) y.word.characters;
        light = le_trans (le_of_eq (sym (distance_weight w v))) l;
        sums = λ k h. sum_is k h ∙ ap (sum (power_sum (58 + k) w)) (sym (y.sums k h)) ∙ sym (power_sum_added (58 + k) w v same);
      }

  -- and w with such errors added has them
  to-sums : (x : List ℕ) → Fits d 11 e x → HasSums s (added w x)
  to-sums x f =
      let same : length w ≡ length x = long ∙ sym f.long in
      record {
        word = record { long = length_added w x same ∙ long; characters = characters_added w x (range.holds in-range) f.characters };
        sums = λ k h.
            power_sum_added (58 + k) w x same ∙ ap (sum (power_sum (58 + k) w)) (sym (f.sums k h) ∙ sum_is k h)
            ∙ Laws.sum_undo (power_sum (58 + k) w) (get_or s k 0);
      }

  pub none_near : NoneFits d 11 e → NoneNear (HasSums s) w e
  none_near f = record { none = λ y v p l. f.none (added w v) (to-fits v p l) }

  pub one_near : (m : Mended) → Repaired d w e m → Near (HasSums s) w e m
  one_near m r =
      let x : Fits d 11 e r.errors = r.fits in
      record {
        of_word = record { long = long; characters = range.holds in-range };
        is = subst (HasSums s) (sym r.word) (to-sums r.errors x);
        apart = r.weighs ∙ sym (ap (distance w) r.word ∙ distance_added w r.errors (long ∙ sym x.long));
        within = le_trans (le_of_eq r.weighs) x.light;
        ends = r.ends;
      }

-- ---- one property for another that holds of the same words

pub nearest_as : (P Q : List ℕ → Type 0) (w : List ℕ) (e : ℕ) (m : Option Mended) → ((v : List ℕ) → P v → Q v) → ((v : List ℕ) → Q v → P v)
    → Nearest P w e m → Nearest Q w e m
nearest_as P Q w e (Some m) to from n =
    record {
      of_word = n.of_word;
      is = to m.word n.is;
      apart = n.apart;
      within = n.within;
      ends = n.ends;
    }
nearest_as P Q w e None to from n = record { none = λ y v q l. n.none y v (from v q) l }

-- the clean words are those whose sums are all 0
pub nearest_clean : (w : List ℕ) (e : ℕ) (m : Option Mended) → Nearest (HasSums (replicate 11 0)) w e m → Nearest Clean w e m
nearest_clean w e m n =
    nearest_as (HasSums (replicate 11 0)) Clean w e m
    (λ v y. record { long = y.word.long; characters = y.word.characters; sums = λ k h. y.sums k h ∙ zero_get 11 k })
    (λ v y. record { word = record { long = y.long; characters = y.characters }; sums = λ k h. y.sums k h ∙ sym (zero_get 11 k) }) n
