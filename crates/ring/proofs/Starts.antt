-- A start is listed exactly where errors as many as the radius at most have the ring's power sums with those of the marks at that start added.
use mathlib.Core.Path.{◌≡◌, sym, ap, ap₂, ◌∙◌, subst}
use mathlib.Core.Bool.{Bool}
use mathlib.Core.List.{List}
use Prim.Native.Nat.{ℕ, ◌+◌, ◌<◌, ◌≤◌}
use native.Mathlib.Omega.{arith}
use lib.ListN.{length, get_or}
use lib.Seq.{ext_get_or}
use Rattle.refusal.specs.Promise.{Tells}
use Rattle.field.specs.Field.{sum}
use Rattle.field.proofs.Laws
use Rattle.polynomial.specs.Sums.{weight}
use Rattle.code.specs.Word.{power_sum, Clean, added, marks, Line, distance}
use Rattle.code.specs.Inside.{PowerSums}
use Rattle.code.proofs.Words.{listed_long, listed_get, length_added, added_get, characters_added}
use Rattle.code.proofs.Distances.{distance_weight, distance_added}
use Rattle.code.proofs.Sums.{power_sum_added}
use Rattle.code.proofs.Lines.{marks_long, unmarked, marked_line, line_long, line_characters}
use Rattle.mender.specs.Mender.{Word}
use Rattle.ring.specs.Ring.{placed, Start}
use Rattle.ring.specs.Promises.{Lists}
use Rattle.ring.specs.Inside.{seen, marks_at, MarkSums, Listable, ErrorsFit, mark_sums, ErrorsFitAt, ListsThose}
use Rattle.ring.proofs.Placing.{kept, placed_again}
use Rattle.ring.proofs.Those.{those_same}
use Rattle.ring.proofs.marks.Marks.{marks_at_long, marks_at_characters, marks_placed}

-- ---- a word of the ring is a line at start k where it has the power sums of the marks there

pub line_there : (k : ℕ) (v : List ℕ) → k < 126 → Word v → ((i : ℕ) → i < 11 → power_sum (58 + i) v ≡ power_sum (58 + i) (marks_at k)) → Line (placed k v)
line_there k v h word sums =
    let same : length v ≡ length (marks_at k) = word.long ∙ sym (marks_at_long k) in
    marked_line (placed k v) ((kept k).long v)
    (subst Clean ((kept k).adds v (marks_at k) same ∙ ap (added (placed k v)) (marks_placed k h))
    ((kept k).cleans (added v (marks_at k))
    (record {
      long = length_added v (marks_at k) same ∙ word.long;
      characters = characters_added v (marks_at k) word.characters (marks_at_characters k);
      sums = λ i l.
          power_sum_added (58 + i) v (marks_at k) same ∙ ap (λ (s : ℕ). sum s (power_sum (58 + i) (marks_at k))) (sums i l)
          ∙ Laws.sum_self (power_sum (58 + i) (marks_at k));
    })))

-- and a line of start k, put back to its ring places, has them
pub sums_there : (k : ℕ) (l : List ℕ) → Line l → (i : ℕ) → i < 11 → power_sum (58 + i) (placed (seen k 0) l) ≡ power_sum (58 + i) (marks_at k)
unfolding marks_at
sums_there k l line i h =
    let j : ℕ = seen k 0 in
    Laws.sum_eq (power_sum (58 + i) (placed (seen k 0) l)) (power_sum (58 + i) (placed (seen k 0) marks))
    (sym (power_sum_added (58 + i) (placed (seen k 0) l) (placed (seen k 0) marks) ((kept (seen k 0)).long l ∙ sym ((kept (seen k 0)).long marks)))
    ∙ ap (power_sum (58 + i)) (sym ((kept (seen k 0)).adds l marks (line_long l line ∙ sym marks_long)))
    ∙ ((kept (seen k 0)).cleans (added l marks) (unmarked l line)).sums i h)

-- ---- the errors

module _ (ring sums here : List ℕ) (k t : ℕ) (word : Word ring) (small : t ≤ 5) (h : k < 126) (us : PowerSums ring sums) (ms : MarkSums k here) where
  sum_is : (i : ℕ) → i < 11 → get_or (added sums here) i 0 ≡ sum (power_sum (58 + i) ring) (power_sum (58 + i) (marks_at k))
  sum_is i l = added_get sums here (us.long ∙ sym ms.long) i ∙ ap₂ sum (us.sum_at i l) (ms.sum_at i l)

  -- the line within the radius, put back to its ring places, is the ring with such errors added
  pub start_errors : Start t ring k → ErrorsFit (added sums here) t
  start_errors (l, p) =
      let back : List ℕ = placed (seen k 0) l in
      let same : length ring ≡ length (placed (seen k 0) l) = word.long ∙ sym ((kept (seen k 0)).long l) in
      let far : distance ring (placed (seen k 0) l) ≡ distance (placed k ring) l =
      sym ((kept k).apart ring (placed (seen k 0) l) word.long ((kept (seen k 0)).long l))
      ∙ ap (distance (placed k ring)) (placed_again k l (line_long l p.line) h)
      in
      let near : distance (placed k ring) l ≤ t = p.near in (
        added ring (placed (seen k 0) l),
        record {
          long = length_added ring (placed (seen k 0) l) same ∙ word.long;
          characters = characters_added ring (placed (seen k 0) l) word.characters ((kept (seen k 0)).characters l (line_characters l p.line));
          light = let e = distance_weight ring (placed (seen k 0) l) in omega arith;
          sums = λ i b.
              sum_is i b ∙ ap (sum (power_sum (58 + i) ring)) (sym (sums_there k l p.line i b))
              ∙ sym (power_sum_added (58 + i) ring (placed (seen k 0) l) same);
        },
      )

  -- and the ring with such errors added is a line at the start
  pub errors_start : ErrorsFit (added sums here) t → Start t ring k
  errors_start (x, f) =
      let same : length ring ≡ length x = word.long ∙ sym f.long in
      let long : length (added ring x) ≡ 63 = length_added ring x same ∙ word.long in
      let far : distance (placed k ring) (placed k (added ring x)) ≡ distance ring (added ring x) = (kept k).apart ring (added ring x) word.long long in
      let near : distance ring (added ring x) ≡ weight x = distance_added ring x same in (
        placed k (added ring x),
        record {
          line = line_there k (added ring x) h (record { long = long; characters = characters_added ring x word.characters f.characters })
              (λ i b.
              power_sum_added (58 + i) ring x same ∙ ap (sum (power_sum (58 + i) ring)) (sym (f.sums i b) ∙ sum_is i b)
              ∙ Laws.sum_undo (power_sum (58 + i) ring) (power_sum (58 + i) (marks_at k)));
          near = let light = f.light in omega arith;
        },
      )

  pub start_told : (b : Bool) → Tells (ErrorsFit (added sums here) t) b → Tells (Start t ring k) b
  start_told b m = record { holds = λ e. errors_start (m.holds e); fails = λ e s. m.fails e (start_errors s) }

-- ---- the sums of the marks at a start are one list

pub mark_sums_at : (k : ℕ) → MarkSums k (mark_sums k)
unfolding mark_sums
mark_sums_at k =
    record {
      long = listed_long (λ i. power_sum (58 + i) (marks_at k)) 0 11;
      sum_at = λ i h. listed_get (λ i. power_sum (58 + i) (marks_at k)) 11 i h;
    }

pub marks_only : (k : ℕ) (s : List ℕ) → MarkSums k s → s ≡ mark_sums k
marks_only k s m =
    let all = mark_sums_at k in
    ext_get_or 0 s (mark_sums k) (m.long ∙ sym all.long)
    (λ i h. let l : i < 11 = omega (arith, m.long) in m.sum_at i l ∙ sym (all.sum_at i l))

-- those starts for which errors have the sums are those that are listed
pub by_sums : (ring sums : List ℕ) (t : ℕ) (old f new : List ℕ) → Listable ring t → PowerSums ring sums → ListsThose (ErrorsFitAt sums t) old f new
    → Lists ring t old f new
by_sums ring sums t old f new asked us l =
    let word : Word ring = record { long = asked.long; characters = asked.characters } in
    record {
      starts = l.starts;
      these =
          those_same (λ k h. errors_start ring sums (mark_sums k) k t word asked.small h us (mark_sums_at k))
          (λ k h. start_errors ring sums (mark_sums k) k t word asked.small h us (mark_sums_at k)) l.these;
      count = l.count;
      output = l.output;
    }
