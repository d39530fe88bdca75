-- From the sums to the errors: where no blot is left, with a blot more, and of a word; each way out of looking for them.
use mathlib.Core.Path.{◌≡◌, sym, ap, ap₂, ◌∙◌, subst}
use mathlib.Core.List.{List}
use Prim.Native.Nat.{ℕ, suc, min, ◌+◌, ◌-◌, ◌/◌, ◌%◌, ◌^◌, ◌<◌, ◌≤◌}
use native.Mathlib.Omega.{arith}
use lib.ListN.{length, get_or, set, length-set}
use lib.Seq.{get_or-set_same, get_or-set_other}
use lib.Bits.{bit_or}
use borrow.Author.Count.{below_more}
use Rattle.std.specs.Prelude.{Option, Some, None}
use Rattle.field.specs.Field.{sum}
use Rattle.field.proofs.Laws
use Rattle.polynomial.specs.Sums.{weight}
use Rattle.polynomial.proofs.Vandermonde.{zeros_get}
use Rattle.code.specs.Word.{Characters, power_sum, marks, added}
use Rattle.code.proofs.Words.{length_added, characters_added, added_get, added_comm, added_twice}
use Rattle.code.proofs.Sums.{power_sum_added}
use Rattle.code.proofs.Lines.{line_long, line_characters, line_sums, sums_line}
use Rattle.code.proofs.Distances.{distance_weight, weight_none}
use Rattle.sums.specs.declared.Sums.{Sums}
use Rattle.sums.specs.Held.{eleven}
use Rattle.mender.specs.declared.Mended.{Mended}
use Rattle.mender.specs.Mender.{Fitting, Mends, MendsTo, Word}
use Rattle.line.specs.Inside.{ErrorSums}
use Rattle.blots.specs.Promises.{seen, outside, BlottedLine}
use Rattle.blots.specs.declared.Errors.{Errors}
use Rattle.blots.specs.Inside.{NoneBefore, FirstAt, Holds, FitsBlotted, Found, NoneFits, Finds, FoundWithout, FindsWithout, FindsNear, place_of, Cleared, Restored}
use Rattle.blots.proofs.Seen.{seen_added, weight_cleared, one_fits_blotted}
use Rattle.blots.proofs.Factors.{cleared_of, nothing_there, fits_cleared, fits_restored, fits_blank, blank_fits}
use Rattle.blots.proofs.Restoring.{first_is, holds_restored}

-- ---- no blot is left

most : (c : ℕ) → c ≤ 11 → min c 11 ≡ c
most c h = omega arith

half : (c : ℕ) → min (c / 2) (c / 2) ≡ c / 2
half c = omega arith

-- what the mender finds, and a set of where it is
module _ (s : List ℕ) (c : ℕ) (small : c ≤ 11) where
  found-to : (o : Option Mended) → Mends s c (c / 2) o → MendsTo s c (c / 2) o
  found-to o mends =
      let q : MendsTo s c (min (c / 2) (c / 2)) o = subst (λ (d : ℕ). MendsTo s d (min (c / 2) (d / 2)) o) (most c small) mends in
      subst (λ (e : ℕ). MendsTo s c e o) (half c) q

  module _ (m : Mended) (mends : Mends s c (c / 2) (Some m)) where
    pub without_any : m.weight ≡ 0 → FoundWithout s c (record { word = m.word; set = 0 })
    without_any z =
        let f : Fitting s c (c / 2) m = found-to (Some m) mends in
        record { fits = f.fits; holds = record { clear = λ k h _. zeros_get m.word (weight_none m.word (sym f.weighs ∙ z)) k } }

pub found_blank : (s m : List ℕ) (c : ℕ) (o : Option Errors) → length m ≡ 63 → NoneBefore m 63 → FindsWithout s c o → Finds s c m o
found_blank s m c (Some r) long blank f = record { fits = fits_blank s m c long blank.zero r.word f.fits; holds = f.holds }
found_blank s m c None long blank f = record { none = λ x g. f.none x (blank_fits s m c long blank.zero x g) }

-- ---- a blot more

module _ (m : List ℕ) (c blot : ℕ) (long : length m ≡ 63) (few : weight m ≤ c) (first : FirstAt m blot) where
  there : get_or m blot 0 ≡ 0 → ⊥
  there = first.there

  inside : blot < 63
  inside = first.inside

  pub some_sum : 1 ≤ c
  some_sum = let w = weight_cleared m blot there in omega arith

  others-few : weight (set m blot 0) ≤ c - 1
  others-few = let w = weight_cleared m blot there in omega arith

  others-after : NoneBefore (set m blot 0) (blot + 1)
  others-after =
      record {
        zero = below_more (λ k. get_or (set m blot 0) k 0 ≡ 0) blot
            (λ k l. get_or-set_other m blot k 0 0 (λ e. omega arith) ∙ first.before k l)
            (get_or-set_same m blot 0 0 (omega (arith, inside)));
      }

  -- the next call has a sum and a blot less
  pub one_fewer : (n : ℕ) → c ≡ n → c - 1 < n
  one_fewer n e = let l = some_sum in omega arith

  module _ (h : Sums) (t : List ℕ) (y : ℕ) (small : c ≤ 11) (ey : y ≡ place_of blot) (clears : Cleared (eleven h) y t) where
    one_more : suc (c - 1) ≡ c
    one_more = let l = some_sum in omega arith

    at_place : Cleared (eleven h) (place_of blot) t
    at_place = subst (λ (p : ℕ). Cleared (eleven h) p t) ey clears

    down : (x : List ℕ) → FitsBlotted (eleven h) c m x → FitsBlotted (eleven h) (suc (c - 1)) m x
    down x f = subst (λ (n : ℕ). FitsBlotted (eleven h) n m x) (sym one_more) f

    under : (x : List ℕ) → FitsBlotted (eleven h) c m x → FitsBlotted t (c - 1) (set m blot 0) (cleared_of (place_of blot) x)
    under x f = fits_cleared (eleven h) t m (c - 1) blot inside (omega (arith, one_more)) there at_place x (down x f)

    -- without the cleared errors there are none
    pub none_cleared : Finds t (c - 1) (set m blot 0) None → NoneFits (eleven h) c m
    none_cleared finds = record { none = λ x f. finds.none (cleared_of (place_of blot) x) (under x f) }

    module _ (r : Errors) (finds : Finds t (c - 1) (set m blot 0) (Some r)) where
      pub word_long : length r.word ≡ 63
      word_long = finds.fits.long

      pub word_is : Word r.word
      word_is = record { long = finds.fits.long; characters = finds.fits.characters }

      -- the cleared errors are one pattern, and have nothing at the blot
      pub none_there : (get_or r.word blot 0 ≡ 0 → ⊥) → NoneFits (eleven h) c m
      none_there d =
          record {
            none = λ x f.
                d (ap (λ (w : List ℕ). get_or w blot 0)
                (one_fits_blotted t (c - 1) (set m blot 0) r.word (cleared_of (place_of blot) x) (length-set m blot 0 ∙ long) finds.fits (under x f))
                ∙ nothing_there (eleven h) t m (c - 1) blot inside (omega (arith, one_more)) there at_place x (down x f));
          }

      pub found_restored : (x : List ℕ) (b : ℕ) → get_or r.word blot 0 ≡ 0 → Restored r.word blot (h.first % 64) x → b ≡ 2 ^ blot
          → Found (eleven h) c m (record { word = x; set = bit_or r.set b })
      found_restored x b none back eb =
          record {
            holds = subst (λ (k : ℕ). Holds (bit_or r.set k) x) (sym eb) (holds_restored r.word blot (h.first % 64) x r.set inside finds.holds back);
            fits =
                subst (λ (n : ℕ). FitsBlotted (eleven h) n m x) one_more
                (fits_restored (eleven h) t m (c - 1) blot inside (omega (arith, one_more)) there at_place r.word x finds.fits none
                (subst (λ (v : ℕ). Restored r.word blot v x) (first_is h) back));
          }

-- what the next call asks for
pub next_call : {m : List ℕ} {blot : ℕ} → FirstAt m blot → length m ≡ 63 → {c : ℕ} → weight m ≤ c → c ≤ 11
    → (c - 1 ≤ 11) × (weight (set m blot 0) ≤ c - 1) × (blot + 1 ≤ 63) × NoneBefore (set m blot 0) (blot + 1)
next_call {m} {blot} first long {c} few small =
    let inside = first.inside in
    (omega arith, others-few m c blot long few first, omega arith, others-after m c blot long few first)

-- ---- of a word

undone : (w x : List ℕ) → length w ≡ length x → added w (added w x) ≡ x
undone w x h = added_comm w (added w x) ∙ ap (λ (l : List ℕ). added l w) (added_comm w x) ∙ added_twice x w (sym h)

-- a word and it with errors added differ, outside the blots, where the errors are
outside_errors : (m w x : List ℕ) → length w ≡ length x → outside m w (added w x) ≡ weight (seen m x)
outside_errors m w x h =
    distance_weight (seen m w) (seen m (added w x)) ∙ ap weight (sym (seen_added m w (added w x)) ∙ ap (seen m) (undone w x h))

pub none_before : (m : List ℕ) → NoneBefore m 0
none_before m = record { zero = λ k h. absurd (omega arith) }

module _ (w m d : List ℕ) (es : ErrorSums w d) where
  sum_is : (k : ℕ) → k < 11 → get_or d k 0 ≡ sum (power_sum (58 + k) w) (power_sum (58 + k) marks)
  sum_is k h =
      ap (λ (s : List ℕ). get_or s k 0) es.both
      ∙ added_get es.of_word es.of_marks (es.word_sums.long ∙ sym es.mark_sums.long) k
      ∙ ap₂ sum (es.word_sums.sum_at k h) (es.mark_sums.sum_at k h)

  pub line_with : length w ≡ 63 → Characters w → (x : List ℕ) → FitsBlotted d 11 m x → BlottedLine m w (added w x)
  line_with long characters x f =
      let same : length w ≡ length x = long ∙ sym f.long in
      record {
        line =
            sums_line (added w x) (length_added w x same ∙ long) (characters_added w x characters f.characters)
            (λ k h.
            power_sum_added (58 + k) w x same ∙ ap (sum (power_sum (58 + k) w)) (sym (f.sums k h) ∙ sum_is k h)
            ∙ Laws.sum_undo (power_sum (58 + k) w) (power_sum (58 + k) marks));
        near = let o = outside_errors m w x same in let g = f.few in omega arith;
      }

  errors-to : length w ≡ 63 → Characters w → (l : List ℕ) → BlottedLine m w l → FitsBlotted d 11 m (added w l)
  errors-to long characters l b =
      let same : length w ≡ length l = long ∙ sym (line_long l b.line) in
      let whole : length (added w l) ≡ 63 = length_added w l same ∙ long in
      record {
        long = whole;
        characters = characters_added w l characters (line_characters l b.line);
        few =
            let o : outside m w l ≡ weight (seen m (added w l)) = distance_weight (seen m w) (seen m l) ∙ ap weight (sym (seen_added m w l)) in
            let g = b.near in
            omega arith;
        sums = λ k h. sum_is k h ∙ sym (power_sum_added (58 + k) w l same ∙ ap (sum (power_sum (58 + k) w)) (line_sums l b.line k h));
      }

  pub found_near : (o : Option Errors) → Finds d 11 m o → FindsNear w m o
  found_near (Some r) finds = record { long = finds.fits.long; is = λ long characters. line_with long characters r.word finds.fits }
  found_near None finds = record { none = λ long characters l b. finds.none (added w l) (errors-to long characters l b) }
