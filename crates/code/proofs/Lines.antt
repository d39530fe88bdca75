-- Clean words and lines: sums of clean words, the marks put on and taken off, and how a test tells a line.
use mathlib.Core.Path.{◌≡◌, refl, sym, ap, ap₂, ◌∙◌, subst}
use mathlib.Core.List.{List}
use Prim.Native.Nat.{ℕ, ◌+◌, ◌<◌, ◌≤◌}
use native.Mathlib.Nat.{le_of_eq}
use native.Mathlib.Omega.{arith}
use lib.ListN.{length, get_or, replicate}
use lib.Dec.{T, ltb, ltb→lt}
use Rattle.numbers.proofs.Range.{each, each_at}
use Rattle.field.specs.Field.{sum}
use Rattle.field.proofs.Laws
use Rattle.polynomial.specs.Sums.{nonzero, weight, Zeros}
use Rattle.polynomial.proofs.Theorems.{vanishing_sums}
use Rattle.code.specs.Word.{Characters, power_sum, Clean, added, marks, Line, text, number}
use Rattle.code.proofs.Words.{characters_below, length_added, characters_added, added_twice}
use Rattle.code.proofs.Sums.{places, places_good, values_63, power_sum_moment, power_sum_added}

-- ---- clean words

-- at most 11 characters that are not 0, and eleven sums in a row that are 0
pub clean_light : (w : List ℕ) → Clean w → weight w ≤ 11 → Zeros w
clean_light w c h =
    vanishing_sums (places 63) w 11 58 (places_good 63 (omega arith)) (values_63 w c.long c.characters) h
    (λ k l. sym (power_sum_moment (58 + k) w c.long) ∙ c.sums k l)

pub clean_added : (u v : List ℕ) → Clean u → Clean v → Clean (added u v)
clean_added u v cu cv =
    let same : length u ≡ length v = cu.long ∙ sym cv.long in
    record {
      long = length_added u v same ∙ cu.long;
      characters = characters_added u v cu.characters cv.characters;
      sums = λ k h. power_sum_added (58 + k) u v same ∙ ap₂ sum (cu.sums k h) (cv.sums k h) ∙ Laws.sum_self 0;
    }

-- ---- the marks

pub marks_long : length marks ≡ 63
unfolding marks
marks_long = refl

marks_test : T (each 63 (λ a. ltb (get_or marks a 0) 64))
unfolding marks
marks_test = tt

pub marks_characters : Characters marks
marks_characters =
    characters_below marks 63 (le_of_eq marks_long) (λ a h. ltb→lt (get_or marks a 0) 64 (each_at 63 (λ a. ltb (get_or marks a 0) 64) marks_test a h))

pub marks_weight : weight marks ≡ 3
unfolding weight nonzero marks
marks_weight = refl

-- they stand after the text and the number
pub marks_text : text marks ≡ replicate 50 0
unfolding marks
marks_text = refl

pub marks_number : number marks ≡ 0
unfolding marks
marks_number = refl

-- ---- lines

pub clean_line : (w : List ℕ) → Clean w → Line (added w marks)
clean_line w c = record { word = w; clean = c; marked = refl }

module _ (l : List ℕ) where
  pub marked_line : length l ≡ 63 → Clean (added l marks) → Line l
  marked_line h c = record { word = added l marks; clean = c; marked = sym (added_twice l marks (h ∙ sym marks_long)) }

  module _ (line : Line l) where
    same_long : length line.word ≡ length marks
    same_long = line.clean.long ∙ sym marks_long

    pub unmarked : Clean (added l marks)
    unmarked = subst Clean (sym (ap (λ (w : List ℕ). added w marks) line.marked ∙ added_twice line.word marks same_long)) line.clean

    pub line_long : length l ≡ 63
    line_long = ap length line.marked ∙ length_added line.word marks same_long ∙ line.clean.long

    pub line_characters : Characters l
    line_characters = subst Characters (sym line.marked) (characters_added line.word marks line.clean.characters marks_characters)

    -- the sums of a line are those of the marks
    pub line_sums : (k : ℕ) → k < 11 → power_sum (58 + k) l ≡ power_sum (58 + k) marks
    line_sums k h =
        Laws.sum_eq (power_sum (58 + k) l) (power_sum (58 + k) marks)
        (sym (power_sum_added (58 + k) l marks (line_long ∙ sym marks_long)) ∙ unmarked.sums k h)

  -- and such characters are a line
  pub sums_line : length l ≡ 63 → Characters l → ((k : ℕ) → k < 11 → power_sum (58 + k) l ≡ power_sum (58 + k) marks) → Line l
  sums_line h r s =
      let same : length l ≡ length marks = h ∙ sym marks_long in
      marked_line h
      (record {
        long = length_added l marks same ∙ h;
        characters = characters_added l marks r marks_characters;
        sums = λ k b.
            power_sum_added (58 + k) l marks same
            ∙ ap (λ (t : ℕ). sum t (power_sum (58 + k) marks)) (s k b) ∙ Laws.sum_self (power_sum (58 + k) marks);
      })

-- the marks are themselves a line, that of 0 text and number 0
pub marks_line : Line marks
marks_line = sums_line marks marks_long marks_characters (λ k h. refl)
