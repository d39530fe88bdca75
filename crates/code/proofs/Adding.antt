-- Lines and clean words added: which sums are lines and which are clean, what text and number a sum has, and how far a clean word lies from every line.
use mathlib.Core.Path.{◌≡◌, sym, ap, ap₂, ◌∙◌, subst}
use mathlib.Core.Logic.{⊎_elim}
use mathlib.Core.List.{List}
use Prim.Native.Nat.{ℕ, ◌+◌, ◌*◌, ◌<◌, ◌≤◌}
use native.Mathlib.Omega.{arith}
use lib.Bits.{xor_block}
use lib.ListN.{length, get_or}
use lib.Seq.{length-take-le}
use Rattle.numbers.proofs.Cases.{le_or_lt}
use Rattle.field.specs.Field.{sum}
use Rattle.field.proofs.Laws
use Rattle.code.specs.Word.{Characters, Clean, added, marks, Line, text, number, distance}
use Rattle.code.proofs.Words.{added_get, take_added, added_assoc, added_none, added_both}
use Rattle.code.proofs.Distances.{distance_comm, distance_self, distance_added, triangle}
use Rattle.code.proofs.Lines.{
  clean_added,
  marks_long,
  marks_characters,
  marks_weight,
  marks_text,
  marks_number,
  unmarked,
  line_long,
  line_characters,
}
use Rattle.code.proofs.Apart.{clean_near}

-- ---- what a sum is

-- a line and a line: the marks go away
pub lines_added : (u v : List ℕ) → Line u → Line v → Clean (added u v)
lines_added u v lu lv =
    subst Clean (added_both u v marks (line_long u lu ∙ sym marks_long) (line_long v lv ∙ sym marks_long))
    (clean_added (added u marks) (added v marks) (unmarked u lu) (unmarked v lv))

-- a clean word and a line: the marks stay
pub line_added : (c l : List ℕ) → Clean c → Line l → Line (added c l)
line_added c l cc line =
    record {
      word = added c line.word;
      clean = clean_added c line.word cc line.clean;
      marked = ap (added c) line.marked ∙ sym (added_assoc c line.word marks);
    }

-- ---- its text and its number

pub text_added : (u v : List ℕ) → text (added u v) ≡ added (text u) (text v)
text_added u v = take_added 50 u v

-- the low halves are below 64, so that the halves do not meet
pub number_added : (u v : List ℕ) → length u ≡ length v → Characters u → Characters v → number (added u v) ≡ sum (number u) (number v)
unfolding sum
number_added u v h cu cv =
    ap₂ (λ (x y : ℕ). x * 64 + y) (added_get u v h 50) (added_get u v h 51)
    ∙ sym (xor_block 6 (get_or u 50 0) (get_or v 50 0) (get_or u 51 0) (get_or v 51 0) (cu 51) (cv 51))

pub lines_number : (u v : List ℕ) → Line u → Line v → number (added u v) ≡ sum (number u) (number v)
lines_number u v lu lv = number_added u v (line_long u lu ∙ sym (line_long v lv)) (line_characters u lu) (line_characters v lv)

module _ (w : List ℕ) (long : length w ≡ 63) where
  -- the marks change neither
  pub text_marked : text (added w marks) ≡ text w
  text_marked = text_added w marks ∙ ap (added (text w)) marks_text ∙ added_none 50 (text w) (length-take-le 50 w (omega arith))

  pub number_marked : Characters w → number (added w marks) ≡ number w
  number_marked c =
      number_added w marks (long ∙ sym marks_long) c marks_characters ∙ ap (sum (number w)) marks_number ∙ Laws.sum_zero (number w)

-- ---- how far a clean word is from a line

pub distance_marked : (w : List ℕ) → length w ≡ 63 → distance w (added w marks) ≡ 3
distance_marked w long = distance_added w marks (long ∙ sym marks_long) ∙ marks_weight

-- a line nearer than 3 would have the clean word for its own, and that is 3 away
pub clean_apart : (c l : List ℕ) → Clean c → Line l → 3 ≤ distance c l
clean_apart c l cc line = ⊎_elim (λ (h : 3 ≤ distance c l). h) (λ (h : distance c l < 3). absurd (too-near h)) (le_or_lt 3 (distance c l))
  where
    own : List ℕ
    own = added l marks

    to-own : distance l own ≡ 3
    to-own = distance_marked l (line_long l line)

    too-near : distance c l < 3 → ⊥
    too-near h =
        let t : distance c own ≤ distance c l + distance l own =
        triangle c l own (cc.long ∙ sym (line_long l line)) ((unmarked l line).long ∙ sym (line_long l line))
        in
        let o = to-own in
        let e : c ≡ own = clean_near c own cc (unmarked l line) (omega arith) in
        let d : distance c l ≡ 3 = ap (λ (w : List ℕ). distance w l) e ∙ distance_comm own l ∙ to-own in
        omega arith

-- so no word is both
pub never_both : (w : List ℕ) → Clean w → Line w → ⊥
never_both w c l = let h = clean_apart w w c l in let z = distance_self w in omega arith
