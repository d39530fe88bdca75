-- What is proved of words and lines, in the paper's order: the address rule, the distance of 12, the line near a word, where a word was changed, text and number, turning and reversing, words added, and one result.
use mathlib.Core.Path.{◌≡◌, sym, ap, ◌∙◌}
use mathlib.Core.Bool.{Bool}
use mathlib.Core.Logic.{⊎_elim}
use mathlib.Core.List.{List}
use Prim.Native.Nat.{ℕ, ◌+◌, ◌-◌, ◌<◌, ◌≤◌}
use native.Mathlib.Omega.{arith}
use lib.Bits.{bit_xor}
use lib.ListN.{length, get_or, replicate, take}
use lib.Seq.{ext_get_or}
use Rattle.refusal.proofs.Theorems.{one_verdict}
use Rattle.numbers.proofs.Cases.{le_or_lt}
use Rattle.field.specs.Field.{sum, product, α, power}
use Rattle.field.proofs.Laws
use Rattle.polynomial.specs.Sums.{weight}
use Rattle.code.specs.Word.{power_sum, Clean, added, marks, Line, text, number, distance, nowhere, first_changed, last_changed, turned, reversed}
use Rattle.code.specs.Wrong.{wrong_at, WrongCharacter}
use Rattle.code.specs.Promises.{TellsLine}
use Rattle.code.specs.Inside.{PowerSums}
use Rattle.code.proofs.Sums.{power_sum_lt}
use Rattle.code.proofs.Distances
use Rattle.code.proofs.Changes
use Rattle.code.proofs.Words
use Rattle.code.proofs.Lines.{clean_added, marks_line, line_long, line_characters}
use Rattle.code.proofs.Apart
use Rattle.code.proofs.Address.{zeroth_sum, first_sum, sums_ratio, address_by_logs}
use Rattle.code.proofs.Turning
use Rattle.code.proofs.Adding

-- one wrong character tells its value and its address
pub one_wrong_character : (w : List ℕ) (a v : ℕ) → Clean w → a < 63 → 0 < v → v < 64 → WrongCharacter (wrong_at w a v) a v
one_wrong_character w a v c ha p hv =
    let x : List ℕ = wrong_at w a v in
    let z : power_sum 0 (wrong_at w a v) ≡ v = zeroth_sum w a v c ha hv in
    let f : power_sum 1 (wrong_at w a v) ≡ product v (power α (62 - a)) = first_sum w a v c ha hv in
    record {
      zeroth = z;
      first = f;
      ratio = sums_ratio w a v c ha hv p;
      first_log = Laws.has_log (power_sum 1 x)
          (rw f (Laws.product_pos v (power α (62 - a)) p hv (Laws.power_pos α (62 - a) (omega arith) (omega arith)) (Laws.power_lt α (62 - a))))
          (power_sum_lt 1 x);
      zeroth_log = Laws.has_log (power_sum 0 x) (rw z p) (power_sum_lt 0 x);
      address = address_by_logs w a v c ha hv;
    }

-- the marks alone are a line
pub zero_line : Line marks
zero_line = marks_line

-- a clean word with at most 11 characters that are not 0 is 0
pub light_clean_word : (w : List ℕ) → Clean w → weight w ≤ 11 → w ≡ replicate 63 0
light_clean_word = Apart.clean_zero

-- two different lines differ in at least 12 characters
pub twelve_apart : (u v : List ℕ) → Line u → Line v → (u ≡ v → ⊥) → 12 ≤ distance u v
twelve_apart u v lu lv d =
    ⊎_elim (λ (h : 12 ≤ distance u v). h) (λ (h : distance u v < 12). absurd (d (Apart.lines_near u v lu lv (omega arith))))
    (le_or_lt 12 (distance u v))

-- the distance is the same from either end, 0 between a word and itself alone, and never longer than by way of a third
pub symmetric : (u v : List ℕ) → distance u v ≡ distance v u
symmetric = Distances.distance_comm

pub apart_from_itself : (u : List ℕ) → distance u u ≡ 0
apart_from_itself = Distances.distance_self

pub not_apart : (u v : List ℕ) → length u ≡ length v → distance u v ≡ 0 → u ≡ v
not_apart = Distances.distance_zero

pub triangle_inequality : (u w v : List ℕ) → length u ≡ length w → length v ≡ length w → distance u v ≤ distance u w + distance w v
triangle_inequality = Distances.triangle

-- if a line lies within t, t at most 5, it is the only one
pub one_line_near : (w u v : List ℕ) (t : ℕ) → length w ≡ 63 → t ≤ 5 → Line u → Line v → distance w u ≤ t → distance w v ≤ t → u ≡ v
one_line_near w u v t h l lu lv p q =
    Apart.lines_near u v lu lv
    (let d = Apart.both_near w u v t (line_long u lu ∙ sym h) (line_long v lv ∙ sym h) p q in omega arith)

-- and so with clean words
pub one_clean_near : (w u v : List ℕ) (t : ℕ) → length w ≡ 63 → t ≤ 5 → Clean u → Clean v → distance w u ≤ t → distance w v ≤ t → u ≡ v
one_clean_near w u v t h l cu cv p q =
    Apart.clean_near u v cu cv
    (let d = Apart.both_near w u v t (cu.long ∙ sym h) (cv.long ∙ sym h) p q in omega arith)

-- a word was changed at the first changed address and at the last, before the one and after the other it was not, and so the first is not beyond the
-- last; both are 63 where it was not changed at all, and neither is anywhere else
module _ (w l : List ℕ) (long : length w ≡ 63) (as_long : length l ≡ 63) where
  pub first_changed_lem : (w ≡ l → ⊥) → Changes.First w l (first_changed w l)
  first_changed_lem = Changes.first_there w l (long ∙ sym as_long)

  pub last_changed_lem : (w ≡ l → ⊥) → Changes.Last w l (last_changed w l)
  last_changed_lem = Changes.last_there w l (long ∙ sym as_long)

  pub unchanged : w ≡ l → (first_changed w l ≡ nowhere) × (last_changed w l ≡ nowhere)
  unchanged q = (ap (first_changed w) (sym q) ∙ Changes.nowhere_first w, ap (last_changed w) (sym q) ∙ Changes.nowhere_last w)

  pub changed_inside : (w ≡ l → ⊥) → (first_changed w l < nowhere) × (last_changed w l < nowhere)
  changed_inside d = let f = (first_changed_lem d).inside in let t = (last_changed_lem d).inside in (omega arith, omega arith)

  -- where they are one address, one character was changed
  pub one_changed : (w ≡ l → ⊥) → first_changed w l ≡ last_changed w l → distance w l ≡ 1
  one_changed = Changes.one_there w l (long ∙ sym as_long)

  pub first_to_last : first_changed w l ≤ last_changed w l
  first_to_last = ⊎_elim (λ (h : first_changed w l ≤ last_changed w l). h) never (le_or_lt (first_changed w l) (last_changed w l))
    where
      never : last_changed w l < first_changed w l → first_changed w l ≤ last_changed w l
      never h =
          let d : w ≡ l → ⊥ = λ q. let u = unchanged q in let f = u.0 in let t = u.1 in omega arith in
          absurd ((last_changed_lem d).there ((first_changed_lem d).before (last_changed w l) h))

-- two lines with the same first 52 characters, or the same text and number, are one
pub one_line_of_52 : (u v : List ℕ) → Line u → Line v → take 52 u ≡ take 52 v → u ≡ v
one_line_of_52 = Apart.same_52

pub one_line_of_text : (u v : List ℕ) → Line u → Line v → text u ≡ text v → number u ≡ number v → u ≡ v
one_line_of_text = Apart.same_information

-- a clean word turned or reversed is clean
pub turned_clean : (k : ℕ) (w : List ℕ) → Clean w → Clean (turned k w)
turned_clean = Turning.clean_turned

pub reversed_clean : (s : ℕ) (w : List ℕ) → Clean w → Clean (reversed s w)
reversed_clean = Turning.clean_reversed

-- and 63 characters reversed twice from one place are what they were
pub reversed_twice : (s : ℕ) (w : List ℕ) → length w ≡ 63 → reversed s (reversed s w) ≡ w
reversed_twice = Turning.reversed_twice

-- ---- for a tool that merges lines by exclusive or

-- the sum of two words of one length is their exclusive or, character by character
pub exclusive_or : (u v : List ℕ) → length u ≡ length v → (a : ℕ) → get_or (added u v) a 0 ≡ bit_xor (get_or u a 0) (get_or v a 0)
unfolding sum
exclusive_or = Words.added_get

-- in what order words are merged is of no account
pub merged_either_way : (u v : List ℕ) → added u v ≡ added v u
merged_either_way = Words.added_comm

pub merged_in_any_groups : (u v w : List ℕ) → added (added u v) w ≡ added u (added v w)
merged_in_any_groups = Words.added_assoc

-- a word that is merged in twice goes away: where two of three lines are the same, the third is left
pub merged_twice : (u v : List ℕ) → length u ≡ length v → added (added u v) v ≡ u
merged_twice = Words.added_twice

-- any three lines, all of them the same or two of them or none: a line, with the sum of their texts and the exclusive or of their numbers
module _ (u v w : List ℕ) (lu : Line u) (lv : Line v) (lw : Line w) where
  pub three_lines : Line (added (added u v) w)
  three_lines = Adding.line_added (added u v) w (Adding.lines_added u v lu lv) lw

  pub three_texts : text (added (added u v) w) ≡ added (added (text u) (text v)) (text w)
  three_texts = Adding.text_added (added u v) w ∙ ap (λ (t : List ℕ). added t (text w)) (Adding.text_added u v)

  pub three_numbers : number (added (added u v) w) ≡ bit_xor (bit_xor (number u) (number v)) (number w)
  unfolding sum
  three_numbers =
      let two : Clean (added u v) = Adding.lines_added u v lu lv in
      Adding.number_added (added u v) w (two.long ∙ sym (line_long w lw)) two.characters (line_characters w lw)
      ∙ ap (λ (n : ℕ). sum n (number w)) (Adding.lines_number u v lu lv)

-- no word is both clean and a line
pub never_both : (w : List ℕ) → Clean w → Line w → ⊥
never_both = Adding.never_both

-- any two lines, also one line twice: a clean word, and never a line
module _ (u v : List ℕ) (lu : Line u) (lv : Line v) where
  pub two_lines_clean : Clean (added u v)
  two_lines_clean = Adding.lines_added u v lu lv

  pub two_lines_never : Line (added u v) → ⊥
  two_lines_never = never_both (added u v) two_lines_clean

  -- added to a clean word they leave it clean, as by `three-lines` they leave a line a line: four lines are never a line, and five are one
  pub two_lines_more : (c : List ℕ) → Clean c → Clean (added (added u v) c)
  two_lines_more c clean = clean_added (added u v) c two_lines_clean clean

  -- no line is nearer than 3 characters; one is that near, the line with the sum of the texts and the exclusive or of the numbers
  pub two_lines_apart : (l : List ℕ) → Line l → 3 ≤ distance (added u v) l
  two_lines_apart l line = Adding.clean_apart (added u v) l two_lines_clean line

  pub two_lines_marked : Line (added (added u v) marks)
  two_lines_marked = three_lines u v marks lu lv zero_line

  pub two_lines_near : distance (added u v) (added (added u v) marks) ≡ 3
  two_lines_near = Adding.distance_marked (added u v) two_lines_clean.long

  pub two_texts : text (added (added u v) marks) ≡ added (text u) (text v)
  two_texts = Adding.text_marked (added u v) two_lines_clean.long ∙ Adding.text_added u v

  pub two_numbers : number (added (added u v) marks) ≡ bit_xor (number u) (number v)
  unfolding sum
  two_numbers = Adding.number_marked (added u v) two_lines_clean.long two_lines_clean.characters ∙ Adding.lines_number u v lu lv

-- the same of scans, with wrong characters: those of three add up at most, and two scans with e wrong in all are at least 3 - e from every line
pub three_scans : (a b c u v w : List ℕ) → distance (added (added a b) c) (added (added u v) w) ≤ distance a u + distance b v + distance c w
three_scans a b c u v w =
    let p = Distances.distance_sums (added a b) c (added u v) w in
    let q = Distances.distance_sums a b u v in
    omega arith

pub two_scans : (a b u v l : List ℕ) → length a ≡ 63 → length b ≡ 63 → Line u → Line v → Line l
    → 3 ≤ distance (added a b) l + (distance a u + distance b v)
two_scans a b u v l la lb lu lv line =
    let d : length (added a b) ≡ 63 = Words.length_added a b (la ∙ sym lb) ∙ la in
    let t : distance (added u v) l ≤ distance (added u v) (added a b) + distance (added a b) l =
    Distances.triangle (added u v) (added a b) l ((two_lines_clean u v lu lv).long ∙ sym d) (line_long l line ∙ sym d)
    in
    let s = Distances.distance_comm (added u v) (added a b) in
    let p = Distances.distance_sums a b u v in
    let q = two_lines_apart u v lu lv l line in
    omega arith

-- ---- one result

-- the test for a line tells one thing, and there is one list of sums
pub one_line_verdict : (w : List ℕ) (b c : Bool) → TellsLine w b → TellsLine w c → b ≡ c
one_line_verdict w = one_verdict (Line w)

pub one_list_of_sums : (w r s : List ℕ) → PowerSums w r → PowerSums w s → r ≡ s
one_list_of_sums w r s p q =
    ext_get_or 0 r s (p.long ∙ sym q.long) (λ k h. let l = p.long in p.sum_at k (omega arith) ∙ sym (q.sum_at k (omega arith)))
