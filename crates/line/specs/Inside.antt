-- What the inner functions of line reading promise, to other readings too: the tests before, the nearest line, the sums of the errors, and the answer after.
use Rattle.std.specs.Prelude.{◌≡◌, List, [], ◌∷◌, ℕ, min, ◌+◌, ◌*◌, ◌%◌, ◌≤◌, length, get_or, Option, Some, None}
use Rattle.refusal.specs.declared.Refusal.{Refusal}
use Rattle.refusal.specs.declared.Refusal.TheVariants.{NoLine, OtherNumber}
use Rattle.refusal.specs.Number.{number_of}
use Rattle.refusal.specs.Promise.{Answer}
use Rattle.code.specs.Word.{Characters, Line, marks, added}
use Rattle.code.specs.Inside.{PowerSums}
use Rattle.mender.specs.declared.Mended.{Mended}
use Rattle.mender.specs.Mender.{Nearest}
use Rattle.line.specs.Promises.{Possible, reading_tests}

-- the tests before reading hold
pub record Fit (w : List ℕ) (t : ℕ) (wanted : Option ℕ) (room : ℕ) : Type 0 where
  pub long : length w ≡ 63
  pub enough : room ≡ 63
  pub characters : Characters w
  pub near : t ≤ 5
  pub possible : Possible wanted

-- where one does not, the answer of reading is the number of this refusal
pub record RefusedFirst (w : List ℕ) (t : ℕ) (wanted : Option ℕ) (room : ℕ) (r : Refusal) : Type 0 where
  pub answer : (Fit w t wanted room → ⊥) → Answer (reading_tests w t wanted room) (number_of r)

-- the line within t of a word, t counting up to 5, or that there is none
abbrev pub NearestLine : List ℕ → ℕ → Option Mended → Type 0
NearestLine w t m = Nearest Line w (min t 5) m

-- d is the power sums of w and those of the marks, added
pub record ErrorSums (w d : List ℕ) : Type 0 where
  pub of_word : List ℕ
  pub of_marks : List ℕ
  pub word_sums : PowerSums w of_word
  pub mark_sums : PowerSums marks of_marks
  pub both : d ≡ added of_word of_marks

-- the number in the low six bits of two characters, which is that of a line
abbrev pub low_number : List ℕ → ℕ
low_number l = get_or l 50 0 % 64 * 64 + get_or l 51 0 % 64

-- n is the number that is wanted
abbrev pub IsWanted : Option ℕ → ℕ → Type 0
IsWanted None n = Unit {0}
IsWanted (Some m) n = n ≡ m

-- a line written over an output of 63 bytes; another output is as it was
pub record Writes (line old new : List ℕ) : Type 0 where
  pub over : length old ≡ 63 → new ≡ line
  pub beside : (length old ≡ 63 → ⊥) → new ≡ old

-- the answer for a line m that was found: 7 where its number is not wanted, and else what is told of it, and it is written
pub record AnswersLine (m : Mended) (wanted : Option ℕ) (old numbers new : List ℕ) : Type 0 where
  pub other : (IsWanted wanted (low_number m.word) → ⊥) → (numbers ≡ number_of OtherNumber ∷ 0 ∷ 0 ∷ 0 ∷ 0 ∷ []) × (new ≡ old)
  pub line : IsWanted wanted (low_number m.word) → (numbers ≡ 0 ∷ low_number m.word ∷ m.weight ∷ m.first ∷ m.last ∷ []) × Writes m.word old new

-- and 6 where none was
pub record AnswersNone (old numbers new : List ℕ) : Type 0 where
  pub none : (numbers ≡ number_of NoLine ∷ 0 ∷ 0 ∷ 0 ∷ 0 ∷ []) × (new ≡ old)

-- the answer for a line that was found or not
abbrev pub Answers : Option Mended → Option ℕ → List ℕ → List ℕ → List ℕ → Type 0
Answers (Some m) wanted old numbers new = AnswersLine m wanted old numbers new
Answers None wanted old numbers new = AnswersNone old numbers new
