-- What reading a sheet promises: the tests in the paper's order; and where all hold, rounds, whose result is written, whether it is proper or not.
use Rattle.std.specs.Prelude.{◌≡◌, Result, Ok, Err, ◌⊎◌, List, [], ◌∷◌, ℕ, length}
use Rattle.refusal.specs.declared.Refusal.{Refusal}
use Rattle.refusal.specs.declared.Refusal.TheVariants.{InputLength, ValueOver, OutputLength, ImproperSheet}
use Rattle.refusal.specs.Number.{number_of}
use Rattle.refusal.specs.Promise.{Test, ◌else◌, Answer, Promise}
use Rattle.code.specs.Word.{Characters}
use Rattle.sheet.specs.Sheet.{characters, Proper, Rounds, most_rounds}
use Rattle.sheet_reader.specs.declared.SheetReading.{SheetReading}
use Rattle.sheet_reader.specs.declared.SheetReading.TheVariants as S

-- the paper's numbers of a reading: the answer, and how many rounds were run
abbrev pub reading_numbers : Result SheetReading Refusal → List ℕ
reading_numbers (Ok (S.Proper rounds)) = 0 ∷ rounds ∷ []
reading_numbers (Ok (S.Improper rounds)) = number_of ImproperSheet ∷ rounds ∷ []
reading_numbers (Err r) = number_of r ∷ 0 ∷ []

abbrev pub reading_tests : List ℕ → ℕ → List Test
reading_tests s room =
    (length s ≡ characters else InputLength)
    ∷ (room ≡ characters else OutputLength)
    ∷ (Characters s else ValueOver)
    ∷ []

-- rounds are run, the output gets what they leave, and the answer is 0 where that is proper and 16 where it is not
pub record Run (s numbers new : List ℕ) : Type 0 where
  pub answer : ℕ
  pub rounds : ℕ
  pub shows : numbers ≡ answer ∷ rounds ∷ []
  pub run : Rounds most_rounds s rounds new
  pub tells : Answer ((Proper new else ImproperSheet) ∷ []) answer

-- a test fails, and nothing is written, as in every promise; or none fails, and rounds are run
unfoldable pub ReadsSheet : List ℕ → List ℕ → List ℕ → List ℕ → Type 0
ReadsSheet s old numbers new =
    Promise (reading_tests s (length old)) (λ fields written. ⊥) 1 old numbers new
    ⊎ (Answer (reading_tests s (length old)) 0 × Run s numbers new)
