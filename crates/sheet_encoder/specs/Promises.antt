-- What encoding a sheet promises: the one proper sheet whose first 52 lines have these texts and numbers.
use Rattle.std.specs.Prelude.{◌≡◌, Result, Ok, Err, List, [], ◌∷◌, ℕ, ◌<◌, length, get_or}
use Rattle.numbers.specs.Below.{AllBelow}
use Rattle.numbers.specs.Parts.{part}
use Rattle.refusal.specs.declared.Refusal.{Refusal}
use Rattle.refusal.specs.declared.Refusal.TheVariants.{InputLength, ValueOver, NumberOver, OutputLength}
use Rattle.refusal.specs.Number.{number_of}
use Rattle.refusal.specs.Promise.{Test, ◌else◌, Promise}
use Rattle.code.specs.Word.{Characters, text, number}
use Rattle.sheet.specs.Sheet.{characters, line_of, Proper}

-- the paper's number of an encoding
abbrev pub encoding_numbers : Result Unit Refusal → List ℕ
encoding_numbers (Ok x) = 0 ∷ []
encoding_numbers (Err r) = number_of r ∷ []

abbrev pub encoding_tests : List ℕ → List ℕ → ℕ → List Test
encoding_tests texts numbers room =
    (length texts ≡ 2600 else InputLength)
    ∷ (length numbers ≡ 52 else InputLength)
    ∷ (room ≡ characters else OutputLength)
    ∷ (Characters texts else ValueOver)
    ∷ (AllBelow 4096 numbers else NumberOver)
    ∷ []

-- a proper sheet whose first 52 lines have these texts, one after the other, and these numbers
pub record SheetWith (texts numbers s : List ℕ) : Type 0 where
  pub proper : Proper s
  pub its_texts : (i : ℕ) → i < 52 → text (line_of i s) ≡ part 50 i texts
  pub its_numbers : (i : ℕ) → i < 52 → number (line_of i s) ≡ get_or numbers i 0

-- the call has no other field than its answer; the output gets that sheet
abbrev pub EncodedAs : List ℕ → List ℕ → List ℕ → List ℕ → Type 0
EncodedAs texts numbers fields s = (fields ≡ []) × SheetWith texts numbers s

unfoldable pub EncodesSheet : List ℕ → List ℕ → List ℕ → List ℕ → List ℕ → Type 0
EncodesSheet texts numbers old answer new =
    Promise (encoding_tests texts numbers (length old)) (EncodedAs texts numbers) 0 old answer new
