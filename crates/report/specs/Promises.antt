-- What the report promises: the file's report at the start of the buffer, and its length.
use Rattle.std.specs.Prelude.{◌≡◌, List, [], ◌∷◌, ◌++◌, ℕ, ◌≤◌, length, drop, Result, Ok, Err}
use Rattle.refusal.specs.declared.Refusal.{Refusal}
use Rattle.refusal.specs.declared.Refusal.TheVariants.{OutputLength}
use Rattle.refusal.specs.Number.{number_of}
use Rattle.refusal.specs.Promise.{Test, ◌else◌, Promise}
use Rattle.report.specs.Printed.{Report, report_room}

-- the numbers of a report: the answer, and the text's length
abbrev pub report_numbers : Result ℕ Refusal → List ℕ
report_numbers (Ok n) = 0 ∷ n ∷ []
report_numbers (Err r) = number_of r ∷ 0 ∷ []

-- the report asks for a buffer that has room for any
abbrev pub report_tests : ℕ → List Test
report_tests room = (report_room ≤ room else OutputLength) ∷ []

-- and writes the file's report at its start: the rest of the buffer is as it was, and the field is the text's length
pub record Shows (file old fields new : List ℕ) : Type 0 where
  pub text : List ℕ
  pub report : Report file text
  pub shows : fields ≡ length text ∷ []
  pub output : new ≡ text ++ drop (length text) old

unfoldable pub Reports : List ℕ → List ℕ → List ℕ → List ℕ → Type 0
Reports file old numbers new = Promise (report_tests (length old)) (Shows file old) 1 old numbers new
