-- What reading a line promises: the line within the radius, a wanted number, the tests in the paper's order, and what a success gives.
use Rattle.std.specs.Prelude.{◌≡◌, List, [], ◌∷◌, ℕ, ◌≤◌, length, Option, Some, None, Result, Ok, Err}
use Rattle.refusal.specs.declared.Refusal.{Refusal}
use Rattle.refusal.specs.declared.Refusal.TheVariants.{InputLength, OutputLength, ValueOver, RadiusOver, NumberOver, NoLine, OtherNumber}
use Rattle.refusal.specs.Number.{number_of}
use Rattle.refusal.specs.Promise.{Test, ◌else◌, Promise}
use Rattle.code.specs.Word.{Characters, Line, number, distance, first_changed, last_changed}
use Rattle.line.specs.declared.Reading.{Reading}
use Rattle.line.specs.declared.PlainReading.{PlainReading}

-- the numbers of a reading: the answer, the line's number, its distance from the input, and the first and the last changed address
abbrev pub reading_numbers : Result Reading Refusal → List ℕ
reading_numbers (Ok r) = 0 ∷ r.number ∷ r.distance ∷ r.first ∷ r.last ∷ []
reading_numbers (Err r) = number_of r ∷ 0 ∷ 0 ∷ 0 ∷ 0 ∷ []

-- and of a plain one
abbrev pub plain_numbers : PlainReading → List ℕ
plain_numbers r = r.answer ∷ r.number ∷ r.distance ∷ r.first ∷ r.last ∷ []

-- l is a line within t of w
pub record Within (t : ℕ) (w l : List ℕ) : Type 0 where
  pub line : Line l
  pub near : distance w l ≤ t

-- there is such a line
abbrev pub Readable : ℕ → List ℕ → Type 0
Readable t w = (l : List ℕ) × Within t w l

-- a number that is wanted can be that of a line
abbrev pub Possible : Option ℕ → Type 0
Possible None = Unit {0}
Possible (Some n) = n ≤ 4095

-- a line carries the number that is wanted
abbrev pub Carries : Option ℕ → List ℕ → Type 0
Carries None l = Unit {0}
Carries (Some n) l = number l ≡ n

-- the line within t carries it
abbrev pub Fitting : ℕ → List ℕ → Option ℕ → Type 0
Fitting t w wanted = (l : List ℕ) × Within t w l × Carries wanted l

abbrev pub reading_tests : List ℕ → ℕ → Option ℕ → ℕ → List Test
reading_tests w t wanted room =
    (length w ≡ 63 else InputLength)
    ∷ (room ≡ 63 else OutputLength)
    ∷ (Characters w else ValueOver)
    ∷ (t ≤ 5 else RadiusOver)
    ∷ (Possible wanted else NumberOver)
    ∷ (Readable t w else NoLine)
    ∷ (Fitting t w wanted else OtherNumber)
    ∷ []

-- what is told of a line l that is read from w: its number, its distance, and the first and the last changed address
abbrev pub told : List ℕ → List ℕ → List ℕ
told w l = number l ∷ distance w l ∷ first_changed w l ∷ last_changed w l ∷ []

-- the output gets the line within the radius, and the fields are what is told of it
abbrev pub ReadAs : ℕ → List ℕ → List ℕ → List ℕ → Type 0
ReadAs t w fields l = Within t w l × (fields ≡ told w l)

unfoldable pub Reads : List ℕ → ℕ → Option ℕ → List ℕ → List ℕ → List ℕ → Type 0
Reads w t wanted old numbers new = Promise (reading_tests w t wanted (length old)) (ReadAs t w) 4 old numbers new
