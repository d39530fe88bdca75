-- What encoding a line at once, a step of the register and asking it for the checks promise, for every input.
use Rattle.std.specs.Prelude.{◌≡◌, Result, Ok, Err, List, [], ◌∷◌, ℕ, ◌<◌, ◌≤◌, length, replicate}
use Rattle.refusal.specs.declared.Refusal.{Refusal}
use Rattle.refusal.specs.declared.Refusal.TheVariants.{InputLength, ValueOver, NumberOver, OutputLength, RegisterFull, RegisterShort}
use Rattle.refusal.specs.Number.{number_of}
use Rattle.refusal.specs.Promise.{Test, ◌else◌, Promise, Replies}
use Rattle.code.specs.Word.{Characters, Line, text, number}
use Rattle.encoder.specs.declared.Register.{Register}
use Rattle.encoder.specs.Register.{next, checks_of}

-- ---- a line at once

-- the paper's number of an encoding
abbrev pub encoding_numbers : Result Unit Refusal → List ℕ
encoding_numbers (Ok x) = 0 ∷ []
encoding_numbers (Err r) = number_of r ∷ []

abbrev pub encoding_tests : List ℕ → ℕ → ℕ → List Test
encoding_tests t n room =
    (length t ≡ 50 else InputLength)
    ∷ (room ≡ 63 else OutputLength)
    ∷ (Characters t else ValueOver)
    ∷ (n ≤ 4095 else NumberOver)
    ∷ []

-- the line with this text and this number
pub record LineWith (t : List ℕ) (n : ℕ) (l : List ℕ) : Type 0 where
  pub line : Line l
  pub its_text : text l ≡ t
  pub its_number : number l ≡ n

-- encoding: the output gets the line with that text and number
unfoldable pub Encodes : List ℕ → ℕ → List ℕ → List ℕ → List ℕ → Type 0
Encodes t n old numbers new =
    Promise (encoding_tests t n (length old)) (λ fields l. (fields ≡ []) × LineWith t n l) 0 old numbers new

-- ---- by the character

-- the paper's number of a step
abbrev pub step_numbers : Result Unit Refusal → List ℕ
step_numbers = encoding_numbers

abbrev pub step_tests : Register → ℕ → List Test
step_tests r c = (r.count < 52 else RegisterFull) ∷ (Characters r.held else ValueOver) ∷ (c ≤ 63 else ValueOver) ∷ []

-- a step: the register that comes back has done one step of the division; one that is refused comes back as it was
unfoldable pub Steps : Register → ℕ → List ℕ → Register → Type 0
Steps r c numbers new = Promise (step_tests r c) (λ fields q. (fields ≡ []) × (q ≡ next r c)) 0 r numbers new

-- the paper's numbers of asking: the answer, and the eleven checks
abbrev pub check_numbers : Result (List ℕ) Refusal → List ℕ
check_numbers (Ok checks) = 0 ∷ checks
check_numbers (Err r) = number_of r ∷ replicate 11 0

abbrev pub check_tests : Register → List Test
check_tests r = (r.count ≤ 52 else RegisterFull) ∷ (52 ≤ r.count else RegisterShort) ∷ (Characters r.held else ValueOver) ∷ []

-- asking: the fields are the checks
unfoldable pub Checks : Register → List ℕ → Type 0
Checks r numbers = Replies (check_tests r) (λ fields. fields ≡ checks_of r.held) 11 numbers
