-- What sum, product and quotient promise, for every two bytes.
use Rattle.std.specs.Prelude.{◌≡◌, List, [], ◌∷◌, ℕ, ◌<◌, ◌≤◌, Result, Ok, Err}
use Rattle.refusal.specs.declared.Refusal.{Refusal}
use Rattle.refusal.specs.declared.Refusal.TheVariants.{ValueOver, QuotientByZero}
use Rattle.refusal.specs.Number.{number_of}
use Rattle.refusal.specs.Promise.{Test, ◌else◌, Replies}
use Rattle.field.specs.Field.{sum, product, Quotient}

-- the paper's numbers of an answer: 0 and the value, or the refusal's number and 0
abbrev pub element_numbers : Result ℕ Refusal → List ℕ
element_numbers (Ok v) = 0 ∷ v ∷ []
element_numbers (Err r) = number_of r ∷ 0 ∷ []

-- no operand is over 63
pub record Operands (u v : ℕ) : Type 0 where
  pub first : u ≤ 63
  pub second : v ≤ 63

abbrev pub operand_tests : ℕ → ℕ → List Test
operand_tests u v = (Operands u v else ValueOver) ∷ []

-- and the divisor is not 0
abbrev pub division_tests : ℕ → ℕ → List Test
division_tests u v = (Operands u v else ValueOver) ∷ (0 < v else QuotientByZero) ∷ []

-- the one other field is a value that is as stated
pub record OneValue (Is : ℕ → Type 0) (fields : List ℕ) : Type 0 where
  pub value : ℕ
  pub alone : fields ≡ value ∷ []
  pub is : Is value

-- an operation of the field, by its tests and by what it states of its value
unfoldable pub Operates : List Test → (ℕ → Type 0) → List ℕ → Type 0
Operates ts Is numbers = Replies ts (OneValue Is) 1 numbers

abbrev pub Sums : ℕ → ℕ → List ℕ → Type 0
Sums u v = Operates (operand_tests u v) (λ w. w ≡ sum u v)

abbrev pub Multiplies : ℕ → ℕ → List ℕ → Type 0
Multiplies u v = Operates (operand_tests u v) (λ w. w ≡ product u v)

abbrev pub Divides : ℕ → ℕ → List ℕ → Type 0
Divides u v = Operates (division_tests u v) (Quotient u v)
