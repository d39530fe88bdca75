-- What the tables of powers of α and of logarithms promise. Both take any byte and read its low six bits.
use Rattle.std.specs.Prelude.{◌≡◌, ℕ, ◌%◌, ◌<◌}
use Rattle.field.specs.Field.{α, power}

-- r is the logarithm of x, where x is not 0, and else 0
pub record LogOf (x r : ℕ) : Type 0 where
  pub below : r < 63
  pub is : (x % 64 ≡ 0 → ⊥) → power α r ≡ x % 64
  pub none : x % 64 ≡ 0 → r ≡ 0
