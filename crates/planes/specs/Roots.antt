-- The roots of a polynomial among the 63 powers of α, as the bits of a number, and the first of such bits from a place on.
use Rattle.std.specs.Prelude.{◌≡◌, List, ℕ, ◌/◌, ◌%◌, ◌^◌, ◌<◌, ◌≤◌}
use Rattle.field.specs.Field.{α, power}
use Rattle.polynomial.specs.Polynomial.{poly_at}

-- bit l of r is 1 exactly where p's value at the place α^l is 0; of each coefficient the low six bits count
pub record RootsOf (p : List ℕ) (r : ℕ) : Type 0 where
  pub below : r < 2 ^ 63
  pub root : (l : ℕ) → l < 63 → r / 2 ^ l % 2 ≡ 1 → poly_at p (power α l) % 64 ≡ 0
  pub other : (l : ℕ) → l < 63 → r / 2 ^ l % 2 ≡ 0 → poly_at p (power α l) % 64 ≡ 0 → ⊥

-- r is the first place from `from` on whose bit is set, of 63; or none is, and r is 63
pub record FirstFrom (bits from r : ℕ) : Type 0 where
  pub least : from ≤ r
  pub most : r ≤ 63
  pub none : (l : ℕ) → from ≤ l → l < r → bits / 2 ^ l % 2 ≡ 0
  pub here : r < 63 → bits / 2 ^ r % 2 ≡ 1
