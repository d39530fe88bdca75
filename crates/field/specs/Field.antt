-- The field of 64 elements: sum, product, the powers of α, quotient. An element is a number below 64, its bits the coefficients of a polynomial over bits.
use Rattle.std.specs.Prelude.{◌≡◌, ℕ, zero, suc, ◌*◌, ◌/◌, ◌%◌, ◌<◌}
use Rattle.std.specs.Int.Bits.{bit_xor}

-- sum is bitwise exclusive or
unfoldable pub sum : ℕ → ℕ → ℕ
sum u v = bit_xor u v

-- x times u, reduced by x^6 + x + 1: the low five bits move up one place, and the sixth, which would be x^6, becomes x + 1
unfoldable pub times_x : ℕ → ℕ
times_x u = sum (u % 32 * 2) (u / 32 % 2 * 3)

-- the sum of x^i times u, over those of the lowest n bits i of v that are set
unfoldable pub shifted : ℕ → ℕ → ℕ → ℕ
shifted zero u v = 0
shifted (suc n) u v = sum (v % 2 * u) (shifted n (times_x u) (v / 2))

-- product is that of polynomials over bits, reduced by x^6 + x + 1; of each operand the low six bits count
unfoldable pub product : ℕ → ℕ → ℕ
product u v = shifted 6 (u % 64) v

abbrev pub α : ℕ
α = 2

unfoldable pub power : ℕ → ℕ → ℕ
power u zero = 1
power u (suc n) = product u (power u n)

-- n is the logarithm of v, which is not 0: the exponent below 63 whose power of α is v
pub record Log (v n : ℕ) : Type 0 where
  pub below : n < 63
  pub is : power α n ≡ v

-- the powers of α return to 1 first at the power n
pub record Returns (n : ℕ) : Type 0 where
  pub here : power α n ≡ 1
  pub first : (m : ℕ) → 0 < m → m < n → power α m ≡ 1 → ⊥

-- w is the quotient u/v, for a v that is not 0: the w with v·w = u
pub record Quotient (u v w : ℕ) : Type 0 where
  pub divisor : 0 < v
  pub element : w < 64
  pub exact : product v w ≡ u
