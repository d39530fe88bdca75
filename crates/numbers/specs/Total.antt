-- The exclusive or of many numbers, which in the field is their sum.
use Rattle.std.specs.Prelude.{ℕ, zero, suc}
use Rattle.std.specs.Int.Bits.{bit_xor}

-- f 0 + f 1 + .. + f (n - 1), where + is bitwise exclusive or
unfoldable pub total : ℕ → (ℕ → ℕ) → ℕ
total zero f = 0
total (suc n) f = bit_xor (total n f) (f n)
