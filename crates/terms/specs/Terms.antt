-- What a character adds to ten power sums, S_-5 to S_-1 and S_1 to S_5.
use Rattle.std.specs.Prelude.{ℕ, ◌+◌, ◌/◌}
use Rattle.field.specs.Field.{product, α, power}

-- the ten points: the powers 58 to 62 of α, which are -5 to -1, and 64 to 68, which are 1 to 5
unfoldable pub point : ℕ → ℕ
point i = power α (58 + i + i / 5)

-- the character c with n characters after it: its part of the value at point i
unfoldable pub term : ℕ → ℕ → ℕ → ℕ
term n c i = product c (power (point i) n)
