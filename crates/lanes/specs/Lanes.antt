-- Elements packed in one number, six bits to a lane, the first lowest.
use Rattle.std.specs.Prelude.{ℕ, zero, suc, ◌+◌, ◌*◌, ◌/◌, ◌%◌, ◌^◌}

-- f 0, f 1, .., f (n - 1) in the lanes of one number
unfoldable pub pack : ℕ → (ℕ → ℕ) → ℕ
pack zero f = 0
pack (suc n) f = pack n (λ k. f (suc k)) * 64 + f 0

-- lane k of any number
unfoldable pub lane : ℕ → ℕ → ℕ
lane p k = p / 64 ^ k % 64
