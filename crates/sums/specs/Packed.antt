-- What the packed power sums promise, and what the functions inside them promise each other.
use Rattle.std.specs.Prelude.{◌≡◌, List, ℕ, ◌+◌, ◌/◌, ◌<◌, length, get_or}
use Rattle.lanes.specs.Lanes.{pack}
use Rattle.sums.specs.declared.PackedSums.{PackedSums}
use Rattle.code.specs.Word.{power_sum}

-- S_-5 to S_-1 and S_1 to S_5, modulo 63 those from 58 to 62 and from 64 to 68, are packed, and S_0, that of 63, stands beside them
pub record Packed (w : List ℕ) (r : PackedSums) : Type 0 where
  pub outer : r.outer ≡ pack 10 (λ k. power_sum (58 + k + k / 5) w)
  pub middle : r.middle ≡ power_sum 63 w

-- v is the first 63 characters of w, 0 for each that w lacks
pub record Filled (w v : List ℕ) : Type 0 where
  pub long : length v ≡ 63
  pub same : (a : ℕ) → a < 63 → get_or v a 0 ≡ get_or w a 0
