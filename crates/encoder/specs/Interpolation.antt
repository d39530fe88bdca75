-- Checks with given power sums, and eleven checks by ten in lanes and their sum.
use Rattle.std.specs.Prelude.{◌≡◌, List, [], ◌∷◌, ◌++◌, ℕ, ◌+◌, ◌%◌, ◌<◌, length, get_or, replicate}
use Rattle.numbers.specs.Total.{total}
use Rattle.field.specs.Field.{sum}
use Rattle.lanes.specs.Lanes.{lane}
use Rattle.code.specs.Word.{Characters, power_sum, listed}

-- checks with given power sums, S_-5 first: the word of 52 zeros and these checks has them; of each sum the low six bits count
pub record ChecksWith (sums checks : List ℕ) : Type 0 where
  pub long : length checks ≡ 11
  pub characters : Characters checks
  pub sum_at : (k : ℕ) → k < 11 → power_sum (58 + k) (replicate 52 0 ++ checks) ≡ get_or sums k 0 % 64

-- the characters of ten lanes, and the one that makes their sum s
unfoldable pub eleven : ℕ → ℕ → List ℕ
eleven ten s = listed (lane ten) 0 10 ++ sum (total 10 (lane ten)) (s % 64) ∷ []
