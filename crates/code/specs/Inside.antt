-- What the inner functions of words promise to the crates above: the power sums, and the ends of a change.
use Rattle.std.specs.Prelude.{◌≡◌, List, ℕ, ◌+◌, ◌<◌, length, get_or}
use Rattle.code.specs.Word.{power_sum, first_changed, last_changed}

-- the eleven power sums of a word, S_-5 first
pub record PowerSums (w sums : List ℕ) : Type 0 where
  pub long : length sums ≡ 11
  pub sum_at : (k : ℕ) → k < 11 → get_or sums k 0 ≡ power_sum (58 + k) w

-- the first and the last address at which w was changed to l
pub record Ends (w l : List ℕ) (first last : ℕ) : Type 0 where
  pub from : first ≡ first_changed w l
  pub to : last ≡ last_changed w l
