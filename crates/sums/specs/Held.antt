-- The eleven power sums as the code holds them: ten in the lanes of one number, the last beside it.
use Rattle.std.specs.Prelude.{cond, List, ℕ, ◌%◌, ltb, get_or}
use Rattle.lanes.specs.Lanes.{lane}
use Rattle.sums.specs.declared.Sums.{Sums}
use Rattle.code.specs.Word.{listed}

-- number k of them, S_-5 first; of the last the low six bits count
unfoldable pub eleven_at : Sums → ℕ → ℕ
eleven_at h k = cond (ltb k 10) (lane h.first k) (h.last % 64)

unfoldable pub eleven : Sums → List ℕ
eleven h = listed (eleven_at h) 0 11

-- eleven numbers, the low six bits of each
unfoldable pub lowered : List ℕ → List ℕ
lowered s = listed (λ k. get_or s k 0 % 64) 0 11
