-- What the functions inside the operations on a tray promise each other; no entry point's promise rests on it.
use Rattle.std.specs.Prelude.{◌≡◌, List, ◌++◌, ℕ, ◌*◌, ◌<◌, take, drop, get_or, set}
use Rattle.field.specs.Field.{sum, product, α, power}
use Rattle.open_tray.specs.Tray.{with_shares}

-- a room with one character replaced, and the share of the change added to each of its sums
abbrev pub replaced_in : List ℕ → ℕ → ℕ → List ℕ
replaced_in r a c = set (take 63 r) a c ++ with_shares a (sum (get_or r a 0) c) (drop 63 r)

-- l is the logarithm of the share that a change by d adds to the first sum, S_-5, where m characters come after it
pub record FirstLog (d m l : ℕ) : Type 0 where
  pub below : l < 63
  pub is : power α l ≡ product d (power α (58 * m))
