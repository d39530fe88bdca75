-- What the functions inside this crate promise each other; no public promise rests on it.
use Rattle.std.specs.Prelude.{◌≡◌, List, [], ◌∷◌, ◌++◌, map, ℕ, ◌+◌, ◌*◌, ◌%◌, ◌<◌, length, get_or}
use Rattle.std.specs.Int.Bits.{bit_xor}
use Rattle.block.specs.declared.Faults.{Faults}
use Rattle.block.specs.Block.{Bytes, ones, column_parity}

-- how many rows hold an odd number of ones
unfoldable pub odd_rows : List ℕ → ℕ
odd_rows [] = 0
odd_rows (x ∷ xs) = ones x % 2 + odd_rows xs

-- the exclusive or of the rows: bit j is the parity of column j
unfoldable pub summed : List ℕ → ℕ
summed [] = 0
summed (x ∷ xs) = bit_xor x (summed xs)

-- and what it is for a proper block
unfoldable pub wanted : ℕ
wanted = column_parity * 255

-- the odd rows counted, one of them if there is any, and a bit for each column of the other parity than its own
pub record Counted (rows : List ℕ) (f : Faults) : Type 0 where
  pub bytes : Bytes rows
  pub rows_odd : f.rows ≡ odd_rows rows
  pub columns_wrong : f.columns ≡ bit_xor wanted (summed rows)
  pub inside : 0 < length rows → f.row < length rows
  pub row_odd : 0 < f.rows → ones (get_or rows f.row 0) % 2 ≡ 1

-- a row made even by its highest bit
unfoldable pub checked : ℕ → ℕ
checked x = bit_xor x (ones x % 2 * 128)

-- data rows with their row checks
abbrev pub with_checks : List ℕ → List ℕ
with_checks given = map checked given

-- and then the column checks
unfoldable pub encoded : List ℕ → List ℕ
encoded given = with_checks given ++ (bit_xor wanted (summed (with_checks given)) ∷ [])
