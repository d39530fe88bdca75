-- A block whose columns are even, and a row of a block inverted: the theorems of dark film and of film with even columns speak of them; no promise does.
use Rattle.std.specs.Prelude.{◌≡◌, List, ℕ, ◌-◌, ◌%◌, ◌<◌, length, get_or, set}
use Rattle.std.specs.Int.Bits.{bit_xor}
use Rattle.block.specs.Block.{Block, ones, column}

-- every row and every column holds an even number of ones
pub record Even (rows : List ℕ) : Type 0 where
  pub block : Block rows
  pub even : (i : ℕ) → ones (get_or rows i 0) % 2 ≡ 0
  pub columns : (j : ℕ) → j < 8 → column j rows % 2 ≡ 0

-- every bit of row k turned
unfoldable pub inverted : ℕ → List ℕ → List ℕ
inverted k rows = set rows k (bit_xor (get_or rows k 0) 255)

-- and of the last row
abbrev pub last_inverted : List ℕ → List ℕ
last_inverted rows = inverted (length rows - 1) rows
