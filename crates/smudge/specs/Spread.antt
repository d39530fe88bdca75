-- Where straightening takes a cell: theorems about windows speak of it, no promise does.
use Rattle.std.specs.Prelude.{ℕ, ◌+◌, ◌-◌, ◌%◌}
use Rattle.smudge.specs.Smudge.{side, turn}

-- the row that the cell in row i and column j comes to
abbrev pub row_to : ℕ → ℕ → ℕ
row_to i j = (i + side - turn j) % side

-- and the column
abbrev pub column_to : ℕ → ℕ → ℕ
column_to i j = (j + side - turn (row_to i j)) % side
