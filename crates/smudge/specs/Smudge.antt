-- A block that outlasts a smudge: its cells, how it is straightened and staggered, the windows of two by two cells, and what a smudge can have done.
use Rattle.std.specs.Prelude.{◌≡◌, List, [], ◌∷◌, ℕ, zero, suc, ◌+◌, ◌-◌, ◌*◌, ◌/◌, ◌%◌, ◌^◌, ◌<◌, ◌≤◌, length, get_or}
use Rattle.block.specs.Block.{Bytes, Proper, Holds}

-- eight rows of eight cells
abbrev pub side : ℕ
side = 8

-- the cell in row i and column j: bit j of row i
unfoldable pub cell : List ℕ → ℕ → ℕ → ℕ
cell rows i j = get_or rows i 0 / 2 ^ j % 2

-- a row by its n cells
unfoldable pub row_of : ℕ → (ℕ → ℕ) → ℕ
row_of zero f = 0
row_of (suc n) f = f 0 + 2 * row_of n (λ j. f (suc j))

-- n rows by their cells, from row i on
unfoldable pub rows_of : ℕ → ℕ → (ℕ → ℕ → ℕ) → List ℕ
rows_of zero i f = []
rows_of (suc n) i f = row_of side (f i) ∷ rows_of n (suc i) f

-- how far row or column k is turned
abbrev pub turn : ℕ → ℕ
turn k = 2 * (k % 2)

-- ---- on reading

-- column j turned upward
unfoldable pub upward : List ℕ → List ℕ
upward rows = rows_of side 0 (λ i j. cell rows ((i + turn j) % side) j)

-- row i turned leftward
unfoldable pub leftward : List ℕ → List ℕ
leftward rows = rows_of side 0 (λ i j. cell rows i ((j + turn i) % side))

unfoldable pub straightened : List ℕ → List ℕ
straightened rows = leftward (upward rows)

-- ---- on encoding, backward

-- row i turned rightward
unfoldable pub rightward : List ℕ → List ℕ
rightward rows = rows_of side 0 (λ i j. cell rows i ((j + side - turn i) % side))

-- column j turned downward
unfoldable pub downward : List ℕ → List ℕ
downward rows = rows_of side 0 (λ i j. cell rows ((i + side - turn j) % side) j)

unfoldable pub staggered : List ℕ → List ℕ
staggered rows = downward (rightward rows)

-- ---- what is stored

-- eight rows that come out proper when they are straightened
pub record Stored (rows : List ℕ) : Type 0 where
  pub long : length rows ≡ side
  pub bytes : Bytes rows
  pub proper : Proper (straightened rows)

-- the proper block with these data rows, staggered
pub record Records (given block : List ℕ) : Type 0 where
  pub plain : List ℕ
  pub holds : Holds given plain
  pub stored : block ≡ staggered plain

-- ---- what a smudge can have done

-- two by two cells, the first in row r and column c, none of them around the edge
pub record Window (r c : ℕ) : Type 0 where
  pub rows : r + 1 < side
  pub columns : c + 1 < side

-- the cell in row i and column j is one of them
pub record Inside (r c i j : ℕ) : Type 0 where
  pub from_row : r ≤ i
  pub to_row : i ≤ r + 1
  pub from_column : c ≤ j
  pub to_column : j ≤ c + 1

-- a stored block that differs from the rows inside some window alone
pub record Smudged (rows block : List ℕ) : Type 0 where
  pub stored : Stored block
  pub row : ℕ
  pub column : ℕ
  pub window : Window row column
  pub outside : (i j : ℕ) → i < side → j < side → (Inside row column i j → ⊥) → cell block i j ≡ cell rows i j

-- there is such a block
abbrev pub Mendable : List ℕ → Type 0
Mendable rows = (block : List ℕ) × Smudged rows block
