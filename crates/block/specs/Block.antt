-- A parity block: its rows and columns, its data rows, when it is proper, and the distance of two blocks in bits.
use Rattle.std.specs.Prelude.{◌≡◌, List, [], ◌∷◌, map, ℕ, ◌+◌, ◌-◌, ◌/◌, ◌%◌, ◌^◌, ◌<◌, ◌≤◌, length, get_or, take}
use Rattle.std.specs.Int.Bits.{bit_xor}
use Rattle.std.specs.Int.Count.{ones_in}
use Rattle.numbers.specs.Below.{AllBelow}

-- rows of eight bits
abbrev pub Bytes : List ℕ → Type 0
Bytes = AllBelow 256

-- R rows, 2 to 64, eight bits each
pub record Block (rows : List ℕ) : Type 0 where
  pub least : 2 ≤ length rows
  pub most : length rows ≤ 64
  pub bytes : Bytes rows

-- the data rows: the lowest seven bits of the first R - 1 rows
unfoldable pub data_of : List ℕ → List ℕ
data_of block = map (λ (row : ℕ). row % 128) (take (length block - 1) block)

-- how many ones a row holds
abbrev pub ones : ℕ → ℕ
ones row = ones_in 8 row

-- how many ones column j holds: bit j of every row
unfoldable pub column : ℕ → List ℕ → ℕ
column j [] = 0
column j (row ∷ rows) = row / 2 ^ j % 2 + column j rows

-- the parity of every column of a proper block: odd, for then dark film is no block
abbrev pub column_parity : ℕ
column_parity = 1

-- every row holds an even number of ones, and every column an odd number
pub record Proper (rows : List ℕ) : Type 0 where
  pub block : Block rows
  pub even : (i : ℕ) → ones (get_or rows i 0) % 2 ≡ 0
  pub columns : (j : ℕ) → j < 8 → column j rows % 2 ≡ column_parity

-- in how many bits two blocks of as many rows differ
unfoldable pub distance : List ℕ → List ℕ → ℕ
distance [] ys = 0
distance (x ∷ xs) [] = 0
distance (x ∷ xs) (y ∷ ys) = ones (bit_xor x y) + distance xs ys

-- a proper block of as many rows, at distance 0 or 1 from them
pub record Near (rows block : List ℕ) : Type 0 where
  pub long : length block ≡ length rows
  pub proper : Proper block
  pub within : distance rows block ≤ 1

-- there is a proper block within one bit
abbrev pub Mendable : List ℕ → Type 0
Mendable rows = (block : List ℕ) × Near rows block

-- data rows: each is at most 127
abbrev pub Sevens : List ℕ → Type 0
Sevens given = (i : ℕ) → get_or given i 0 ≤ 127

-- a proper block with these data rows
pub record Holds (given block : List ℕ) : Type 0 where
  pub proper : Proper block
  pub rows : data_of block ≡ given

-- there is one and only one proper block with these data rows
pub record OneBlock (given : List ℕ) : Type 0 where
  pub block : List ℕ
  pub holds : Holds given block
  pub only : (other : List ℕ) → Holds given other → other ≡ block
