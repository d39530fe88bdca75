-- The bench sheet's rows for blocks: what a row says, when it is true, and the table.
use Rattle.std.specs.Prelude.{◌≡◌, List, [], ◌∷◌, ℕ, length}
use Rattle.block.specs.Block.{Proper}
use Rattle.block.specs.Promises.{Reads}

-- what the sheet says of rows: they are proper, they are read as a block at a distance, or they are refused with a number
pub data Result : Type 0 where
  proper : Result
  read_as : List ℕ → ℕ → Result
  refused : ℕ → Result

-- that it is true of them, whatever lay in the output
abbrev pub Gives : List ℕ → Result → Type 0
Gives rows proper = Proper rows
Gives rows (read_as block d) = (old : List ℕ) → length old ≡ length rows → Reads rows old (0 ∷ d ∷ []) block
Gives rows (refused n) = (old : List ℕ) → length old ≡ length rows → Reads rows old (n ∷ 0 ∷ []) old

infix 1 ◌is◌
pub record Row : Type 0 where
  pub rows : List ℕ
  pub result : Result

abbrev pub ◌is◌ : List ℕ → Result → Row
rows is result = record { rows = rows; result = result }

-- the sheet's starred rows, in its order
abbrev pub sheet : List Row
sheet =
    (3 ∷ 252 ∷ [] is proper)
    ∷ (3 ∷ 253 ∷ [] is read_as (3 ∷ 252 ∷ []) 1)
    ∷ (3 ∷ 3 ∷ [] is refused 9)
    ∷ (3 ∷ 0 ∷ [] is refused 9)
    ∷ []

-- every row of a table is true
abbrev pub All : List Row → Type 0
All [] = Unit
All (r ∷ rs) = Gives r.rows r.result × All rs
