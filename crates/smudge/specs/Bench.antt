-- The bench sheet's rows for blocks that outlast a smudge: what a row says, when it is true, and the table.
use Rattle.std.specs.Prelude.{◌≡◌, List, [], ◌∷◌, ℕ}
use Rattle.smudge.specs.Smudge.{straightened, Records}

pub data Row : Type 0 where
  -- data rows, and the block that is stored for them
  stored_as : List ℕ → List ℕ → Row
  -- cells, and the cells that they are when they are straightened
  come_to : List ℕ → List ℕ → Row

-- that it is true
abbrev pub Says : Row → Type 0
Says (stored_as given block) = Records given block
Says (come_to cells straight) = straightened cells ≡ straight

-- the sheet's starred row; and the example of 000, whose four wrong cells come to (3, 1), (5, 2), (2, 3) and (4, 4)
abbrev pub sheet : List Row
sheet =
    stored_as (1 ∷ 2 ∷ 3 ∷ 4 ∷ 5 ∷ 6 ∷ 7 ∷ []) (131 ∷ 170 ∷ 129 ∷ 26 ∷ 7 ∷ 18 ∷ 5 ∷ 93 ∷ [])
    ∷ come_to (0 ∷ 0 ∷ 0 ∷ 0 ∷ 24 ∷ 24 ∷ 0 ∷ 0 ∷ []) (0 ∷ 0 ∷ 8 ∷ 2 ∷ 16 ∷ 4 ∷ 0 ∷ 0 ∷ [])
    ∷ []

-- every row of a table is true
abbrev pub All : List Row → Type 0
All [] = Unit
All (r ∷ rs) = Says r × All rs
