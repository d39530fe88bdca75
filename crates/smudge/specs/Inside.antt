-- A block in one number, the cell in row i and column j at bit 8 i + j: what the functions inside this crate promise each other; no public promise rests on it.
use Rattle.std.specs.Prelude.{◌≡◌, List, [], ◌∷◌, ℕ, zero, suc, ◌*◌, ◌/◌, ◌%◌, ◌^◌}
use Rattle.std.specs.Int.Bits.{bit_and, bit_or, bit_xor}
use Rattle.std.specs.Int.Count.{count_trailing_zeros}
use Rattle.numbers.specs.Total.{total}
use Rattle.eights.specs.Inside.{byte}
use Rattle.block.specs.Block.{ones}
use Rattle.block.specs.Inside.{wanted}

-- ---- the turns

-- the cells of even columns, of odd columns, and of even rows
abbrev pub even_columns : ℕ
even_columns = 6148914691236517205

abbrev pub odd_columns : ℕ
odd_columns = 12297829382473034410

abbrev pub even_rows : ℕ
even_rows = 71777214294589695

-- of odd rows columns 0 to 5, and columns 0 and 1
abbrev pub six_of_odd_rows : ℕ
six_of_odd_rows = 4539697694678990592

abbrev pub two_of_odd_rows : ℕ
two_of_odd_rows = 216176080698999552

-- the cells of two rows, of six and of all eight
abbrev pub two_rows : ℕ
two_rows = 16

abbrev pub six_rows : ℕ
six_rows = 48

abbrev pub all_rows : ℕ
all_rows = 64

-- cells moved up by as many places, within the number
abbrev pub higher : ℕ → ℕ → ℕ
higher k x = x * 2 ^ k % 2 ^ all_rows

unfoldable pub up : ℕ → ℕ
up x = bit_xor (bit_and x even_columns) (bit_and (bit_xor (x / 2 ^ two_rows) (higher six_rows x)) odd_columns)

unfoldable pub left : ℕ → ℕ
left x = bit_xor (bit_xor (bit_and x even_rows) (bit_and (x / 2 ^ 2) six_of_odd_rows)) (higher 6 (bit_and x two_of_odd_rows))

unfoldable pub straight : ℕ → ℕ
straight x = left (up x)

unfoldable pub right : ℕ → ℕ
right x = bit_xor (bit_xor (bit_and x even_rows) (higher 2 (bit_and x six_of_odd_rows))) (bit_and (x / 2 ^ 6) two_of_odd_rows)

unfoldable pub down : ℕ → ℕ
down x = bit_xor (bit_and x even_columns) (bit_and (bit_xor (higher two_rows x) (x / 2 ^ six_rows)) odd_columns)

unfoldable pub stagger : ℕ → ℕ
stagger x = down (right x)

-- ---- the parities of the straightened block

-- one bit of each byte
abbrev pub lowest : ℕ
lowest = 72340172838076673

-- a number added to itself shifted
abbrev pub folded : ℕ → ℕ → ℕ
folded k x = bit_xor x (x / 2 ^ k)

-- 1 in the byte of each odd row
unfoldable pub odd_bytes : ℕ → ℕ
odd_bytes x = bit_and (folded 1 (folded 2 (folded 4 x))) lowest

abbrev pub odd_rows : ℕ → ℕ
odd_rows x = odd_bytes (straight x)

-- a bit for each column of the wrong parity
abbrev pub wrong_columns : ℕ → ℕ
wrong_columns x = bit_xor wanted (total 8 (byte (straight x)))

-- nothing is wrong
pub record Sound (x : ℕ) : Type 0 where
  pub rows : odd_rows x ≡ 0
  pub columns : wrong_columns x ≡ 0

-- ---- from parities to a smudge

-- every cell of a row whose first is given, as a factor
abbrev pub whole_row : ℕ
whole_row = 255

-- the cells where an odd row and a wrong column cross, as they are stored
unfoldable pub crossings : ℕ → ℕ → ℕ
crossings odd wrong = stagger (bit_and (odd * whole_row) (wrong * lowest))

-- the window at row 0, column 0
abbrev pub window : ℕ
window = 771

-- the first cells of the 49 windows
abbrev pub first_cells : ℕ
first_cells = 35887507618889599

-- where four numbers together hold n ones, n from 1 to 4; where they hold more it may tell so too
unfoldable pub holding : ℕ → ℕ → ℕ → ℕ → ℕ → ℕ
holding zero a b c d = 0
holding (suc zero) a b c d = bit_or (bit_or a b) (bit_or c d)
holding (suc (suc zero)) a b c d = bit_or (bit_or (bit_and a b) (bit_and c d)) (bit_and (bit_xor a b) (bit_xor c d))
holding (suc (suc (suc zero))) a b c d = bit_or (bit_and (bit_and a b) (bit_xor c d)) (bit_and (bit_xor a b) (bit_and c d))
holding (suc (suc (suc (suc n)))) a b c d = bit_and (bit_and a b) (bit_and c d)

-- the first cells of the windows that hold n of the crossings
unfoldable pub windows_with : ℕ → ℕ → ℕ
windows_with n f = bit_and (holding n f (f / 2 ^ 1) (f / 2 ^ 8) (f / 2 ^ 9)) first_cells

-- what stands in the window at the first of these cells; nothing where there is none
unfoldable pub first_of : ℕ → ℕ → ℕ
first_of f zero = 0
first_of f (suc m) = bit_and f (window * 2 ^ count_trailing_zeros all_rows (suc m))

-- the crossings in the first window that holds n of them
unfoldable pub first_with : ℕ → ℕ → ℕ
first_with n f = first_of f (windows_with n f)

-- the smudge that has these parities, if any has
unfoldable pub smudge_for : ℕ → ℕ → ℕ
smudge_for odd wrong = first_with (ones wrong) (crossings odd wrong)

-- the smudge of a block
abbrev pub smudge_in : ℕ → ℕ
smudge_in x = smudge_for (odd_rows x) (wrong_columns x)

-- ---- the bytes of a number, as rows

abbrev pub rows_in : ℕ → List ℕ
rows_in x = byte x 0 ∷ byte x 1 ∷ byte x 2 ∷ byte x 3 ∷ byte x 4 ∷ byte x 5 ∷ byte x 6 ∷ byte x 7 ∷ []
