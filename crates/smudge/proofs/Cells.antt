-- The cells of a block: rows have the cells that they are made of, cells fix a block, and what each turn moves where.
use mathlib.Core.Path.{◌≡◌, refl, sym, ap, ap₂, ◌∙◌}
use mathlib.Core.List.{List}
use Prim.Native.Nat.{ℕ, zero, suc, ◌+◌, ◌-◌, ◌*◌, ◌/◌, ◌%◌, ◌^◌, ◌<◌}
use native.Mathlib.Nat.{add-zero, div-one, pow-suc}
use native.Mathlib.Omega.{arith}
use lib.Dec.{T, eqb, eqb→eq}
use lib.ListN.{length, get_or}
use lib.Seq.{ext_get_or}
use Rattle.numbers.proofs.Bits.{halved, same_bits}
use Rattle.numbers.proofs.Cases.{bit_lt}
use Rattle.block.specs.Block.{Bytes}
use Rattle.smudge.proofs.Ranges.{each_two, two_at}
use Rattle.smudge.specs.Spread.{row_to, column_to}
use Rattle.smudge.specs.Smudge.{side, cell, row_of, rows_of, turn, upward, leftward, straightened, rightward, downward, staggered}

-- ---- rows by their cells

-- cells are bits
abbrev Bits : (ℕ → ℕ) → Type 0
Bits f = (j : ℕ) → f j < 2

row_cell : (n : ℕ) (f : ℕ → ℕ) → Bits f → (j : ℕ) → j < n → row_of n f / 2 ^ j % 2 ≡ f j
unfolding row_of
row_cell zero f b j h = absurd (omega arith)
row_cell (suc n) f b zero h =
    let r : ℕ = row_of n (λ j. f (suc j)) in
    ap (λ (m : ℕ). m % 2) (div-one (f 0 + 2 * r)) ∙ (omega (arith, b 0))
row_cell (suc n) f b (suc j) h =
    let r : ℕ = row_of n (λ j. f (suc j)) in
    let e : (f 0 + 2 * r) / 2 ≡ r = omega (arith, b 0) in
    ap (λ (m : ℕ). m % 2) (sym (halved (f 0 + 2 * r) j) ∙ ap (λ (m : ℕ). m / 2 ^ j) e) ∙ row_cell n (λ j. f (suc j)) (λ j. b (suc j)) j (omega arith)

row_lt : (n : ℕ) (f : ℕ → ℕ) → Bits f → row_of n f < 2 ^ n
unfolding row_of
row_lt zero f b = omega arith
row_lt (suc n) f b =
    let p : 2 ^ suc n ≡ 2 ^ n * 2 = pow-suc 2 n in
    let i : row_of n (λ j. f (suc j)) < 2 ^ n = row_lt n (λ j. f (suc j)) (λ j. b (suc j)) in
    omega (arith, b 0)

rows_at : (n i : ℕ) (f : ℕ → ℕ → ℕ) (k : ℕ) → k < n → get_or (rows_of n i f) k 0 ≡ row_of side (f (i + k))
unfolding rows_of
rows_at zero i f k h = absurd (omega arith)
rows_at (suc n) i f zero h = ap (λ (m : ℕ). row_of side (f m)) (sym (add-zero i))
rows_at (suc n) i f (suc k) h = rows_at n (suc i) f k (omega arith) ∙ ap (λ (m : ℕ). row_of side (f m)) (omega arith)

rows_long : (n i : ℕ) (f : ℕ → ℕ → ℕ) → length (rows_of n i f) ≡ n
unfolding rows_of
rows_long zero i f = refl
rows_long (suc n) i f = ap suc (rows_long n (suc i) f)

rows_bytes : (n i : ℕ) (f : ℕ → ℕ → ℕ) → ((i : ℕ) → Bits (f i)) → Bytes (rows_of n i f)
unfolding rows_of
rows_bytes zero i f b k = omega arith
rows_bytes (suc n) i f b zero = row_lt side (f i) (b i)
rows_bytes (suc n) i f b (suc k) = rows_bytes n (suc i) f b k

rows_cell : (f : ℕ → ℕ → ℕ) → ((i : ℕ) → Bits (f i)) → (i j : ℕ) → i < side → j < side → cell (rows_of side 0 f) i j ≡ f i j
unfolding cell
rows_cell f b i j hi hj =
    ap (λ (m : ℕ). m / 2 ^ j % 2) (rows_at side 0 f i hi ∙ ap (λ (m : ℕ). row_of side (f m)) (omega arith)) ∙ row_cell side (f i) (b i) j hj

pub cell_bit : (rows : List ℕ) (i j : ℕ) → cell rows i j < 2
unfolding cell
cell_bit rows i j = bit_lt (get_or rows i 0 / 2 ^ j)

-- eight rows are fixed by their cells
pub same_cells : (a b : List ℕ) → length a ≡ side → length b ≡ side → Bytes a → Bytes b → ((i j : ℕ) → i < side → j < side → cell a i j ≡ cell b i j) → a ≡ b
unfolding cell
same_cells a b la lb ba bb h =
    ext_get_or 0 a b (la ∙ sym lb) (λ i l. same_bits 8 (get_or a i 0) (get_or b i 0) (ba i) (bb i) (λ j s. h i j (omega arith) s))

-- eight rows with the cells of these
abbrev pub lowest_eight : List ℕ → List ℕ
lowest_eight rows = rows_of side 0 (cell rows)

pub lowest_long : (rows : List ℕ) → length (lowest_eight rows) ≡ side
lowest_long rows = rows_long side 0 (cell rows)

pub lowest_bytes : (rows : List ℕ) → Bytes (lowest_eight rows)
lowest_bytes rows = rows_bytes side 0 (cell rows) (cell_bit rows)

pub lowest_cell : (rows : List ℕ) (i j : ℕ) → i < side → j < side → cell (lowest_eight rows) i j ≡ cell rows i j
lowest_cell rows = rows_cell (cell rows) (cell_bit rows)

-- ---- the turns

pub upward_cell : (rows : List ℕ) (i j : ℕ) → i < side → j < side → cell (upward rows) i j ≡ cell rows ((i + turn j) % side) j
unfolding upward
upward_cell rows = rows_cell (λ i j. cell rows ((i + turn j) % side) j) (λ i j. cell_bit rows ((i + turn j) % side) j)

pub leftward_cell : (rows : List ℕ) (i j : ℕ) → i < side → j < side → cell (leftward rows) i j ≡ cell rows i ((j + turn i) % side)
unfolding leftward
leftward_cell rows = rows_cell (λ i j. cell rows i ((j + turn i) % side)) (λ i j. cell_bit rows i ((j + turn i) % side))

rightward_cell : (rows : List ℕ) (i j : ℕ) → i < side → j < side → cell (rightward rows) i j ≡ cell rows i ((j + side - turn i) % side)
unfolding rightward
rightward_cell rows = rows_cell (λ i j. cell rows i ((j + side - turn i) % side)) (λ i j. cell_bit rows i ((j + side - turn i) % side))

downward_cell : (rows : List ℕ) (i j : ℕ) → i < side → j < side → cell (downward rows) i j ≡ cell rows ((i + side - turn j) % side) j
unfolding downward
downward_cell rows = rows_cell (λ i j. cell rows ((i + side - turn j) % side) j) (λ i j. cell_bit rows ((i + side - turn j) % side) j)

-- the column and the row that a cell of the straightened block comes from
abbrev pub column_from : ℕ → ℕ → ℕ
column_from i j = (j + turn i) % side

abbrev pub row_from : ℕ → ℕ → ℕ
row_from i j = (i + turn (column_from i j)) % side

pub straightened_cell : (rows : List ℕ) (i j : ℕ) → i < side → j < side → cell (straightened rows) i j ≡ cell rows (row_from i j) (column_from i j)
unfolding straightened
straightened_cell rows i j hi hj = leftward_cell (upward rows) i j hi hj ∙ upward_cell rows i (column_from i j) hi (omega arith)

-- a cell of the staggered block comes from where straightening takes it
pub staggered_cell : (rows : List ℕ) (i j : ℕ) → i < side → j < side → cell (staggered rows) i j ≡ cell rows (row_to i j) (column_to i j)
unfolding staggered
staggered_cell rows i j hi hj = downward_cell (rightward rows) i j hi hj ∙ rightward_cell rows (row_to i j) j (omega arith) hj

pub straightened_long : (rows : List ℕ) → length (straightened rows) ≡ side
unfolding straightened leftward
straightened_long rows = rows_long side 0 _

pub straightened_bytes : (rows : List ℕ) → Bytes (straightened rows)
unfolding straightened leftward
straightened_bytes rows = rows_bytes side 0 _ (λ i j. cell_bit (upward rows) i ((j + turn i) % side))

pub staggered_long : (rows : List ℕ) → length (staggered rows) ≡ side
unfolding staggered downward
staggered_long rows = rows_long side 0 _

pub staggered_bytes : (rows : List ℕ) → Bytes (staggered rows)
unfolding staggered downward
staggered_bytes rows = rows_bytes side 0 _ (λ i j. cell_bit (rightward rows) ((i + side - turn j) % side) j)

upward_long : (rows : List ℕ) → length (upward rows) ≡ side
unfolding upward
upward_long rows = rows_long side 0 _

upward_bytes : (rows : List ℕ) → Bytes (upward rows)
unfolding upward
upward_bytes rows = rows_bytes side 0 _ (λ i j. cell_bit rows ((i + turn j) % side) j)

-- ---- each undoes the other, and the two turns commute

-- what is the same at every cell, as the checker computes it
abbrev pub SameAtEach : (ℕ → ℕ → ℕ) → (ℕ → ℕ → ℕ) → Type 0
SameAtEach f g = T (each_two side side (λ i j. eqb (f i j) (g i j)))

pub same_at : (f g : ℕ → ℕ → ℕ) → SameAtEach f g → (i j : ℕ) → i < side → j < side → f i j ≡ g i j
same_at f g t i j hi hj = eqb→eq (f i j) (g i j) (two_at side side (λ i j. eqb (f i j) (g i j)) t i j hi hj)

module _ (rows : List ℕ) (long : length rows ≡ side) (bytes : Bytes rows) where
  pub straightened_staggered : straightened (staggered rows) ≡ rows
  straightened_staggered =
      same_cells (straightened (staggered rows)) rows (straightened_long (staggered rows)) long (straightened_bytes (staggered rows)) bytes
      (λ i j hi hj.
      straightened_cell (staggered rows) i j hi hj ∙ staggered_cell rows (row_from i j) (column_from i j) (omega arith) (omega arith)
      ∙ ap₂ (cell rows)
      (same_at (λ i j. row_to (row_from i j) (column_from i j)) (λ i j. i) tt i j hi hj)
      (same_at (λ i j. column_to (row_from i j) (column_from i j)) (λ i j. j) tt i j hi hj))

  pub staggered_straightened : staggered (straightened rows) ≡ rows
  staggered_straightened =
      same_cells (staggered (straightened rows)) rows (staggered_long (straightened rows)) long (staggered_bytes (straightened rows)) bytes
      (λ i j hi hj.
      staggered_cell (straightened rows) i j hi hj ∙ straightened_cell rows (row_to i j) (column_to i j) (omega arith) (omega arith)
      ∙ ap₂ (cell rows)
      (same_at (λ i j. row_from (row_to i j) (column_to i j)) (λ i j. i) tt i j hi hj)
      (same_at (λ i j. column_from (row_to i j) (column_to i j)) (λ i j. j) tt i j hi hj))

pub comes_to : (rows : List ℕ) (i j : ℕ) → i < side → j < side → cell (straightened rows) (row_to i j) (column_to i j) ≡ cell rows i j
comes_to rows i j hi hj =
    straightened_cell rows (row_to i j) (column_to i j) (omega arith) (omega arith)
    ∙ ap₂ (cell rows)
    (same_at (λ i j. row_from (row_to i j) (column_to i j)) (λ i j. i) tt i j hi hj)
    (same_at (λ i j. column_from (row_to i j) (column_to i j)) (λ i j. j) tt i j hi hj)

pub turns_commute : (rows : List ℕ) → leftward (upward rows) ≡ upward (leftward rows)
unfolding straightened
turns_commute rows =
    same_cells (leftward (upward rows)) (upward (leftward rows)) (straightened_long rows) (upward_long (leftward rows)) (straightened_bytes rows) (upward_bytes (leftward rows))
    (λ i j hi hj.
    straightened_cell rows i j hi hj
    ∙ ap₂ (cell rows)
    (same_at (λ i j. row_from i j) (λ i j. (i + turn j) % side) tt i j hi hj)
    (same_at (λ i j. column_from i j) (λ i j. (j + turn ((i + turn j) % side)) % side) tt i j hi hj)
    ∙ sym (upward_cell (leftward rows) i j hi hj ∙ leftward_cell rows ((i + turn j) % side) j (omega arith) hj))
