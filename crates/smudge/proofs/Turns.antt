-- The turns of a block in one number: they keep exclusive ors, and move every cell as the definitions do.
use mathlib.Core.Path.{◌≡◌, refl, sym, ap, ◌∙◌}
use mathlib.Core.Bool.{Bool}
use mathlib.Core.List.{List}
use Prim.Native.Nat.{ℕ, zero, suc, ◌+◌, ◌*◌, ◌/◌, ◌%◌, ◌^◌, ◌<◌}
use native.Mathlib.Nat.{zero-lt-suc}
use native.Mathlib.Decide.{dec_lt}
use native.Mathlib.Omega.{arith}
use lib.Dec.{T, eqb, eqb→eq}
use lib.Bits.{bit_xor, bit_and, xor_lt, and_le_r}
use lib.ListN.{length, get_or, get_or-eq_default}
use lib.Seq.{ext_get_or}
use Rattle.numbers.proofs.Bits.{same_bits}
use Rattle.numbers.proofs.Range.{each, each_at}
use Rattle.numbers.proofs.Linear.{Linear, shifted_down, shifted_up, lowest, masked, added, after, same_maps}
use Rattle.eights.specs.Inside.{byte}
use Rattle.eights.proofs.Laws.{byte_lt, byte_bit}
use Rattle.block.specs.Block.{Bytes}
use Rattle.smudge.specs.Spread.{row_to, column_to}
use Rattle.smudge.specs.Smudge.{side, cell, straightened, staggered}
use Rattle.smudge.specs.Inside.{even_columns, odd_columns, even_rows, six_of_odd_rows, two_of_odd_rows, two_rows, six_rows, all_rows, higher, up, left, straight, right, down, stagger, rows_in}
use Rattle.smudge.proofs.Ranges.{each_two, two_at}
use Rattle.smudge.proofs.Cells.{row_from, column_from, straightened_cell, straightened_long, straightened_bytes, staggered_cell, staggered_long, staggered_bytes}

-- ---- they keep exclusive ors

higher_linear : (k : ℕ) → Linear (higher k)
higher_linear k = after (λ x. x % 2 ^ all_rows) (λ x. x * 2 ^ k) (lowest all_rows) (shifted_up k)

-- a part of the cells, moved up or down
part_higher : (k m : ℕ) → Linear (λ x. higher k (bit_and x m))
part_higher k m = after (higher k) (λ x. bit_and x m) (higher_linear k) (masked m)

part_lower : (k m : ℕ) → Linear (λ x. bit_and (x / 2 ^ k) m)
part_lower k m = after (λ x. bit_and x m) (λ x. x / 2 ^ k) (masked m) (shifted_down k)

up_linear : Linear up
unfolding up
up_linear =
    added (λ x. bit_and x even_columns) (λ x. bit_and (bit_xor (x / 2 ^ two_rows) (higher six_rows x)) odd_columns) (masked even_columns)
    (after (λ x. bit_and x odd_columns) (λ x. bit_xor (x / 2 ^ two_rows) (higher six_rows x)) (masked odd_columns)
    (added (λ x. x / 2 ^ two_rows) (higher six_rows) (shifted_down two_rows) (higher_linear six_rows)))

left_linear : Linear left
unfolding left
left_linear =
    added (λ x. bit_xor (bit_and x even_rows) (bit_and (x / 2 ^ 2) six_of_odd_rows)) (λ x. higher 6 (bit_and x two_of_odd_rows))
    (added (λ x. bit_and x even_rows) (λ x. bit_and (x / 2 ^ 2) six_of_odd_rows) (masked even_rows) (part_lower 2 six_of_odd_rows)) (part_higher 6 two_of_odd_rows)

right_linear : Linear right
unfolding right
right_linear =
    added (λ x. bit_xor (bit_and x even_rows) (higher 2 (bit_and x six_of_odd_rows))) (λ x. bit_and (x / 2 ^ 6) two_of_odd_rows)
    (added (λ x. bit_and x even_rows) (λ x. higher 2 (bit_and x six_of_odd_rows)) (masked even_rows) (part_higher 2 six_of_odd_rows)) (part_lower 6 two_of_odd_rows)

down_linear : Linear down
unfolding down
down_linear =
    added (λ x. bit_and x even_columns) (λ x. bit_and (bit_xor (higher two_rows x) (x / 2 ^ six_rows)) odd_columns) (masked even_columns)
    (after (λ x. bit_and x odd_columns) (λ x. bit_xor (higher two_rows x) (x / 2 ^ six_rows)) (masked odd_columns)
    (added (higher two_rows) (λ x. x / 2 ^ six_rows) (higher_linear two_rows) (shifted_down six_rows)))

pub straight_linear : Linear straight
unfolding straight
straight_linear = after left up left_linear up_linear

stagger_linear : Linear stagger
unfolding stagger
stagger_linear = after down right down_linear right_linear

-- one bit, too
bit_linear : (k : ℕ) → Linear (λ x. x / 2 ^ k % 2)
bit_linear k = after (λ x. x % 2) (λ x. x / 2 ^ k) (lowest 1) (shifted_down k)

-- ---- they leave a number of 64 bits

pub straight_lt : (x : ℕ) → straight x < 2 ^ 64
unfolding straight left
straight_lt x =
    let y : ℕ = up x in
    xor_lt 64 (bit_xor (bit_and y even_rows) (bit_and (y / 2 ^ 2) six_of_odd_rows)) (higher 6 (bit_and y two_of_odd_rows))
    (xor_lt 64 (bit_and y even_rows) (bit_and (y / 2 ^ 2) six_of_odd_rows) (omega (arith, and_le_r y even_rows)) (omega (arith, and_le_r (y / 2 ^ 2) six_of_odd_rows)))
    (omega arith)

pub stagger_lt : (x : ℕ) → stagger x < 2 ^ 64
unfolding stagger down
stagger_lt x =
    let y : ℕ = right x in
    let z : ℕ = bit_xor (higher two_rows y) (y / 2 ^ six_rows) in
    xor_lt 64 (bit_and y even_columns) (bit_and z odd_columns) (omega (arith, and_le_r y even_columns)) (omega (arith, and_le_r z odd_columns))

-- ---- where they take each cell

-- the bit of the cell in row i and column j
abbrev pub bit_of : ℕ → ℕ → ℕ
bit_of i j = 8 * i + j

-- every cell of y is that of x in row r i j and column c i j
abbrev agrees : (ℕ → ℕ → ℕ) → (ℕ → ℕ → ℕ) → ℕ → ℕ → Bool
agrees r c y x = each_two side side (λ i j. eqb (y / 2 ^ bit_of i j % 2) (x / 2 ^ bit_of (r i j) (c i j) % 2))

-- so f moves the cells, tested at the powers of 2
abbrev Moves : (ℕ → ℕ) → (ℕ → ℕ → ℕ) → (ℕ → ℕ → ℕ) → Type 0
Moves f r c = T (each 64 (λ k. agrees r c (f (2 ^ k)) (2 ^ k)))

moves : (f : ℕ → ℕ) (r c : ℕ → ℕ → ℕ) → Linear f → Moves f r c → (x : ℕ) → x < 2 ^ 64 → (i j : ℕ) → i < side → j < side
    → f x / 2 ^ bit_of i j % 2 ≡ x / 2 ^ bit_of (r i j) (c i j) % 2
moves f r c l t x h i j hi hj =
    same_maps 64 (λ x. f x / 2 ^ bit_of i j % 2) (λ x. x / 2 ^ bit_of (r i j) (c i j) % 2) (after (λ x. x / 2 ^ bit_of i j % 2) f (bit_linear (bit_of i j)) l)
    (bit_linear (bit_of (r i j) (c i j)))
    (λ k b.
    eqb→eq (f (2 ^ k) / 2 ^ bit_of i j % 2) (2 ^ k / 2 ^ bit_of (r i j) (c i j) % 2)
    (two_at side side (λ i j. eqb (f (2 ^ k) / 2 ^ bit_of i j % 2) (2 ^ k / 2 ^ bit_of (r i j) (c i j) % 2)) (each_at 64 (λ k. agrees r c (f (2 ^ k)) (2 ^ k)) t k b) i j hi hj))
    x h

straight_moves : Moves straight row_from column_from
unfolding straight left up
straight_moves = tt

stagger_moves : Moves stagger row_to column_to
unfolding stagger down right
stagger_moves = tt

-- ---- a block in one number

pub record InOne (rows : List ℕ) (x : ℕ) : Type 0 where
  pub long : length rows ≡ side
  pub fits : x < 2 ^ 64
  pub at : (k : ℕ) → k < side → byte x k ≡ get_or rows k 0

pub in_bytes : (rows : List ℕ) (x : ℕ) → InOne rows x → Bytes rows
in_bytes rows x s i = by_cases (dec_lt i 8)
  where
    by_cases : Dec (i < 8) → get_or rows i 0 < 256
    by_cases (yes h) = rw (← s.at i h) (byte_lt x i)
    by_cases (no h) = let l : length rows ≡ 8 = s.long in rw (get_or-eq_default rows 0 {n = i} (omega arith)) (zero-lt-suc 255)

pub in_cell : (rows : List ℕ) (x : ℕ) → InOne rows x → (i j : ℕ) → i < side → j < side → cell rows i j ≡ x / 2 ^ bit_of i j % 2
unfolding cell
in_cell rows x s i j hi hj = ap (λ (m : ℕ). m / 2 ^ j % 2) (sym (s.at i hi)) ∙ byte_bit x i j hj

-- whose cells are these holds it
from_cells : (rows : List ℕ) (x : ℕ) → length rows ≡ side → Bytes rows → x < 2 ^ 64 → ((i j : ℕ) → i < side → j < side → cell rows i j ≡ x / 2 ^ bit_of i j % 2) → InOne rows x
unfolding cell
from_cells rows x l b h f =
    record {
      long = l;
      fits = h;
      at = λ k hk. same_bits 8 (byte x k) (get_or rows k 0) (byte_lt x k) (b k) (λ j hj. byte_bit x k j hj ∙ sym (f k j hk hj));
    }

pub in_rows : (x : ℕ) → x < 2 ^ 64 → InOne (rows_in x) x
in_rows x h = record { long = refl; fits = h; at = at }
  where
    at : (k : ℕ) → k < side → byte x k ≡ get_or (rows_in x) k 0
    at zero l = refl
    at (suc zero) l = refl
    at (suc (suc zero)) l = refl
    at (suc (suc (suc zero))) l = refl
    at (suc (suc (suc (suc zero)))) l = refl
    at (suc (suc (suc (suc (suc zero))))) l = refl
    at (suc (suc (suc (suc (suc (suc zero)))))) l = refl
    at (suc (suc (suc (suc (suc (suc (suc zero))))))) l = refl
    at (suc (suc (suc (suc (suc (suc (suc (suc k)))))))) l = absurd (omega arith)

-- a number holds one block
pub one_block : (a b : List ℕ) (x : ℕ) → InOne a x → InOne b x → a ≡ b
one_block a b x s t =
    ext_get_or 0 a b (s.long ∙ sym t.long) (λ i h. let l : i < side = rw s.long at h in sym (s.at i l) ∙ t.at i l)

pub in_straight : (rows : List ℕ) (x : ℕ) → InOne rows x → InOne (straightened rows) (straight x)
in_straight rows x s =
    from_cells (straightened rows) (straight x) (straightened_long rows) (straightened_bytes rows) (straight_lt x)
    (λ i j hi hj.
    straightened_cell rows i j hi hj ∙ in_cell rows x s (row_from i j) (column_from i j) (omega arith) (omega arith)
    ∙ sym (moves straight row_from column_from straight_linear straight_moves x s.fits i j hi hj))

pub in_stagger : (rows : List ℕ) (x : ℕ) → InOne rows x → InOne (staggered rows) (stagger x)
in_stagger rows x s =
    from_cells (staggered rows) (stagger x) (staggered_long rows) (staggered_bytes rows) (stagger_lt x)
    (λ i j hi hj.
    staggered_cell rows i j hi hj ∙ in_cell rows x s (row_to i j) (column_to i j) (omega arith) (omega arith)
    ∙ sym (moves stagger row_to column_to stagger_linear stagger_moves x s.fits i j hi hj))
