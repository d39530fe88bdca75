-- What a smudge did is found from the parities: where some window serves, the block is the rows with what was found taken off; and what is found lies in a window.
use mathlib.Core.Path.{◌≡◌, refl, sym, ap, ap₂, subst, ◌∙◌}
use mathlib.Core.Bool.{Bool}
use mathlib.Core.List.{List}
use mathlib.Core.Logic.{⊎_elim}
use Prim.Native.Nat.{ℕ, zero, suc, ◌+◌, ◌*◌, ◌/◌, ◌%◌, ◌^◌, ◌<◌, ◌≤◌}
use native.Mathlib.Nat.{eq-or-lt_of_le, zero-add, zero-div, zero-lt-suc}
use native.Mathlib.Omega.{arith}
use lib.Bits.{bit_xor, bit_and, xor_comm, xor_lt, xor_self, xor_zero_r, and_le_l, and_le_r, and_zero_r}
use lib.Count.{count_trailing_zeros, trailing_le}
use lib.Dec.{T, eqb, leb, leb→le}
use lib.ListN.{length, get_or}
use Rattle.numbers.proofs.Bits.{same_bits}
use Rattle.numbers.proofs.Cases.{bit_cases}
use Rattle.numbers.proofs.Range.{both, both_left, both_right, each, each_at}
use Rattle.numbers.proofs.Linear.{xor_bit, and_bit}
use Rattle.numbers.proofs.Xor.{xor_undo}
use Rattle.eights.specs.Inside.{HoldsBytes, eight_from}
use Rattle.eights.proofs.Laws.{eight_holds}
use Rattle.eights.proofs.Loops.{holds_at}
use Rattle.block.specs.Block.{Bytes, ones}
use Rattle.block.proofs.Lanes.{trailing_odd}
use Rattle.smudge.specs.Smudge.{side, cell, Window, Inside, Smudged}
use Rattle.smudge.specs.Inside.{odd_rows, wrong_columns, Sound, smudge_in, window, first_cells, holding, windows_with, first_of, first_with, smudge_for, crossings, rows_in}
use Rattle.smudge.proofs.Cells.{lowest_eight, lowest_long, lowest_bytes, lowest_cell}
use Rattle.smudge.proofs.Ranges.{either}
use Rattle.smudge.proofs.Turns.{bit_of, InOne, in_cell, in_rows, one_block}
use Rattle.smudge.proofs.Parities.{stored_sound, sound_stored, rows_damaged, columns_damaged}
use Rattle.smudge.proofs.Windows.{cells_of, none_outside, outside_none, inside_found, inside_few}

-- ---- every block of eight rows is in a number

pub in_eight : (rows : List ℕ) (x : ℕ) → length rows ≡ side → x < 2 ^ 64 → HoldsBytes (eight_from rows 0) x → InOne rows x
in_eight rows x l h s =
    record { long = l; fits = h; at = λ k b. holds_at rows 0 x s k b ∙ ap (λ (a : ℕ). get_or rows a 0) (zero-add k) }

unfoldable pub number_of : List ℕ → ℕ
number_of rows =
    get_or rows 0 0 + get_or rows 1 0 * 256 + get_or rows 2 0 * 65536 + get_or rows 3 0 * 16777216 + get_or rows 4 0 * 4294967296 + get_or rows 5 0 * 1099511627776
    + get_or rows 6 0 * 281474976710656
    + get_or rows 7 0 * 72057594037927936

pub number_in : (rows : List ℕ) → length rows ≡ side → Bytes rows → InOne rows (number_of rows)
unfolding number_of
number_in rows l b =
    in_eight rows (number_of rows) l (omega (arith, b 0, b 1, b 2, b 3, b 4, b 5, b 6, b 7))
    (eight_holds _ _ _ _ _ _ _ _ (number_of rows) (b 0) (b 1) (b 2) (b 3) (b 4) (b 5) (b 6) (b 7) refl)

-- ---- where a window serves

-- two blocks that agree outside a window differ inside it alone
module _ (rows block : List ℕ) (x y : ℕ) (s : InOne rows x) (t : InOne block y) (m : Smudged rows block) where
  abbrev d : ℕ
  d = bit_xor x y

  differs-inside : bit_and d (cells_of m.row m.column) ≡ d
  differs-inside =
      same_bits 64 (bit_and d w) d (omega (arith, and_le_l d w, d-lt)) d-lt
      (λ l h.
      let i : ℕ = l / 8 in
      let j : ℕ = l % 8 in
      let e : bit_of i j ≡ l = omega arith in
      ap (λ (n : ℕ). bit_and d w / 2 ^ n % 2) (sym e) ∙ at i j (omega arith) (omega arith) ∙ ap (λ (n : ℕ). d / 2 ^ n % 2) e)
    where
      w : ℕ
      w = cells_of m.row m.column

      d-lt : d < 2 ^ 64
      d-lt = xor_lt 64 x y s.fits t.fits

      -- a cell that the window has not is the same in both
      same : (i j : ℕ) → i < side → j < side → w / 2 ^ bit_of i j % 2 ≡ 0 → d / 2 ^ bit_of i j % 2 ≡ 0
      same i j hi hj z =
          xor_bit x y (bit_of i j)
          ∙ ap₂ bit_xor (sym (in_cell rows x s i j hi hj)) (sym (in_cell block y t i j hi hj))
          ∙ ap (bit_xor (cell rows i j)) (m.outside i j hi hj (outside_none m.row m.column i j m.window hi hj z))
          ∙ xor_self (cell rows i j)

      -- of bits
      kept : (a b : ℕ) → (b % 2 ≡ 0 → a % 2 ≡ 0) → bit_and (a % 2) (b % 2) ≡ a % 2
      kept a b =
          bit_cases (λ (v : ℕ). (v ≡ 0 → a % 2 ≡ 0) → bit_and (a % 2) v ≡ a % 2)
          (λ f. ap (λ (u : ℕ). bit_and u 0) (f refl) ∙ sym (f refl))
          (λ f. bit_cases (λ (u : ℕ). bit_and u 1 ≡ u) refl refl a) b

      at : (i j : ℕ) → i < side → j < side → bit_and d w / 2 ^ bit_of i j % 2 ≡ d / 2 ^ bit_of i j % 2
      at i j hi hj = and_bit d w (bit_of i j) ∙ kept (d / 2 ^ bit_of i j) (w / 2 ^ bit_of i j) (same i j hi hj)

  -- so what is found is the difference
  difference-found : smudge_in x ≡ d
  difference-found =
      let n : Sound y = stored_sound block y t m.stored in
      let e : x ≡ bit_xor y d = sym (xor_undo y x) ∙ ap (bit_xor y) (xor_comm y x) in
      ap₂ smudge_for (ap odd_rows e ∙ rows_damaged y d n) (ap wrong_columns e ∙ columns_damaged y d n)
      ∙ inside_found m.row m.column d (omega (arith, m.window.rows)) (omega (arith, m.window.columns)) (xor_lt 64 x y s.fits t.fits) differs-inside

  -- in at most four cells
  few-cells : lib.Count.ones d ≤ 4
  few-cells =
      inside_few m.row m.column d (omega (arith, m.window.rows)) (omega (arith, m.window.columns)) (xor_lt 64 x y s.fits t.fits) differs-inside

-- the number that is left when what was found is taken off
abbrev pub mended : ℕ → ℕ
mended x = bit_xor x (smudge_in x)

module _ (rows : List ℕ) (x : ℕ) (s : InOne rows x) where
  -- where some window serves, it is the block
  pub smudged_mended : (block : List ℕ) → Smudged rows block → InOne block (mended x) × Sound (mended x)
  smudged_mended block m =
      let y : ℕ = number_of block in
      let t : InOne block y = number_in block m.stored.long m.stored.bytes in
      let e : y ≡ mended x = sym (xor_undo x y) ∙ ap (bit_xor x) (sym (difference-found rows block x y s t m)) in
      (rw e at t, rw e at (stored_sound block y t m.stored))

  pub smudge_few : (block : List ℕ) → Smudged rows block → lib.Count.ones (smudge_in x) ≤ 4
  smudge_few block m =
      let y : ℕ = number_of block in
      let t : InOne block y = number_in block m.stored.long m.stored.bytes in
      rw (difference-found rows block x y s t m) (few-cells rows block x y s t m)

-- so there is never a second: rows of more than eight bits have the cells of their lowest eight
pub never_second : (rows a b : List ℕ) → Smudged rows a → Smudged rows b → a ≡ b
never_second rows a b m n =
    let x : ℕ = number_of (lowest_eight rows) in
    let s : InOne (lowest_eight rows) x = number_in (lowest_eight rows) (lowest_long rows) (lowest_bytes rows) in
    one_block a b (mended x) (smudged_mended (lowest_eight rows) x s a (low a m)).0 (smudged_mended (lowest_eight rows) x s b (low b n)).0
  where
    low : (block : List ℕ) → Smudged rows block → Smudged (lowest_eight rows) block
    low block m =
        record {
          stored = m.stored;
          row = m.row;
          column = m.column;
          window = m.window;
          outside = λ i j hi hj out. m.outside i j hi hj out ∙ sym (lowest_cell rows i j hi hj);
        }

-- ---- what is found lies in a window

-- a number whose cells all lie in one window
pub record InWindow (p : ℕ) : Type 0 where
  pub row : ℕ
  pub column : ℕ
  pub window : Window row column
  pub outside : (i j : ℕ) → i < side → j < side → (Inside row column i j → ⊥) → p / 2 ^ bit_of i j % 2 ≡ 0

-- what a number has in a window
masked_window : (r c f : ℕ) → Window r c → InWindow (bit_and f (cells_of r c))
masked_window r c f w =
    record {
      row = r;
      column = c;
      window = w;
      outside = λ i j hi hj out.
          and_bit f (cells_of r c) (bit_of i j) ∙ ap (bit_and (f / 2 ^ bit_of i j % 2)) (none_outside r c i j w hi hj out) ∙ and_zero_r (f / 2 ^ bit_of i j % 2);
    }

-- nothing lies in any
pub nothing_window : InWindow 0
nothing_window =
    record {
      row = 0;
      column = 0;
      window = record { rows = omega arith; columns = omega arith };
      outside = λ i j hi hj out. ap (λ (n : ℕ). n % 2) (zero-div (2 ^ bit_of i j));
    }

-- the first cells of windows
firsts_test : T (each 64 (λ t. either (eqb (first_cells / 2 ^ t % 2) 0) (both (leb (t / 8) 6) (leb (t % 8) 6))))
firsts_test = tt

first_window : (t : ℕ) → t < 64 → first_cells / 2 ^ t % 2 ≡ 1 → Window (t / 8) (t % 8)
first_window t h e =
    let b : T (both (leb (t / 8) 6) (leb (t % 8) 6)) =
    one (first_cells / 2 ^ t % 2) (both (leb (t / 8) 6) (leb (t % 8) 6)) e
    (each_at 64 (λ t. either (eqb (first_cells / 2 ^ t % 2) 0) (both (leb (t / 8) 6) (leb (t % 8) 6))) firsts_test t h)
    in
    let r : t / 8 ≤ 6 = leb→le (t / 8) 6 (both_left (leb (t / 8) 6) (leb (t % 8) 6) b) in
    let c : t % 8 ≤ 6 = leb→le (t % 8) 6 (both_right (leb (t / 8) 6) (leb (t % 8) 6) b) in
    record { rows = omega arith; columns = omega arith }
  where
    one : (n : ℕ) (b : Bool) → n ≡ 1 → T (either (eqb n 0) b) → T b
    one n b e t = subst (λ (k : ℕ). T (either (eqb k 0) b)) e t

-- the lowest one of a number of 64 bits
pub trailing_inside : (n : ℕ) → 0 < n → n < 2 ^ 64 → count_trailing_zeros 64 n < 64
trailing_inside n p h =
    ⊎_elim (λ (q : count_trailing_zeros 64 n ≡ 64). absurd (let o : n / 2 ^ 64 % 2 ≡ 1 = ap (λ (k : ℕ). n / 2 ^ k % 2) (sym q) ∙ trailing_odd 64 n p h in omega arith))
    (λ (l : count_trailing_zeros 64 n < 64). l)
    (eq-or-lt_of_le (trailing_le 64 n))

-- the lowest cell of some first cells is one
module _ (h m : ℕ) (e : suc m ≡ bit_and h first_cells) where
  abbrev lowestCell : ℕ
  lowestCell = count_trailing_zeros 64 (suc m)

  fits-64 : suc m < 2 ^ 64
  fits-64 = omega (arith, and_le_r h first_cells)

  lowest-one : suc m / 2 ^ lowestCell % 2 ≡ 1
  lowest-one = trailing_odd 64 (suc m) (zero-lt-suc m) fits-64

  lowest-inside : lowestCell < 64
  lowest-inside = trailing_inside (suc m) (zero-lt-suc m) fits-64

  lowest-first : first_cells / 2 ^ lowestCell % 2 ≡ 1
  lowest-first =
      both_one (h / 2 ^ lowestCell) (first_cells / 2 ^ lowestCell)
      (sym (and_bit h first_cells lowestCell) ∙ ap (λ (n : ℕ). n / 2 ^ lowestCell % 2) (sym e) ∙ lowest-one)
    where
      both_one : (a b : ℕ) → bit_and (a % 2) (b % 2) ≡ 1 → b % 2 ≡ 1
      both_one a b =
          bit_cases (λ (v : ℕ). bit_and (a % 2) v ≡ 1 → v ≡ 1) (λ q. absurd (let z : bit_and (a % 2) 0 ≡ 0 = and_zero_r (a % 2) in omega arith)) (λ q. refl) b

  first-in-window : (f : ℕ) → InWindow (bit_and f (window * 2 ^ lowestCell))
  first-in-window f =
      let t : ℕ = lowestCell in
      let b : bit_of (t / 8) (t % 8) ≡ t = omega arith in
      rw b at (masked_window (t / 8) (t % 8) f (first_window t lowest-inside lowest-first))

-- so a window there is not shifted out
pub lowest_most : (h : ℕ) → (bit_and h first_cells ≡ 0 → ⊥) → count_trailing_zeros 64 (bit_and h first_cells) ≤ 54
lowest_most h d = go (bit_and h first_cells) refl d
  where
    go : (m : ℕ) → m ≡ bit_and h first_cells → (m ≡ 0 → ⊥) → count_trailing_zeros 64 m ≤ 54
    go zero e d = absurd (d refl)
    go (suc m) e d =
        let t : ℕ = count_trailing_zeros 64 (suc m) in
        let w : Window (t / 8) (t % 8) = first_window t (lowest-inside h m e) (lowest-first h m e) in
        omega (arith, w.rows, w.columns)

first_of_window : (h f m : ℕ) → m ≡ bit_and h first_cells → InWindow (first_of f m)
unfolding first_of
first_of_window h f zero e = nothing_window
first_of_window h f (suc m) e = first-in-window h m e f

pub found_in_window : (odd wrong : ℕ) → InWindow (smudge_for odd wrong)
unfolding smudge_for first_with windows_with
found_in_window odd wrong =
    let f : ℕ = crossings odd wrong in
    first_of_window (holding (ones wrong) f (f / 2 ^ 1) (f / 2 ^ 8) (f / 2 ^ 9)) f (windows_with (ones wrong) f) refl

-- ---- so where nothing is left wrong, the rows are what was found, smudged

module _ (rows : List ℕ) (x p : ℕ) (s : InOne rows x) (small : p < 2 ^ 64) (w : InWindow p) (n : Sound (bit_xor x p)) where
  abbrev clean : ℕ
  clean = bit_xor x p

  pub clean_in : InOne (rows_in clean) clean
  clean_in = in_rows clean (xor_lt 64 x p s.fits small)

  pub clean_smudged : Smudged rows (rows_in clean)
  clean_smudged =
      record {
        stored = sound_stored (rows_in clean) clean clean_in n;
        row = w.row;
        column = w.column;
        window = w.window;
        outside = λ i j hi hj out.
            in_cell (rows_in clean) clean clean_in i j hi hj ∙ xor_bit x p (bit_of i j)
            ∙ ap (bit_xor (x / 2 ^ bit_of i j % 2)) (w.outside i j hi hj out) ∙ xor_zero_r (x / 2 ^ bit_of i j % 2)
            ∙ sym (in_cell rows x s i j hi hj);
      }
