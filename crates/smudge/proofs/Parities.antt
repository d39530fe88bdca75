-- The parities of a block in one number: they keep exclusive ors, and a stored block is one that has none wrong.
use mathlib.Core.Path.{◌≡◌, refl, sym, ap, ◌∙◌}
use mathlib.Core.List.{List}
use Prim.Native.Nat.{ℕ, ◌/◌, ◌%◌, ◌^◌, ◌<◌, ◌≤◌}
use native.Mathlib.Decide.{dec_lt}
use native.Mathlib.Omega.{arith}
use lib.Bits.{bit_xor, bit_and, and_le_r, xor_self, xor_zero_l}
use lib.Count.{ones_in}
use lib.ListN.{length, get_or, get_or-eq_default}
use Rattle.numbers.specs.Total.{total}
use Rattle.numbers.proofs.Xor.{xor_cancel, xor_undo}
use Rattle.numbers.proofs.Totals.{total_same, total_xor}
use Rattle.numbers.proofs.Linear.{Linear, itself, shifted_down, masked, added, after}
use Rattle.eights.specs.Inside.{byte}
use Rattle.eights.proofs.Laws.{byte_xor, none_byte, same_bytes}
use Rattle.block.specs.Block.{ones, Proper}
use Rattle.block.specs.Inside.{summed, wanted}
use Rattle.block.specs.Lanes.{OddBytes}
use Rattle.block.proofs.Columns.{even_none, proper_summed, is_proper}
use Rattle.block.proofs.Lanes.{odd_bytes_lem}
use Rattle.block.proofs.Theorems.{one_odd_bytes}
use Rattle.block.proofs.Loops.{summed_total}
use Rattle.smudge.specs.Smudge.{straightened, Stored}
use Rattle.smudge.specs.Inside.{lowest, folded, straight, odd_bytes, odd_rows, wrong_columns, Sound}
use Rattle.smudge.proofs.Turns.{InOne, in_bytes, in_straight, straight_linear}

-- ---- they keep exclusive ors

folded_linear : (k : ℕ) → Linear (folded k)
folded_linear k = added (λ x. x) (λ x. x / 2 ^ k) itself (shifted_down k)

odd_linear : Linear odd_bytes
unfolding odd_bytes
odd_linear =
    after (λ w. bit_and w lowest) (λ x. folded 1 (folded 2 (folded 4 x))) (masked lowest)
    (after (folded 1) (λ x. folded 2 (folded 4 x)) (folded_linear 1) (after (folded 2) (folded 4) (folded_linear 2) (folded_linear 4)))

total_linear : Linear (λ x. total 8 (byte x))
total_linear =
    record {
      sums = λ a b. total_same 8 (byte (bit_xor a b)) (λ k. bit_xor (byte a k) (byte b k)) (λ k h. byte_xor a b k) ∙ total_xor 8 (byte a) (byte b);
    }

-- the columns' parities
abbrev pub columns : ℕ → ℕ
columns x = total 8 (byte (straight x))

rows_linear : Linear odd_rows
rows_linear = after odd_bytes straight odd_linear straight_linear

columns_linear : Linear columns
columns_linear = after (λ x. total 8 (byte x)) straight total_linear straight_linear

-- ---- proper, by its parities

pub odd_is : (x p : ℕ) → OddBytes x p → p ≡ odd_bytes x
unfolding odd_bytes
odd_is x p o = one_odd_bytes x p (odd_bytes x) o (odd_bytes_lem x _ _ _ refl refl refl)

odd_at : (x k : ℕ) → k < 8 → byte (odd_bytes x) k ≡ ones (byte x k) % 2
unfolding odd_bytes
odd_at x k h = (odd_bytes_lem x _ _ _ refl refl refl).at k h

pub odd_most : (x : ℕ) → odd_bytes x ≤ lowest
unfolding odd_bytes
odd_most x = let l : bit_and (folded 1 (folded 2 (folded 4 x))) lowest ≤ lowest = and_le_r (folded 1 (folded 2 (folded 4 x))) lowest in omega arith

none_dark : ones 0 % 2 ≡ 0
unfolding ones_in
none_dark = refl

module _ (rows : List ℕ) (z : ℕ) (s : InOne rows z) where
  summed-in : summed rows ≡ total 8 (byte z)
  summed-in =
      summed_total rows ∙ ap (λ (n : ℕ). total n (λ a. get_or rows a 0)) s.long
      ∙ total_same 8 (λ a. get_or rows a 0) (byte z) (λ k h. sym (s.at k h))

  proper-none : Proper rows → (odd_bytes z ≡ 0) × (total 8 (byte z) ≡ wanted)
  proper-none p = (
    same_bytes 8 (odd_bytes z) 0 (omega (arith, odd_most z)) (omega arith)
        (λ k h. odd_at z k h ∙ ap (λ (m : ℕ). ones m % 2) (s.at k h) ∙ p.even k ∙ sym (none_byte k)),
    sym summed-in ∙ proper_summed rows p,
  )

  none-proper : odd_bytes z ≡ 0 → total 8 (byte z) ≡ wanted → Proper rows
  none-proper o t =
      let l : length rows ≡ 8 = s.long in
      is_proper rows (record { least = omega arith; most = omega arith; bytes = in_bytes rows z s }) (even_none rows even) (summed-in ∙ t)
    where
      even-at : (i : ℕ) → Dec (i < 8) → ones (get_or rows i 0) % 2 ≡ 0
      even-at i (yes h) =
          ap (λ (m : ℕ). ones m % 2) (sym (s.at i h)) ∙ sym (odd_at z i h) ∙ ap (λ (m : ℕ). byte m i) o ∙ none_byte i
      even-at i (no h) =
          let l : length rows ≡ 8 = s.long in
          ap (λ (m : ℕ). ones m % 2) (get_or-eq_default rows 0 {n = i} (omega arith)) ∙ none_dark

      even : (i : ℕ) → ones (get_or rows i 0) % 2 ≡ 0
      even i = even-at i (dec_lt i 8)

-- ---- stored, by its parities

module _ (rows : List ℕ) (x : ℕ) (s : InOne rows x) where
  pub stored_sound : Stored rows → Sound x
  stored_sound t =
      let n : (odd_rows x ≡ 0) × (total 8 (byte (straight x)) ≡ wanted) = proper-none (straightened rows) (straight x) (in_straight rows x s) t.proper in
      record { rows = n.0; columns = ap (bit_xor wanted) n.1 ∙ xor_self wanted }

  pub sound_stored : Sound x → Stored rows
  sound_stored n =
      record {
        long = s.long;
        bytes = in_bytes rows x s;
        proper = none-proper (straightened rows) (straight x) (in_straight rows x s) n.rows (sym (xor_cancel wanted (columns x) n.columns));
      }

-- ---- what is wrong with a sound block that was damaged is what the damage does

module _ (y d : ℕ) (n : Sound y) where
  pub rows_damaged : odd_rows (bit_xor y d) ≡ odd_rows d
  rows_damaged = rows_linear.sums y d ∙ ap (λ (m : ℕ). bit_xor m (odd_rows d)) n.rows ∙ xor_zero_l (odd_rows d)

  pub columns_damaged : wrong_columns (bit_xor y d) ≡ columns d
  columns_damaged =
      ap (bit_xor wanted) (columns_linear.sums y d ∙ ap (λ (m : ℕ). bit_xor m (columns d)) (sym (xor_cancel wanted (columns y) n.columns)))
      ∙ xor_undo wanted (columns d)
