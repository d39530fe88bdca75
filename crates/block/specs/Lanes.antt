-- Rows counted as far as some row, and eight rows in one number, a byte for each: what the functions that count them promise each other; no public promise rests on it.
use Rattle.std.specs.Prelude.{◌≡◌, List, ℕ, zero, suc, ◌+◌, ◌%◌, ◌<◌, ◌≤◌, length, get_or}
use Rattle.std.specs.Int.Bits.{bit_xor}
use Rattle.numbers.specs.Total.{total}
use Rattle.eights.specs.Inside.{byte}
use Rattle.block.specs.Block.{ones}
use Rattle.block.specs.Inside.{wanted}

-- f 0 + f 1 + .. + f (n - 1)
unfoldable pub count : ℕ → (ℕ → ℕ) → ℕ
count zero f = 0
count (suc n) f = count n f + f n

-- the first i rows are counted: the odd ones, one of them if there is any, and a bit for each column of the other parity than its own
pub record CountedTo (rows : List ℕ) (i odd row columns : ℕ) : Type 0 where
  pub most : i ≤ length rows
  pub few : odd ≤ i
  pub rows_odd : odd ≡ count i (λ a. ones (get_or rows a 0) % 2)
  pub columns_wrong : columns ≡ bit_xor wanted (total i (λ a. get_or rows a 0))
  pub inside : 0 < length rows → row < length rows
  pub row_odd : 0 < odd → ones (get_or rows row 0) % 2 ≡ 1

-- byte k of p is 1 where byte k of x is odd, and 0 where it is even
pub record OddBytes (x p : ℕ) : Type 0 where
  pub small : p < 18446744073709551616
  pub at : (k : ℕ) → k < 8 → byte p k ≡ ones (byte x k) % 2

-- r is a byte of p that is not 0, where there is one
pub record SomeByte (p r : ℕ) : Type 0 where
  pub most : r ≤ 8
  pub inside : (p ≡ 0 → ⊥) → r < 8
  pub is : (p ≡ 0 → ⊥) → byte p r ≡ 0 → ⊥
