-- What the functions on packed rows promise each other: a row is one number, with what it combines the windows to, and its coefficients, in its lanes.
use Rattle.std.specs.Prelude.{◌≡◌, Option, Some, None, cond, List, ℕ, ◌+◌, ◌-◌, ◌*◌, ◌/◌, ◌%◌, ◌^◌, ◌<◌, ◌≤◌, ltb, length, get_or}
use Rattle.std.specs.Int.Bits.{bit_xor}
use Rattle.field.specs.Field.{product}
use Rattle.field.specs.Inside.{inverse}
use Rattle.lanes.specs.Lanes.{pack, lane}
use Rattle.mender.specs.Inside.{mixed, at, Spanned}

-- lane t of the row of q: what it combines window t to, for five windows, and after them its coefficients
unfoldable pub woven : List ℕ → (ℕ → ℕ) → ℕ → ℕ
woven s q t = cond (ltb t 5) (mixed q s t) (q (t - 5))

-- the low six bits of the first ten sums are the lanes of q
pub record SumsIn (q : ℕ) (s : List ℕ) : Type 0 where
  pub sum_at : (k : ℕ) → k < 10 → lane q k ≡ get_or s k 0 % 64

-- the first n rows are those of the unit vectors
pub record UnitRows (q n : ℕ) (x : List ℕ) : Type 0 where
  pub row : (i : ℕ) → i < n → get_or x i 0 ≡ q / 64 ^ i % 64 ^ 5 + 64 ^ i * 64 ^ 5
  pub none : (i : ℕ) → n ≤ i → get_or x i 0 ≡ 0

-- row r is the first that window j does not combine to 0
pub record Pivot (x : List ℕ) (j r : ℕ) : Type 0 where
  pub small : r < 6
  pub before : (i : ℕ) → i < r → lane (get_or x i 0) j ≡ 0
  pub here : 0 < lane (get_or x r 0) j

-- window j combines each row to 0
pub record NoPivot (x : List ℕ) (j : ℕ) : Type 0 where
  pub none : (i : ℕ) → i < 6 → lane (get_or x i 0) j ≡ 0

-- the first row that window j does not combine to 0, if there is one
abbrev pub PivotRow : List ℕ → ℕ → Option ℕ → Type 0
PivotRow x j (Some r) = Pivot x j r
PivotRow x j None = NoPivot x j

-- ten lanes times each of 0 to 7
pub record Multiples (a : ℕ) (r : List ℕ) : Type 0 where
  pub times : (k : ℕ) → k < 8 → get_or r k 0 ≡ pack 10 (λ l. product (lane a l) k)

-- the factor of row p that row i needs
abbrev pub factor : List ℕ → ℕ → ℕ → ℕ → ℕ
factor x j p i = product (lane (get_or x i 0) j) (inverse (lane (get_or x p 0) j))

-- each row after row p and the multiple of row p with which it combines window j to 0
pub record RowsCleared (x : List ℕ) (j p : ℕ) (r : List ℕ) : Type 0 where
  pub before : (i : ℕ) → i < p → get_or r i 0 ≡ get_or x i 0
  pub here : get_or r p 0 ≡ 0
  pub after : (i : ℕ) → p < i → i < 6 → get_or r i 0 ≡ bit_xor (get_or x i 0) (pack 10 (λ k. product (lane (get_or x p 0) k) (factor x j p i)))

-- the rows after n windows of s
pub record RowsHold (s : List ℕ) (e n : ℕ) (x : List ℕ) : Type 0 where
  pub rows : List (List ℕ)
  pub spanned : Spanned s e n rows
  pub word : (i : ℕ) → i < 6 → get_or x i 0 ≡ pack 11 (woven s (at rows i))

-- the same, of any sums that the lanes of q are
pub record RowsFrom (q e n : ℕ) (x : List ℕ) : Type 0 where
  pub hold : (s : List ℕ) → SumsIn q s → RowsHold s e n x

-- row r is the first that is not 0
pub record First (x : List ℕ) (r : ℕ) : Type 0 where
  pub small : r < 6
  pub before : (i : ℕ) → i < r → get_or x i 0 ≡ 0
  pub here : get_or x r 0 ≡ 0 → ⊥

-- each row is 0
pub record NoRow (x : List ℕ) : Type 0 where
  pub none : (i : ℕ) → i < 6 → get_or x i 0 ≡ 0

-- the first row that is not 0, if there is one
abbrev pub FirstRow : List ℕ → Option ℕ → Type 0
FirstRow x (Some r) = First x r
FirstRow x None = NoRow x

-- the coefficients of a row
pub record Coefficients (x : ℕ) (r : List ℕ) : Type 0 where
  pub wide : length r ≡ 6
  pub entry : (k : ℕ) → k < 6 → get_or r k 0 ≡ lane x (5 + k)
