-- What the steps of row reduction promise each other.
use Rattle.std.specs.Prelude.{◌≡◌, List, ℕ, ◌%◌, ◌<◌, ◌≤◌, length, get_or, map, Option, Some, None}
use Rattle.field.specs.Field.{sum, product}
use Rattle.field.specs.Inside.{inverse}
use Rattle.matrix.specs.System.{at, Null}

-- every entry is an element
pub record Entries (m : List (List ℕ)) : Type 0 where
  pub small : (i k : ℕ) → at m i k < 64

-- each entry by its low six bits
abbrev pub low_row : List ℕ → List ℕ
low_row row = map (λ x. x % 64) row

abbrev pub low_rows : List (List ℕ) → List (List ℕ)
low_rows m = map low_row m

-- row r is the first from t on, of n, whose entry in column t is not 0
pub record Pivot (m : List (List ℕ)) (t n r : ℕ) : Type 0 where
  pub least : t ≤ r
  pub inside : r < n
  pub before : (i : ℕ) → t ≤ i → i < r → at m i t ≡ 0
  pub here : 0 < at m r t

-- it is found, where there is one
pub record PivotIn (m : List (List ℕ)) (t n : ℕ) (r : Option ℕ) : Type 0 where
  pub found : (p : ℕ) → r ≡ Some p → Pivot m t n p
  pub none : r ≡ None → (i : ℕ) → t ≤ i → i < n → at m i t ≡ 0

pub record RowOver (row : List ℕ) (d : ℕ) (r : List ℕ) : Type 0 where
  pub long : length r ≡ 6
  pub entry : (k : ℕ) → get_or r k 0 ≡ product (get_or row k 0) (inverse d)

pub record RowAdded (row : List ℕ) (f : ℕ) (other r : List ℕ) : Type 0 where
  pub long : length r ≡ 6
  pub entry : (k : ℕ) → get_or r k 0 ≡ sum (get_or row k 0) (product f (get_or other k 0))

-- row t divided by its entry in column t, the other rows cleared there
pub record Cleared (n t : ℕ) (m r : List (List ℕ)) : Type 0 where
  pub here : (k : ℕ) → at r t k ≡ product (at m t k) (inverse (at m t t))
  pub rest : (i k : ℕ) → i < n → (i ≡ t → ⊥) → at r i k ≡ sum (at m i k) (product (at m i t) (at r t k))
  pub past : (i k : ℕ) → n ≤ i → at r i k ≡ at m i k

-- the first `steps` columns are those of the unit matrix, and all n where that could be; the same numbers make the rows 0
pub record Reduces (n : ℕ) (m r : List (List ℕ)) : Type 0 where
  pub steps : ℕ
  pub fits : steps ≤ n
  pub to : (q : ℕ → ℕ) → Null n m q → Null n r q
  pub from : (q : ℕ → ℕ) → Null n r q → Null n m q
  pub one : (i : ℕ) → i < steps → at r i i ≡ 1
  pub other : (i k : ℕ) → i < n → k < steps → (i ≡ k → ⊥) → at r i k ≡ 0
  pub stuck : steps < n → (i : ℕ) → steps ≤ i → i < n → at r i steps ≡ 0
  pub small : (i k : ℕ) → at r i k < 64

-- each of the first n rows has 1 on the diagonal
pub record UnitDiagonal (n : ℕ) (r : List (List ℕ)) : Type 0 where
  pub one : (i : ℕ) → i < n → at r i i ≡ 1

-- column n of the first n rows, and 1 after it
pub record ColumnIs (r : List (List ℕ)) (n : ℕ) (p : List ℕ) : Type 0 where
  pub long : length p ≡ 6
  pub entry : (i : ℕ) → i < n → get_or p i 0 ≡ at r i n
  pub top : get_or p n 0 ≡ 1
  pub past : (k : ℕ) → n < k → get_or p k 0 ≡ 0
