-- A system of n equations in n unknowns over the field, and what solving it promises.
use Rattle.std.specs.Prelude.{◌≡◌, List, [], ℕ, suc, ◌<◌, ◌≤◌, length, get_or, Option, Some, None}
use Rattle.numbers.specs.Below.{AllBelow}
use Rattle.numbers.specs.Total.{total}
use Rattle.field.specs.Field.{product}

-- the entry of row i in column k
abbrev pub at : List (List ℕ) → ℕ → ℕ → ℕ
at m i k = get_or (get_or m i []) k 0

-- a row's entries 0 to n, each times its number, all added
unfoldable pub dot : ℕ → (ℕ → ℕ) → (ℕ → ℕ) → ℕ
dot n row q = total (suc n) (λ k. product (row k) (q k))

-- the numbers q make each of n rows 0
abbrev pub Null : ℕ → List (List ℕ) → (ℕ → ℕ) → Type 0
Null n m q = (i : ℕ) → i < n → dot n (at m i) q ≡ 0

-- of elements with 0 from number n on, only zeros do
abbrev pub Regular : ℕ → List (List ℕ) → Type 0
Regular n m = (q : ℕ → ℕ) → ((k : ℕ) → q k < 64) → ((k : ℕ) → n ≤ k → q k ≡ 0) → Null n m q → (k : ℕ) → q k ≡ 0

-- a list's entries, and 0 past its end
abbrev pub entry : List ℕ → ℕ → ℕ
entry p k = get_or p k 0

-- a solution: the unknowns, 1 after them and 0 past it make each row 0, and no other numbers do
pub record Solution (n : ℕ) (m : List (List ℕ)) (p : List ℕ) : Type 0 where
  pub long : length p ≡ 6
  pub small : AllBelow 64 p
  pub regular : Regular n m
  pub null : Null n m (entry p)
  pub top : get_or p n 0 ≡ 1
  pub past : (k : ℕ) → n < k → get_or p k 0 ≡ 0

-- a system is solved exactly where it is regular
pub record Solves (n : ℕ) (m : List (List ℕ)) (r : Option (List ℕ)) : Type 0 where
  pub found : (p : List ℕ) → r ≡ Some p → Solution n m p
  pub singular : r ≡ None → Regular n m → ⊥
