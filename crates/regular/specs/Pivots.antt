-- Elimination without division and without a search for pivots, of a symmetric matrix, and what the functions that do it at all places promise.
use Rattle.std.specs.Prelude.{◌≡◌, List, [], ◌∷◌, ℕ, zero, suc, ◌+◌, ◌*◌, ◌%◌, ◌<◌, ◌≤◌, length, drop, get_or}
use Rattle.field.specs.Field.{sum, product}
use Rattle.planes.specs.declared.Planes.{Planes}
use Rattle.planes.specs.Slices.{bit_at, of_bits, element_at}

-- what one step leaves of the rows and columns after the first
abbrev pub reduced : (ℕ → ℕ → ℕ) → ℕ → ℕ → ℕ
reduced m i j = sum (product (m 0 0) (m (suc i) (suc j))) (product (m 0 (suc i)) (m 0 (suc j)))

-- none of n pivots is 0
unfoldable pub Pivots : ℕ → (ℕ → ℕ → ℕ) → Type 0
Pivots zero m = Unit {0}
Pivots (suc n) m = (m 0 0 ≡ 0 → ⊥) × Pivots n (reduced m)

-- the element at place l that words 6 k to 6 k + 5 hold
unfoldable pub element_in : List ℕ → ℕ → ℕ → ℕ
element_in words k l =
    of_bits (bit_at (get_or words (6 * k) 0) l) (bit_at (get_or words (6 * k + 1) 0) l) (bit_at (get_or words (6 * k + 2) 0) l) (bit_at (get_or words (6 * k + 3) 0) l)
    (bit_at (get_or words (6 * k + 4) 0) l) (bit_at (get_or words (6 * k + 5) 0) l)

-- sum k at place l
unfoldable pub sum_in : List ℕ → List ℕ → ℕ → ℕ → ℕ
sum_in sums words l k = sum (get_or sums k 0 % 64) (element_in words k l)

pub record SumPlanes (sums words : List ℕ) (k : ℕ) (r : Planes) : Type 0 where
  pub at : (l : ℕ) → l < 63 → sum_in sums words l k ≡ element_at r l

-- where r has a 0, every matrix of n rows that is as stated there has pivots that are not 0
pub record PivotsWhere (n : ℕ) (Is : ℕ → (ℕ → ℕ → ℕ) → Type 0) (r : ℕ) : Type 0 where
  pub pivots : (l : ℕ) → l < 63 → bit_at r l ≡ 0 → (m : ℕ → ℕ → ℕ) → Is l m → Pivots n m

-- the same of the matrix of six windows
pub record PivotsOfSums (Is : ℕ → (ℕ → ℕ) → Type 0) (r : ℕ) : Type 0 where
  pub pivots : (l : ℕ) → l < 63 → bit_at r l ≡ 0 → (s : ℕ → ℕ) → Is l s → Pivots 6 (λ i j. s (i + j))

-- the elements at place l of planes are f 0, f 1, ..
abbrev pub ElementsAt : List Planes → ℕ → (ℕ → ℕ) → Type 0
ElementsAt [] l f = Unit {0}
ElementsAt (p ∷ ps) l f = (f 0 ≡ element_at p l) × ElementsAt ps l (λ k. f (suc k))

-- and the planes of each row, from the diagonal on, have the entries of a matrix at place l
abbrev pub Upper : List (List Planes) → ℕ → (ℕ → ℕ → ℕ) → Type 0
Upper [] l m = Unit {0}
Upper (row ∷ rows) l m = ElementsAt row l (m 0) × Upper rows l (λ i j. m (suc i) (suc j))

-- ---- the matrix as the code has it, six whole rows of planes

-- what stands from the diagonal on, which the first row meets at column c
abbrev pub from_diagonal : ℕ → List (List Planes) → List (List Planes)
from_diagonal c [] = []
from_diagonal c (row ∷ rows) = drop c row ∷ from_diagonal (suc c) rows

-- six entries in each row
abbrev pub Wide : List (List Planes) → Type 0
Wide m = (i : ℕ) → i < 6 → length (get_or m i []) ≡ 6

-- the element at place l of entry k of a row
abbrev pub element : List Planes → ℕ → ℕ → ℕ
element row k l = element_at (get_or row k (record { b0 = 0; b1 = 0; b2 = 0; b3 = 0; b4 = 0; b5 = 0 })) l

-- and of entry j of row i
abbrev pub entry : List (List Planes) → ℕ → ℕ → ℕ → ℕ
entry m i j l = element (get_or m i []) j l

-- row i has the sums from i on
pub record Windows (s : List Planes) (m : List (List Planes)) : Type 0 where
  pub long : length m ≡ 6
  pub wide : Wide m
  pub at : (i j l : ℕ) → i < 6 → j < 6 → entry m i j l ≡ element s (i + j) l

-- row i, from the diagonal on, after the step from row n
pub record RowReduced (first : List Planes) (n i : ℕ) (row r : List Planes) : Type 0 where
  pub at : (j l : ℕ) → i ≤ j → j < 6 → element r j l ≡ sum (product (element first n l) (element row j l)) (product (element first i l) (element first j l))

-- each row after row n
pub record Reduced (n : ℕ) (m r : List (List Planes)) : Type 0 where
  pub row : (i : ℕ) → n < i → i < 6 → RowReduced (get_or m n []) n i (get_or m i []) (get_or r i [])
