-- Every dark cell is below the threshold and no bright one is: so the mean of the bright ones is the greater.
use mathlib.Core.Path.{◌≡◌, refl}
use mathlib.Core.Bool.{Bool, true, false}
use mathlib.Core.List.{List}
use Prim.Native.Nat.{ℕ, zero, suc, ◌+◌, ◌-◌, ◌*◌, ◌<◌, ◌≤◌}
use native.Mathlib.Nat.{mul-le-mul_right, mul_assoc, mul_comm, le_trans, le_of_eq, zero-mul, one-mul, mul-one, mul-zero, mul-add, add-mul, mul-pos}
use native.Mathlib.Omega.{arith}
use lib.Dec.{ltb}
use lib.ListN.{length, get_or}
use borrow.Author.Tests.{ltb-true, ltb-false}
use Rattle.clarity.specs.Scan.{sum_to, side_of, on_side, count, sum, dark_side, bright_side}
use Rattle.clarity.specs.Inside.{Tallied, Ordered}

turned : (t n1 n2 : ℕ) → t * n1 * n2 ≡ t * n2 * n1
turned t n1 n2 = simp (mul_assoc, mul_comm)

-- a dark cell is below the threshold by one at least
below : (t c : ℕ) (b : Bool) → ltb c t ≡ b → side_of dark_side b * c + side_of dark_side b ≤ t * side_of dark_side b
below t c true e = let l = ltb-true c t e in simp (one-mul, mul-one) (omega arith)
below t c false e = simp (zero-mul, mul-zero) (omega arith)

above : (t c : ℕ) (b : Bool) → ltb c t ≡ b → t * side_of bright_side b ≤ side_of bright_side b * c
above t c true e = simp (zero-mul, mul-zero) (omega arith)
above t c false e = let l = ltb-false c t e in simp (one-mul, mul-one) (omega arith)

dark_most : (n t : ℕ) (f : ℕ → ℕ)
    → sum_to n (λ a. on_side dark_side t (f a) * f a) + sum_to n (λ a. on_side dark_side t (f a)) ≤ t * sum_to n (λ a. on_side dark_side t (f a))
unfolding sum_to on_side
dark_most zero t f = omega arith
dark_most (suc n) t f =
    let i = dark_most n t f in
    let j = below t (f n) (ltb (f n) t) refl in
    rw mul-add (omega arith)

bright_least : (n t : ℕ) (f : ℕ → ℕ) → t * sum_to n (λ a. on_side bright_side t (f a)) ≤ sum_to n (λ a. on_side bright_side t (f a) * f a)
unfolding sum_to on_side
bright_least zero t f = simp mul-zero (omega arith)
bright_least (suc n) t f =
    let i = bright_least n t f in
    let j = above t (f n) (ltb (f n) t) refl in
    rw mul-add (omega arith)

module _ (t : ℕ) (cells : List ℕ) where
  -- s1 + n1 is at most t n1, and t n2 at most s2
  pub dark_below : sum dark_side t cells + count dark_side t cells ≤ t * count dark_side t cells
  unfolding count sum
  dark_below = dark_most (length cells) t (λ a. get_or cells a 0)

  pub bright_above : t * count bright_side t cells ≤ sum bright_side t cells
  unfolding count sum
  bright_above = bright_least (length cells) t (λ a. get_or cells a 0)

between : (t n1 s1 n2 s2 : ℕ) → s1 + n1 ≤ t * n1 → t * n2 ≤ s2 → (s1 + n1) * n2 ≤ s2 * n1
between t n1 s1 n2 s2 x y = le_trans (mul-le-mul_right n2 x) (le_trans (le_of_eq (turned t n1 n2)) (mul-le-mul_right n1 y))

-- so s1 n2 is below s2 n1, by n1 n2 at least
pub apart : (t : ℕ) (cells : List ℕ)
    → (sum dark_side t cells + count dark_side t cells) * count bright_side t cells ≤ sum bright_side t cells * count dark_side t cells
apart t cells =
    between t (count dark_side t cells) (sum dark_side t cells) (count bright_side t cells) (sum bright_side t cells) (dark_below t cells) (bright_above t cells)

less : (n1 s1 n2 s2 : ℕ) → (s1 + n1) * n2 ≤ s2 * n1 → s1 * n2 ≤ s2 * n1
less n1 s1 n2 s2 h = le_trans (mul-le-mul_right n2 (omega arith)) h

-- and where both sides have cells it is above
more : (n1 s1 n2 s2 : ℕ) → 0 < n1 * n2 → (s1 + n1) * n2 ≤ s2 * n1 → 0 < s2 * n1 - s1 * n2
more n1 s1 n2 s2 p h = let e = add-mul s1 n1 n2 in omega arith

pub difference_positive : (t : ℕ) (cells : List ℕ) → 0 < count dark_side t cells → 0 < count bright_side t cells
    → 0 < sum bright_side t cells * count dark_side t cells - sum dark_side t cells * count bright_side t cells
difference_positive t cells d b =
    more (count dark_side t cells) (sum dark_side t cells) (count bright_side t cells) (sum bright_side t cells) (mul-pos d b) (apart t cells)

-- the mean of the bright ones is not below that of the dark ones
pub not_below : (t : ℕ) (cells : List ℕ) → sum dark_side t cells * count bright_side t cells ≤ sum bright_side t cells * count dark_side t cells
not_below t cells = less (count dark_side t cells) (sum dark_side t cells) (count bright_side t cells) (sum bright_side t cells) (apart t cells)

pub ordered : (t : ℕ) (cells : List ℕ) (n1 s1 q1 n2 s2 q2 : ℕ) → Tallied dark_side t cells n1 s1 q1 → Tallied bright_side t cells n2 s2 q2 → Ordered n1 s1 n2 s2
ordered t cells n1 s1 q1 n2 s2 q2 h k =
    record {
      few1 = h.few;
      few2 = k.few;
      low1 = h.low;
      low2 = k.low;
      above = rw (h.sum_is, h.count_is, k.sum_is, k.count_is) (not_below t cells);
    }
