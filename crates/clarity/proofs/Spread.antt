-- The square of a sum is at most the count times the sum of the squares: what is subtracted in a spread is never the greater.
use mathlib.Core.Path.{◌≡◌}
use mathlib.Core.Logic.{◌⊎◌, inl, inr}
use Prim.Native.Nat.{ℕ, zero, suc, ◌+◌, ◌-◌, ◌*◌, ◌<◌, ◌≤◌}
use native.Mathlib.Nat.{mul-add, add-mul, mul_comm, mul_left_comm, mul_assoc, add_comm, add_left_comm, add_assoc, mul-le-mul_left}
use native.Mathlib.Omega.{arith}
use Rattle.numbers.proofs.Cases.{le_or_lt}
use Rattle.clarity.specs.Scan.{sum_to}

ruleset ring = (mul-add, add-mul, mul_assoc, mul_comm, mul_left_comm, add_assoc, add_comm, add_left_comm)

-- (y + k)² + y² = 2 y (y + k) + k²
pub squares_grow : (y k : ℕ) → (y + k) * (y + k) + y * y ≡ (y * (y + k) + y * (y + k)) + k * k
squares_grow y k = simp ring

pub two_squares : (x c : ℕ) → x * c + x * c ≤ x * x + c * c
two_squares x c = go (le_or_lt x c)
  where
    up : (x k : ℕ) → x * (x + k) + x * (x + k) ≤ x * x + (x + k) * (x + k)
    up x k = let e = squares_grow x k in omega arith

    from : (x c : ℕ) → x ≤ c → x * c + x * c ≤ x * x + c * c
    from x c h = let e : x + (c - x) ≡ c = omega arith in rw e at (up x (c - x))

    go : (x ≤ c) ⊎ (c < x) → x * c + x * c ≤ x * x + c * c
    go (inl h) = from x c h
    go (inr h) = let d = from c x (omega arith) in let e = mul_comm x c in omega arith

pub cross_left : (x s b c : ℕ) → x * (s + b * c) + x * (s + b * c) ≡ (x * s + x * s) + b * (x * c + x * c)
cross_left x s b c = simp ring

pub cross_right : (x n q b c : ℕ) → x * x * (n + b) + (q + b * (c * c)) ≡ (x * x * n + q) + b * (x * x + c * c)
cross_right x n q b c = simp ring

-- 2 x s is at most x² n + q, for every x
pub cross : (n : ℕ) (b c : ℕ → ℕ) (x : ℕ)
    → x * sum_to n (λ a. b a * c a) + x * sum_to n (λ a. b a * c a) ≤ x * x * sum_to n b + sum_to n (λ a. b a * (c a * c a))
unfolding sum_to
cross zero b c x = omega arith
cross (suc n) b c x =
    let i = cross n b c x in
    let t = mul-le-mul_left (b n) (two_squares x (c n)) in
    let l = cross_left x (sum_to n (λ a. b a * c a)) (b n) (c n) in
    let r = cross_right x (sum_to n b) (sum_to n (λ a. b a * (c a * c a))) (b n) (c n) in
    omega arith

pub square_left : (s b c : ℕ) → (s + b * c) * (s + b * c) ≡ s * s + b * (c * s + c * s) + b * b * (c * c)
square_left s b c = simp ring

pub square_right : (n q b c : ℕ) → (n + b) * (q + b * (c * c)) ≡ n * q + b * (c * c * n + q) + b * b * (c * c)
square_right n q b c = simp ring

-- so s² is at most n q
pub spread : (n : ℕ) (b c : ℕ → ℕ) → sum_to n (λ a. b a * c a) * sum_to n (λ a. b a * c a) ≤ sum_to n b * sum_to n (λ a. b a * (c a * c a))
unfolding sum_to
spread zero b c = omega arith
spread (suc n) b c =
    let i = spread n b c in
    let t = mul-le-mul_left (b n) (cross n b c (c n)) in
    let l = square_left (sum_to n (λ a. b a * c a)) (b n) (c n) in
    let r = square_right (sum_to n b) (sum_to n (λ a. b a * (c a * c a))) (b n) (c n) in
    omega arith
