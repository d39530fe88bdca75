-- Case distinctions: which of two numbers is less, whether they are the same, which bit it is; and what is not false.
use mathlib.Core.Path.{◌≡◌, refl}
use mathlib.Core.Bool.{Bool, true, false}
use mathlib.Core.Logic.{◌⊎◌, inl, inr, ⊎_elim}
use Prim.Native.Nat.{ℕ, zero, suc, ◌%◌, ◌<◌, ◌≤◌}
use native.Mathlib.Nat.{eq-or-lt_of_le, mod-lt, zero-lt-suc}
use native.Mathlib.Omega.{arith}

pub le_or_lt : (m n : ℕ) → (m ≤ n) ⊎ (n < m)
le_or_lt zero n = inl (omega arith)
le_or_lt (suc m) zero = inr (omega arith)
le_or_lt (suc m) (suc n) = ⊎_elim (λ h. inl (omega arith)) (λ h. inr (omega arith)) (le_or_lt m n)

pub same_or_not : (m n : ℕ) → (m ≡ n) ⊎ (m ≡ n → ⊥)
same_or_not m n =
    ⊎_elim (λ (h : m ≤ n). ⊎_elim (λ e. inl e) (λ (l : m < n). inr (λ e. omega arith)) (eq-or-lt_of_le h))
    (λ (l : n < m). inr (λ e. omega arith)) (le_or_lt m n)

pub pos_of_not_zero : (n : ℕ) → (n ≡ 0 → ⊥) → 0 < n
pos_of_not_zero zero f = absurd (f refl)
pos_of_not_zero (suc n) f = zero-lt-suc n

pub not_zero_of_pos : {n : ℕ} → 0 < n → n ≡ 0 → ⊥
not_zero_of_pos p e = omega arith

pub true_of_not_false : (b : Bool) → (b ≡ false → ⊥) → b ≡ true
true_of_not_false true f = refl
true_of_not_false false f = absurd (f refl)

pub bit_lt : (n : ℕ) → n % 2 < 2
bit_lt n = mod-lt n (zero-lt-suc 1)

-- what holds of 0 and of 1 holds of a bit
pub bit_cases : (P : ℕ → Type 0) → P 0 → P 1 → (n : ℕ) → P (n % 2)
bit_cases P p q n = go (n % 2) (bit_lt n)
  where
    go : (k : ℕ) → k < 2 → P k
    go zero h = p
    go (suc zero) h = q
    go (suc (suc k)) h = absurd (omega arith)
