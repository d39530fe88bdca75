-- Numbers that agree in their bits.
use mathlib.Core.Path.{◌≡◌, refl, sym, ap, ◌∙◌}
use Prim.Native.Nat.{ℕ, zero, suc, ◌+◌, ◌*◌, ◌/◌, ◌%◌, ◌^◌, ◌<◌}
use native.Mathlib.Nat.{div-div-eq-div-mul, div-one, pow-suc, pow-succ'}
use native.Mathlib.Omega.{arith}
use Rattle.numbers.proofs.Cases.{bit_cases}

pub halved : (n i : ℕ) → n / 2 / 2 ^ i ≡ n / 2 ^ suc i
halved n i = div-div-eq-div-mul n 2 (2 ^ i) ∙ ap (λ (m : ℕ). n / m) (sym (pow-succ' 2 i))

-- numbers of n bits that agree in each are the same
pub same_bits : (n r s : ℕ) → r < 2 ^ n → s < 2 ^ n → ((l : ℕ) → l < n → r / 2 ^ l % 2 ≡ s / 2 ^ l % 2) → r ≡ s
same_bits zero r s hr hs e = omega arith
same_bits (suc n) r s hr hs e =
    let p : 2 ^ suc n ≡ 2 ^ n * 2 = pow-suc 2 n in
    let high : r / 2 ≡ s / 2 =
    same_bits n (r / 2) (s / 2) (omega arith) (omega arith)
    (λ l h. ap (λ (m : ℕ). m % 2) (halved r l) ∙ e (suc l) (omega arith) ∙ ap (λ (m : ℕ). m % 2) (sym (halved s l)))
    in
    let low : r % 2 ≡ s % 2 = ap (λ (m : ℕ). m % 2) (sym (div-one r)) ∙ e 0 (omega arith) ∙ ap (λ (m : ℕ). m % 2) (div-one s) in
    omega arith

-- a number has no more bits than its value
bits_enough : (n : ℕ) → n < 2 ^ n
bits_enough zero = omega arith
bits_enough (suc n) =
    let p : 2 ^ suc n ≡ 2 ^ n * 2 = pow-suc 2 n in
    let h : n < 2 ^ n = bits_enough n in
    omega arith

-- so any numbers that agree in every bit are the same
pub same_in_all : (r s : ℕ) → ((l : ℕ) → r / 2 ^ l % 2 ≡ s / 2 ^ l % 2) → r ≡ s
same_in_all r s e = let h : r + s < 2 ^ (r + s) = bits_enough (r + s) in same_bits (r + s) r s (omega arith) (omega arith) (λ l _. e l)

-- bits that are 1 where P holds and 0 where it does not are the same
same_told : (P : Type 0) (a b : ℕ) → (a % 2 ≡ 1 → P) → (a % 2 ≡ 0 → P → ⊥) → (b % 2 ≡ 1 → P) → (b % 2 ≡ 0 → P → ⊥) → a % 2 ≡ b % 2
same_told P a b one none one' none' =
    bit_cases (λ (x : ℕ). (x ≡ 1 → P) → (x ≡ 0 → P → ⊥) → x ≡ b % 2)
    (λ o z. bit_cases (λ (y : ℕ). (y ≡ 1 → P) → 0 ≡ y) (λ _. refl) (λ q. absurd (z refl (q refl))) b one')
    (λ o z. bit_cases (λ (y : ℕ). (y ≡ 0 → P → ⊥) → 1 ≡ y) (λ q. absurd (q refl (o refl))) (λ _. refl) b none') a one none

-- numbers of n bits whose bits tell the same of each place are the same
pub same_telling : (n : ℕ) (P : ℕ → Type 0) (r s : ℕ) → r < 2 ^ n → s < 2 ^ n → ((l : ℕ) → l < n → r / 2 ^ l % 2 ≡ 1 → P l) → ((l : ℕ) → l < n → r / 2 ^ l % 2 ≡ 0 → P l → ⊥)
    → ((l : ℕ) → l < n → s / 2 ^ l % 2 ≡ 1 → P l) → ((l : ℕ) → l < n → s / 2 ^ l % 2 ≡ 0 → P l → ⊥) → r ≡ s
same_telling n P r s hr hs one none one' none' =
    same_bits n r s hr hs (λ l h. same_told (P l) (r / 2 ^ l) (s / 2 ^ l) (one l h) (none l h) (one' l h) (none' l h))
