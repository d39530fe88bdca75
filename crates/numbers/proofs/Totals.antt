-- The laws of the exclusive or of many numbers.
use mathlib.Core.Path.{◌≡◌, refl, sym, ap, ap₂, ◌∙◌}
use mathlib.Core.Logic.{⊎_elim}
use Prim.Native.Nat.{ℕ, zero, suc, ◌+◌, ◌<◌}
use native.Mathlib.Nat.{add-zero, add-suc, eq-or-lt_of_le, le_of_suc-le-suc}
use native.Mathlib.Omega.{arith}
use lib.Bits.{bit_xor, xor_lt, xor_comm, xor_zero_r}
use Rattle.numbers.specs.Total.{total}
use Rattle.numbers.proofs.Xor.{xor_assoc, xor_four}

pub total_same : (n : ℕ) (f g : ℕ → ℕ) → ((i : ℕ) → i < n → f i ≡ g i) → total n f ≡ total n g
unfolding total
total_same zero f g h = refl
total_same (suc n) f g h = ap₂ bit_xor (total_same n f g (λ i l. h i (omega arith))) (h n (omega arith))

pub total_none : (n : ℕ) (f : ℕ → ℕ) → ((i : ℕ) → i < n → f i ≡ 0) → total n f ≡ 0
unfolding total
total_none zero f h = refl
total_none (suc n) f h = ap₂ bit_xor (total_none n f (λ i l. h i (omega arith))) (h n (omega arith))

pub total_xor : (n : ℕ) (f g : ℕ → ℕ) → total n (λ i. bit_xor (f i) (g i)) ≡ bit_xor (total n f) (total n g)
unfolding total
total_xor zero f g = refl
total_xor (suc n) f g =
    ap (λ (t : ℕ). bit_xor t (bit_xor (f n) (g n))) (total_xor n f g) ∙ xor_four (total n f) (total n g) (f n) (g n)

pub total_swap : (n m : ℕ) (f : ℕ → ℕ → ℕ) → total n (λ i. total m (λ k. f i k)) ≡ total m (λ k. total n (λ i. f i k))
unfolding total
total_swap zero m f = sym (total_none m (λ k. 0) (λ k l. refl))
total_swap (suc n) m f =
    ap (λ (t : ℕ). bit_xor t (total m (f n))) (total_swap n m f) ∙ sym (total_xor m (λ k. total n (λ i. f i k)) (f n))

-- the first term in front
pub total_front : (n : ℕ) (f : ℕ → ℕ) → total (suc n) f ≡ bit_xor (f 0) (total n (λ i. f (suc i)))
unfolding total
total_front zero f = xor_comm 0 (f 0)
total_front (suc n) f =
    ap (λ (t : ℕ). bit_xor t (f (suc n))) (total_front n f) ∙ xor_assoc (f 0) (total n (λ i. f (suc i))) (f (suc n))

-- the first m, and the n after them
pub total_append : (m n : ℕ) (f : ℕ → ℕ) → total (m + n) f ≡ bit_xor (total m f) (total n (λ k. f (m + k)))
unfolding total
total_append m zero f = ap (λ (i : ℕ). total i f) (add-zero m) ∙ sym (xor_zero_r (total m f))
total_append m (suc n) f =
    ap (λ (i : ℕ). total i f) (add-suc m n) ∙ ap (λ (t : ℕ). bit_xor t (f (m + n))) (total_append m n f)
    ∙ xor_assoc (total m f) (total n (λ k. f (m + k))) (f (m + n))

pub total_lt : (n : ℕ) (f : ℕ → ℕ) → ((i : ℕ) → f i < 64) → total n f < 64
unfolding total
total_lt zero f h = omega arith
total_lt (suc n) f h = xor_lt 6 (total n f) (f n) (total_lt n f h) (h n)

-- the one term that is not 0
pub total_only : (n a : ℕ) (f : ℕ → ℕ) → a < n → ((i : ℕ) → i < n → (i ≡ a → ⊥) → f i ≡ 0) → total n f ≡ f a
unfolding total
total_only zero a f h o = absurd (omega arith)
total_only (suc n) a f h o =
    ⊎_elim (λ (e : a ≡ n). ap₂ bit_xor (total_none n f (λ i l. o i (omega arith) (λ q. omega arith))) (ap f (sym e)))
    (λ (l : a < n).
    ap₂ bit_xor (total_only n a f l (λ i m. o i (omega arith))) (o n (omega arith) (λ q. omega arith)) ∙ xor_zero_r (f a))
    (eq-or-lt_of_le (le_of_suc-le-suc h))
