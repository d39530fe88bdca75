-- The laws of the sum of many elements that speak of the field's sum and product; numbers/Totals has the others.
use mathlib.Core.Path.{◌≡◌, refl, sym, ap, ◌∙◌}
use Prim.Native.Nat.{ℕ, zero, suc}
use Rattle.numbers.specs.Total.{total}
use Rattle.numbers.proofs.Totals as Numbers
use Rattle.field.specs.Field.{sum, product}
use Rattle.field.proofs.Laws

pub total_sum : (n : ℕ) (f g : ℕ → ℕ) → total n (λ i. sum (f i) (g i)) ≡ sum (total n f) (total n g)
unfolding sum
total_sum = Numbers.total_xor

pub total_front : (n : ℕ) (f : ℕ → ℕ) → total (suc n) f ≡ sum (f 0) (total n (λ i. f (suc i)))
unfolding sum
total_front = Numbers.total_front

pub total_next : (n : ℕ) (f : ℕ → ℕ) → total (suc n) f ≡ sum (total n f) (f n)
unfolding total sum
total_next n f = refl

pub total_scaled : (n a : ℕ) (f : ℕ → ℕ) → total n (λ i. product a (f i)) ≡ product a (total n f)
unfolding total
total_scaled zero a f = sym (Laws.product_zero a)
total_scaled (suc n) a f =
    total_next n (λ i. product a (f i)) ∙ ap (λ (t : ℕ). sum t (product a (f n))) (total_scaled n a f)
    ∙ sym (Laws.product_sum a (total n f) (f n)) ∙ ap (product a) (sym (total_next n f))
