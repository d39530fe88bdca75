-- What a row times numbers is where the row, or the numbers, are made of others.
use mathlib.Core.Path.{◌≡◌, ap, ◌∙◌}
use Prim.Native.Nat.{ℕ, suc, ◌%◌, ◌<◌}
use Rattle.numbers.specs.Total.{total}
use Rattle.numbers.proofs.Totals.{total_same, total_lt}
use Rattle.field.specs.Field.{sum, product}
use Rattle.field.proofs.Laws
use Rattle.field.proofs.Totals.{total_sum, total_scaled}
use Rattle.matrix.specs.System.{dot}

pub dot_lt : (n : ℕ) (u q : ℕ → ℕ) → dot n u q < 64
unfolding dot
dot_lt n u q = total_lt (suc n) (λ k. product (u k) (q k)) (λ k. Laws.product_lt (u k) (q k))

-- a row and f times another
pub dot_added : (n : ℕ) (u v r q : ℕ → ℕ) (f : ℕ) → ((k : ℕ) → r k ≡ sum (u k) (product f (v k))) → dot n r q ≡ sum (dot n u q) (product f (dot n v q))
unfolding dot
dot_added n u v r q f h =
    total_same (suc n) (λ k. product (r k) (q k)) (λ k. sum (product (u k) (q k)) (product f (product (v k) (q k))))
    (λ k l. ap (λ (x : ℕ). product x (q k)) (h k) ∙ term (u k) f (v k) (q k))
    ∙ total_sum (suc n) (λ k. product (u k) (q k)) (λ k. product f (product (v k) (q k)))
    ∙ ap (sum (total (suc n) (λ k. product (u k) (q k)))) (total_scaled (suc n) f (λ k. product (v k) (q k)))
  where
    term : (a f b t : ℕ) → product (sum a (product f b)) t ≡ sum (product a t) (product f (product b t))
    term a f b t = simp Laws.ring

-- a row times f
pub dot_scaled : (n : ℕ) (u r q : ℕ → ℕ) (f : ℕ) → ((k : ℕ) → r k ≡ product (u k) f) → dot n r q ≡ product f (dot n u q)
unfolding dot
dot_scaled n u r q f h =
    total_same (suc n) (λ k. product (r k) (q k)) (λ k. product f (product (u k) (q k)))
    (λ k l. ap (λ (x : ℕ). product x (q k)) (h k) ∙ term (u k) f (q k))
    ∙ total_scaled (suc n) f (λ k. product (u k) (q k))
  where
    term : (a f t : ℕ) → product (product a f) t ≡ product f (product a t)
    term a f t = simp Laws.ring

-- a row of which the low six bits are another's
pub dot_low : (n : ℕ) (u r q : ℕ → ℕ) → ((k : ℕ) → k < suc n → r k ≡ u k % 64) → dot n r q ≡ dot n u q
unfolding dot
dot_low n u r q h =
    total_same (suc n) (λ k. product (r k) (q k)) (λ k. product (u k) (q k))
    (λ k l. ap (λ (x : ℕ). product x (q k)) (h k l) ∙ Laws.product_low (u k) (q k))

-- numbers that are sums
pub dot_sum : (n : ℕ) (u p q : ℕ → ℕ) → dot n u (λ k. sum (p k) (q k)) ≡ sum (dot n u p) (dot n u q)
unfolding dot
dot_sum n u p q =
    total_same (suc n) (λ k. product (u k) (sum (p k) (q k))) (λ k. sum (product (u k) (p k)) (product (u k) (q k)))
    (λ k l. Laws.product_sum (u k) (p k) (q k))
    ∙ total_sum (suc n) (λ k. product (u k) (p k)) (λ k. product (u k) (q k))
