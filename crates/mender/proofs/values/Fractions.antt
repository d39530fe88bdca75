-- The value at a root is the quotient of two polynomials in its place: one of the locator and the sums, the other the locator's derivative.
use mathlib.Core.Path.{◌≡◌, refl, sym, ap, ap₂, ◌∙◌}
use mathlib.Core.Logic.{⊎_elim}
use mathlib.Core.List.{List}
use Prim.Native.Nat.{ℕ, zero, suc, ◌+◌, ◌-◌, ◌<◌, ◌≤◌}
use native.Mathlib.Nat.{zero-add, add-suc, suc-add}
use native.Mathlib.Omega.{arith}
use lib.ListN.{get_or, length, drop, get_or-eq_default}
use borrow.Author.Tests.{eq-eqb, ne_eqb}
use Rattle.numbers.proofs.Cases.{same_or_not}
use Rattle.numbers.specs.Total.{total}
use Rattle.field.specs.Field.{sum, product, power}
use Rattle.field.proofs.Laws
use Rattle.numbers.proofs.Totals.{total_same, total_none}
use Rattle.field.proofs.Totals.{total_sum, total_scaled, total_front}
use Rattle.polynomial.specs.Polynomial.{poly_at, over}
use Rattle.polynomial.proofs.Division.{over_get, poly_past, tail_value}
use Rattle.code.specs.Word.{listed}
use Rattle.mender.specs.Inside.{mixed, coef, value_of}
use Rattle.mender.specs.Values.{evaluated, inverse_or_none, Kills}
use Rattle.mender.proofs.rows.Windows.{mixed_lt}

from_front : (a b : ℕ) → a ≡ sum (sum a b) b
from_front a b = sym (Laws.sum_assoc a b b ∙ ap (sum a) (Laws.sum_self b) ∙ Laws.sum_zero a)

split_term : (a x b t : ℕ) → product (sum a (product x b)) t ≡ sum (product a t) (product x (product b t))
split_term a x b t = simp Laws.ring

module _ (p s : List ℕ) (x : ℕ) (wide : length p ≡ 6) where
  tail : ℕ → ℕ
  tail k = poly_at (drop k p) x

  tail-next : (k : ℕ) → tail k ≡ sum (get_or p k 0) (product x (tail (suc k)))
  unfolding tail
  tail-next k = tail_value p x k

  tail_none : (k : ℕ) → 6 ≤ k → tail k ≡ 0
  unfolding tail
  tail_none k h = poly_past p x k (λ i l. get_or-eq_default p 0 (omega arith))

  -- the first five coefficients of the quotient from m on, with the sums from n on
  mixedFrom : ℕ → ℕ → ℕ
  mixedFrom n m = total 5 (λ k. product (tail (suc (m + k))) (get_or s (n + k) 0))

  -- and of the locator
  coefficient : ℕ → ℕ → ℕ
  coefficient n m = total 5 (λ k. product (get_or p (suc (m + k)) 0) (get_or s (n + k) 0))

  mixed-from : (n : ℕ) → mixed (coef (over p x)) s n ≡ mixedFrom n 0
  unfolding mixed mixedFrom tail total sum
  mixed-from n =
      ap₂ sum
      (total_same 5 (λ k. product (get_or (over p x) k 0) (get_or s (n + k) 0)) (λ k. product (tail (suc (0 + k))) (get_or s (n + k) 0))
      (λ k l. ap (λ (t : ℕ). product t (get_or s (n + k) 0)) (over_get p x k ∙ ap (λ (i : ℕ). tail (suc i)) (sym (zero-add k)))))
      (ap (λ (t : ℕ). product t (get_or s (n + 5) 0)) (over_get p x 5 ∙ tail_none 6 (omega arith)) ∙ Laws.zero_product (get_or s (n + 5) 0))
      ∙ Laws.sum_zero (mixedFrom n 0)

  mixed-step : (n m : ℕ) → mixedFrom n m ≡ sum (coefficient n m) (product x (mixedFrom n (suc m)))
  unfolding mixedFrom coefficient
  mixed-step n m =
      total_same 5 (λ k. product (tail (suc (m + k))) (get_or s (n + k) 0))
      (λ k. sum (product (get_or p (suc (m + k)) 0) (get_or s (n + k) 0)) (product x (product (tail (suc (suc m + k))) (get_or s (n + k) 0))))
      (λ k l.
      ap (λ (t : ℕ). product t (get_or s (n + k) 0)) (tail-next (suc (m + k)))
      ∙ split_term (get_or p (suc (m + k)) 0) x (tail (suc (suc (m + k)))) (get_or s (n + k) 0)
      ∙ ap (λ (i : ℕ). sum (product (get_or p (suc (m + k)) 0) (get_or s (n + k) 0)) (product x (product (tail (suc i)) (get_or s (n + k) 0)))) (sym (suc-add m k)))
      ∙ total_sum 5 (λ k. product (get_or p (suc (m + k)) 0) (get_or s (n + k) 0)) (λ k. product x (product (tail (suc (suc m + k))) (get_or s (n + k) 0)))
      ∙ ap (sum (coefficient n m)) (total_scaled 5 x (λ k. product (tail (suc (suc m + k))) (get_or s (n + k) 0)))

  mixed-end : (n : ℕ) → mixedFrom n 5 ≡ 0
  unfolding mixedFrom
  mixed-end n =
      total_none 5 (λ k. product (tail (suc (5 + k))) (get_or s (n + k) 0))
      (λ k l. ap (λ (t : ℕ). product t (get_or s (n + k) 0)) (tail_none (suc (5 + k)) (omega arith)) ∙ Laws.zero_product (get_or s (n + k) 0))

  -- by the coefficients, from the last down
  evaluated-from : (n d m : ℕ) (f : ℕ → ℕ) → d + m ≡ 5 → ((k : ℕ) → k < 5 → f k ≡ coefficient n k) → evaluated d m f x ≡ mixedFrom n m
  unfolding poly_at listed
  evaluated-from n zero m f e h = sym (ap (mixedFrom n) (sym (zero-add m) ∙ e) ∙ mixed-end n)
  evaluated-from n (suc d) m f e h =
      ap₂ sum (h m (omega arith)) (ap (product x) (evaluated-from n d (suc m) f (omega arith) h)) ∙ sym (mixed-step n m)

  -- the window that the quotient combines, by the coefficients
  pub window_is : (n : ℕ) (f : ℕ → ℕ) → ((m : ℕ) → m < 5 → f m ≡ total 5 (λ k. product (get_or p (suc (m + k)) 0) (get_or s (n + k) 0)))
      → evaluated 5 0 f x ≡ mixed (coef (over p x)) s n
  unfolding coefficient
  window_is n f h = evaluated-from n 5 0 f refl h ∙ sym (mixed-from n)

  -- ---- from one window to the next

  coefficient-is : (k : ℕ) → get_or p k 0 ≡ sum (tail k) (product x (tail (suc k)))
  coefficient-is k = from_front (get_or p k 0) (product x (tail (suc k))) ∙ ap (λ (t : ℕ). sum t (product x (tail (suc k)))) (sym (tail-next k))

  -- where p is 0 at x
  module _ (root : poly_at p x ≡ 0) where
    tail-zero : tail 0 ≡ 0
    unfolding tail
    tail-zero = root

    shifted-window : (j : ℕ) → total 6 (λ k. product (tail k) (get_or s (j + k) 0)) ≡ mixed (coef (over p x)) s (suc j)
    unfolding mixedFrom
    shifted-window j =
        total_front 5 (λ k. product (tail k) (get_or s (j + k) 0))
        ∙ ap₂ sum (ap (λ (t : ℕ). product t (get_or s (j + 0) 0)) tail-zero ∙ Laws.zero_product (get_or s (j + 0) 0))
        (total_same 5 (λ k. product (tail (suc k)) (get_or s (j + suc k) 0)) (λ k. product (tail (suc (0 + k))) (get_or s (suc j + k) 0))
        (λ k l. ap₂ (λ (a b : ℕ). product (tail (suc a)) (get_or s b 0)) (sym (zero-add k)) (add-suc j k ∙ sym (suc-add j k))))
        ∙ Laws.zero_sum (mixedFrom (suc j) 0) ∙ sym (mixed-from (suc j))

    same-window : (j : ℕ) → total 6 (λ k. product (tail (suc k)) (get_or s (j + k) 0)) ≡ mixed (coef (over p x)) s j
    unfolding mixed tail
    same-window j =
        total_same 6 (λ k. product (tail (suc k)) (get_or s (j + k) 0)) (λ k. product (get_or (over p x) k 0) (get_or s (j + k) 0))
        (λ k l. ap (λ (t : ℕ). product t (get_or s (j + k) 0)) (sym (over_get p x k)))

    both-windows : (j : ℕ) → mixed (coef p) s j ≡ sum (mixed (coef (over p x)) s (suc j)) (product x (mixed (coef (over p x)) s j))
    unfolding mixed
    both-windows j =
        total_same 6 (λ k. product (get_or p k 0) (get_or s (j + k) 0))
        (λ k. sum (product (tail k) (get_or s (j + k) 0)) (product x (product (tail (suc k)) (get_or s (j + k) 0))))
        (λ k l. ap (λ (t : ℕ). product t (get_or s (j + k) 0)) (coefficient-is k) ∙ split_term (tail k) x (tail (suc k)) (get_or s (j + k) 0))
        ∙ total_sum 6 (λ k. product (tail k) (get_or s (j + k) 0)) (λ k. product x (product (tail (suc k)) (get_or s (j + k) 0)))
        ∙ ap₂ sum (shifted-window j)
        (total_scaled 6 x (λ k. product (tail (suc k)) (get_or s (j + k) 0)) ∙ ap (product x) (same-window j))

    next-window : (j : ℕ) → mixed (coef p) s j ≡ 0 → mixed (coef (over p x)) s (suc j) ≡ product x (mixed (coef (over p x)) s j)
    next-window j z = Laws.sum_eq (mixed (coef (over p x)) s (suc j)) (product x (mixed (coef (over p x)) s j)) (sym (both-windows j) ∙ z)

    -- the window n, by the first
    window-power : (n : ℕ) → ((j : ℕ) → j < n → mixed (coef p) s j ≡ 0) → mixed (coef (over p x)) s n ≡ product (power x n) (mixed (coef (over p x)) s 0)
    unfolding power
    window-power zero h = sym (Laws.one_product (mixed (coef (over p x)) s 0) (mixed_lt (coef (over p x)) s 0))
    window-power (suc n) h =
        next-window n (h n (omega arith)) ∙ ap (product x) (window-power n (λ j l. h j (omega arith)))
        ∙ sym (Laws.product_assoc x (power x n) (mixed (coef (over p x)) s 0))

    fifth-part : (n : ℕ) → Kills p s n → product (mixed (coef (over p x)) s 0) (power x 5) ≡ product (power x (5 - n)) (mixed (coef (over p x)) s n)
    fifth-part n k =
        let e : 5 ≡ (5 - n) + n = (let f = k.few in omega arith) in
        Laws.product_comm (mixed (coef (over p x)) s 0) (power x 5)
        ∙ ap (λ (t : ℕ). product t (mixed (coef (over p x)) s 0)) (ap (power x) e ∙ Laws.power_add x (5 - n) n)
        ∙ Laws.product_assoc (power x (5 - n)) (power x n) (mixed (coef (over p x)) s 0)
        ∙ ap (product (power x (5 - n))) (sym (window-power n k.window))

  -- ---- the derivative

  slope : ℕ → ℕ
  slope k = poly_at (drop k (over p x)) x

  slope-next : (k : ℕ) → slope k ≡ sum (tail (suc k)) (product x (slope (suc k)))
  unfolding slope tail
  slope-next k = tail_value (over p x) x k ∙ ap (λ (t : ℕ). sum t (product x (poly_at (drop (suc k) (over p x)) x))) (over_get p x k)

  slope-none : (k : ℕ) → 5 ≤ k → slope k ≡ 0
  unfolding slope tail
  slope-none k h = poly_past (over p x) x k (λ i l. over_get p x i ∙ tail_none (suc i) (omega arith))

  two_steps : (a x t d : ℕ) → sum (sum a (product x t)) (product x (sum t (product x d))) ≡ sum a (product x (sum 0 (product x d)))
  two_steps a x t d = simp Laws.ring

  -- every second coefficient goes away
  slope-second : (k : ℕ) → slope k ≡ sum (get_or p (suc k) 0) (product x (sum 0 (product x (slope (suc (suc k))))))
  slope-second k =
      slope-next k ∙ ap₂ (λ (a b : ℕ). sum a (product x b)) (tail-next (suc k)) (slope-next (suc k))
      ∙ two_steps (get_or p (suc k) 0) x (tail (suc (suc k))) (slope (suc (suc k)))

  pub slope_is : (f : ℕ → ℕ) → f 0 ≡ get_or p 1 0 → f 1 ≡ 0 → f 2 ≡ get_or p 3 0 → f 3 ≡ 0 → f 4 ≡ get_or p 5 0 → evaluated 5 0 f x ≡ poly_at (over p x) x
  unfolding poly_at listed slope
  slope_is f e0 e1 e2 e3 e4 =
      ap₂ (λ (a b : ℕ). sum a (product x b)) e0
      (ap₂ (λ (a b : ℕ). sum a (product x b)) e1
      (ap₂ (λ (a b : ℕ). sum a (product x b)) e2
      (ap₂ (λ (a b : ℕ). sum a (product x b)) e3
      (ap₂ (λ (a b : ℕ). sum a (product x b)) e4 last ∙ sym (slope-second 4))
      ∙ refl)
      ∙ sym (slope-second 2)))
      ∙ sym (slope-second 0)
    where
      last : 0 ≡ sum 0 (product x (slope 6))
      last = sym (ap (λ (t : ℕ). sum 0 (product x t)) (slope-none 6 (omega arith)) ∙ ap (sum 0) (Laws.product_zero x) ∙ Laws.sum_self 0)

-- where x is a root of the locator p, the value is the quotient
pub value_is_quotient : (p s : List ℕ) (x n : ℕ) → length p ≡ 6 → poly_at p x ≡ 0 → Kills p s n
    → product (power x (5 - n)) (product (mixed (coef (over p x)) s n) (inverse_or_none (poly_at (over p x) x))) ≡ value_of p s x
unfolding value_of inverse_or_none
value_is_quotient p s x n wide root k =
    sym (Laws.product_assoc (power x (5 - n)) (mixed (coef (over p x)) s n) (inverse_or_none (poly_at (over p x) x)))
    ∙ ap (λ (t : ℕ). product t (inverse_or_none (poly_at (over p x) x))) (sym (fifth-part p s x wide root n k))
    ∙ ⊎_elim
    (λ (z : poly_at (over p x) x ≡ 0).
    simp (eq-eqb (poly_at p x) 0 root, eq-eqb (poly_at (over p x) x) 0 z) (Laws.product_zero (product (mixed (coef (over p x)) s 0) (power x 5))))
    (λ (d : poly_at (over p x) x ≡ 0 → ⊥). simp (eq-eqb (poly_at p x) 0 root, ne_eqb (poly_at (over p x) x) 0 d))
    (same_or_not (poly_at (over p x) x) 0)
