-- Division by x + r, and how many places a polynomial can be 0 at.
use mathlib.Core.Path.{◌≡◌, refl, sym, ap, ap₂, ◌∙◌, subst}
use mathlib.Core.List.{List, [], ◌∷◌}
use Prim.Native.Nat.{ℕ, zero, suc, ◌+◌, ◌-◌, ◌<◌, ◌≤◌}
use native.Mathlib.Omega.{arith}
use lib.ListN.{get_or, length, drop}
use lib.Seq.{get_or-drop}
use Rattle.numbers.proofs.Cases.{pos_of_not_zero}
use Rattle.field.specs.Field.{sum, product}
use Rattle.field.proofs.Laws
use Rattle.polynomial.specs.Sums.{Fresh, Places}
use Rattle.polynomial.specs.Polynomial.{poly_at, Elements, ZeroAt, over}

over_step : (p y r o t : ℕ) → sum p (product y (sum (product (sum y r) o) t)) ≡ sum (product (sum y r) (sum t (product y o))) (sum p (product r t))
over_step p y r o t = simp Laws.ring

over_none : (y r : ℕ) → 0 ≡ sum (product (sum y r) 0) 0
over_none y r = simp Laws.ring

pub over_at : (ps : List ℕ) (r y : ℕ) → poly_at ps y ≡ sum (product (sum y r) (poly_at (over ps r) y)) (poly_at ps r)
unfolding over poly_at
over_at [] r y = over_none y r
over_at (p ∷ ps) r y = ap (λ (t : ℕ). sum p (product y t)) (over_at ps r y) ∙ over_step p y r (poly_at (over ps r) y) (poly_at ps r)

pub over_get : (ps : List ℕ) (r k : ℕ) → get_or (over ps r) k 0 ≡ poly_at (drop (suc k) ps) r
unfolding over poly_at
over_get [] r k = refl
over_get (p ∷ ps) r zero = refl
over_get (p ∷ ps) r (suc k) = over_get ps r k

pub length_over : (ps : List ℕ) (r : ℕ) → length (over ps r) ≡ length ps
unfolding over
length_over [] r = refl
length_over (p ∷ ps) r = ap suc (length_over ps r)

pub poly_zero : (ps : List ℕ) (x : ℕ) → ((k : ℕ) → get_or ps k 0 ≡ 0) → poly_at ps x ≡ 0
unfolding poly_at
poly_zero [] x h = refl
poly_zero (p ∷ ps) x h = ap₂ (λ (a b : ℕ). sum a (product x b)) (h 0) (poly_zero ps x (λ k. h (suc k))) ∙ ap (sum 0) (Laws.product_zero x) ∙ Laws.sum_self 0

pub poly_past : (ps : List ℕ) (x t : ℕ) → ((k : ℕ) → t ≤ k → get_or ps k 0 ≡ 0) → poly_at (drop t ps) x ≡ 0
poly_past ps x t h = poly_zero (drop t ps) x (λ k. get_or-drop t ps k 0 ∙ h (t + k) (omega arith))

pub poly_small : (ps : List ℕ) (x : ℕ) → Elements ps → poly_at ps x < 64
unfolding poly_at
poly_small [] x h = omega arith
poly_small (p ∷ ps) x h = Laws.sum_lt p (product x (poly_at ps x)) (h 0) (Laws.product_lt x (poly_at ps x))

pub over_small : (ps : List ℕ) (x : ℕ) → Elements ps → Elements (over ps x)
over_small ps x h k =
    subst (λ (t : ℕ). t < 64) (sym (over_get ps x k)) (poly_small (drop (suc k) ps) x (λ i. subst (λ (t : ℕ). t < 64) (sym (get_or-drop (suc k) ps i 0)) (h (suc k + i))))

-- a coefficient is the value of its tail, and x times that of the next
pub tail_value : (ps : List ℕ) (x k : ℕ) → poly_at (drop k ps) x ≡ sum (get_or ps k 0) (product x (poly_at (drop (suc k) ps) x))
unfolding poly_at
tail_value [] x zero = sym (ap (sum 0) (Laws.product_zero x) ∙ Laws.sum_self 0)
tail_value [] x (suc k) = sym (ap (sum 0) (Laws.product_zero x) ∙ Laws.sum_self 0)
tail_value (p ∷ ps) x zero = refl
tail_value (p ∷ ps) x (suc k) = tail_value ps x k

-- where p is 0 at r, its quotient by x + r is 0 wherever else p is
pub over_zero : (ps : List ℕ) (r y : ℕ) → Elements ps → r < 64 → y < 64 → (y ≡ r → ⊥) → poly_at ps r ≡ 0 → poly_at ps y ≡ 0 → poly_at (over ps r) y ≡ 0
over_zero ps r y el hr hy d root z =
    let q : ℕ = poly_at (over ps r) y in
    Laws.product_cancel q (sum y r) (poly_small (over ps r) y (over_small ps r el)) (pos_of_not_zero (sum y r) (λ e. d (Laws.sum_eq y r e)))
    (Laws.sum_lt y r hy hr)
    (Laws.product_comm q (sum y r) ∙ sym (Laws.sum_zero (product (sum y r) q)) ∙ ap (sum (product (sum y r) q)) (sym root) ∙ sym (over_at ps r y) ∙ z)

-- and so at all of these
pub over_zeros : (ps : List ℕ) (r : ℕ) (xs : List ℕ) → Elements ps → r < 64 → Fresh r xs → Places xs → poly_at ps r ≡ 0 → ZeroAt ps xs → ZeroAt (over ps r) xs
over_zeros ps r [] el hr f pl root z = tt
over_zeros ps r (y ∷ ys) el hr f pl root z =
    (over_zero ps r y el hr pl.1 f.0 root z.0, over_zeros ps r ys el hr f.1 pl.3 root z.1)

-- where p is 0 at x and its quotient has no coefficient but 0, neither has p
undivided : (ps : List ℕ) (x : ℕ) → poly_at ps x ≡ 0 → ((k : ℕ) → get_or (over ps x) k 0 ≡ 0) → (k : ℕ) → get_or ps k 0 ≡ 0
undivided ps x root h k =
    sym (Laws.sum_zero (get_or ps k 0)) ∙ ap (sum (get_or ps k 0)) (sym (ap (product x) (sym (over_get ps x k) ∙ h k) ∙ Laws.product_zero x)) ∙ sym (tail_value ps x k) ∙ from k
  where
    from : (k : ℕ) → poly_at (drop k ps) x ≡ 0
    from zero = root
    from (suc k) = sym (over_get ps x k) ∙ h k

-- a polynomial of degree below n that is 0 at n places has no coefficient but 0
pub roots_all : (xs ps : List ℕ) (n : ℕ) → n ≤ length xs → ((k : ℕ) → n ≤ k → get_or ps k 0 ≡ 0) → Places xs → Elements ps → ZeroAt ps xs → (k : ℕ) → get_or ps k 0 ≡ 0
roots_all [] ps n h past pl el z k = past k (omega arith)
roots_all (x ∷ xs) ps n h past pl el z k =
    undivided ps x z.0
    (roots_all xs (over ps x) (n - 1) (omega arith) (λ i l. over_get ps x i ∙ poly_past ps x (suc i) (λ j m. past j (omega arith))) pl.3
    (over_small ps x el) (over_zeros ps x xs el pl.1 pl.2 pl.3 z.0 z.1))
    k
