-- Vandermonde: where the places differ, as many sums in a row that are 0 as there are values that are not 0 make every value 0.
use mathlib.Core.Path.{◌≡◌, refl, sym, ap, ap₂, ◌∙◌}
use mathlib.Core.List.{List, [], ◌∷◌}
use Prim.Native.Nat.{ℕ, zero, suc, ◌+◌, ◌<◌, ◌≤◌}
use native.Mathlib.Nat.{add-suc, le_trans, add-le-add, le_of_suc-le-suc, not-suc-le-zero}
use native.Mathlib.Omega.{arith}
use lib.ListN.{get_or}
use Rattle.numbers.proofs.Cases.{pos_of_not_zero}
use Rattle.field.specs.Field.{sum, product, power}
use Rattle.field.proofs.Laws
use Rattle.polynomial.specs.Sums.{moment, nonzero, weight, Fresh, Places, Values, Zeros}

-- ---- lists of values

pub zeros_get : (vs : List ℕ) → Zeros vs → (k : ℕ) → get_or vs k 0 ≡ 0
zeros_get [] z k = refl
zeros_get (v ∷ vs) z zero = z.0
zeros_get (v ∷ vs) z (suc k) = zeros_get vs z.1 k

pub zeros_of : (vs : List ℕ) → ((k : ℕ) → get_or vs k 0 ≡ 0) → Zeros vs
zeros_of [] h = tt
zeros_of (v ∷ vs) h = (h 0, zeros_of vs (λ k. h (suc k)))

pub nonzero_le : (v : ℕ) → nonzero v ≤ 1
unfolding nonzero
nonzero_le zero = omega arith
nonzero_le (suc v) = omega arith

-- ---- one place taken out

-- each value times the sum of its place and x
taken : ℕ → List ℕ → List ℕ → List ℕ
taken x [] ys = []
taken x (v ∷ vs) [] = []
taken x (v ∷ vs) (y ∷ ys) = product v (sum y x) ∷ taken x vs ys

taken_values : (x : ℕ) (vs ys : List ℕ) → Values vs ys → Values (taken x vs ys) ys
unfolding taken
taken_values x [] [] f = tt
taken_values x [] (y ∷ ys) f = absurd f
taken_values x (v ∷ vs) [] f = absurd f
taken_values x (v ∷ vs) (y ∷ ys) f = (Laws.product_lt v (sum y x), taken_values x vs ys f.1)

pub nonzero_product : (v d : ℕ) → nonzero (product v d) ≤ nonzero v
unfolding nonzero
nonzero_product zero d = rw (Laws.zero_product d) (omega arith)
nonzero_product (suc v) d = nonzero_le (product (suc v) d)

taken_weight : (x : ℕ) (vs ys : List ℕ) → weight (taken x vs ys) ≤ weight vs
unfolding taken weight
taken_weight x [] ys = omega arith
taken_weight x (v ∷ vs) [] = omega arith
taken_weight x (v ∷ vs) (y ∷ ys) = add-le-add (nonzero_product v (sum y x)) (taken_weight x vs ys)

taken_term : (v y x p : ℕ) → product (product v (sum y x)) p ≡ sum (product v (product y p)) (product x (product v p))
taken_term v y x p =
    Laws.product_assoc v (sum y x) p ∙ ap (product v) (Laws.sum_product y x p)
    ∙ Laws.product_sum v (product y p) (product x p) ∙ ap (sum (product v (product y p))) (Laws.product_left_comm v x p)

taken_moment : (j x : ℕ) (vs ys : List ℕ) → moment j (taken x vs ys) ys ≡ sum (moment (suc j) vs ys) (product x (moment j vs ys))
unfolding taken moment power
taken_moment j x [] ys = sym (Laws.zero_sum (product x 0) ∙ Laws.product_zero x)
taken_moment j x (v ∷ vs) [] = sym (Laws.zero_sum (product x 0) ∙ Laws.product_zero x)
taken_moment j x (v ∷ vs) (y ∷ ys) =
    ap₂ sum (taken_term v y x (power y j)) (taken_moment j x vs ys)
    ∙ Laws.sum_four (product v (power y (suc j))) (product x (product v (power y j))) (moment (suc j) vs ys) (product x (moment j vs ys))
    ∙ ap (sum (sum (product v (power y (suc j))) (moment (suc j) vs ys))) (sym (Laws.product_sum x (product v (power y j)) (moment j vs ys)))

-- the term at x itself goes away
taken_head : (j x v : ℕ) (vs xs : List ℕ)
    → sum (moment (suc j) (v ∷ vs) (x ∷ xs)) (product x (moment j (v ∷ vs) (x ∷ xs))) ≡ moment j (taken x vs xs) xs
unfolding moment power
taken_head j x v vs xs =
    ap (sum (moment (suc j) (v ∷ vs) (x ∷ xs))) (Laws.product_sum x (product v (power x j)) (moment j vs xs))
    ∙ Laws.sum_four (product v (power x (suc j))) (moment (suc j) vs xs) (product x (product v (power x j))) (product x (moment j vs xs))
    ∙ ap₂ sum
    (ap (λ (t : ℕ). sum t (product x (product v (power x j)))) (Laws.product_left_comm v x (power x j))
    ∙ Laws.sum_self (product x (product v (power x j))))
    (sym (taken_moment j x vs xs))
    ∙ Laws.zero_sum (moment j (taken x vs xs) xs)

taken_zeros : (x : ℕ) (vs ys : List ℕ) → x < 64 → Fresh x ys → Places ys → Values vs ys → Zeros (taken x vs ys) → Zeros vs
unfolding taken
taken_zeros x [] ys hx f p g z = tt
taken_zeros x (v ∷ vs) [] hx f p g z = absurd g
taken_zeros x (v ∷ vs) (y ∷ ys) hx f p g z = (
  Laws.product_cancel v (sum y x) g.0 (pos_of_not_zero (sum y x) (λ e. f.0 (Laws.sum_eq y x e)))
      (Laws.sum_lt y x p.1 hx) z.0,
  taken_zeros x vs ys hx f.1 p.3 g.1 z.1,
)

pub zeros_moment : (j : ℕ) (vs xs : List ℕ) → Zeros vs → moment j vs xs ≡ 0
unfolding moment
zeros_moment j [] xs z = refl
zeros_moment j (v ∷ vs) [] z = refl
zeros_moment j (v ∷ vs) (x ∷ xs) z =
    ap₂ sum (ap (λ (t : ℕ). product t (power x j)) z.0 ∙ Laws.zero_product (power x j)) (zeros_moment j vs xs z.1)
    ∙ Laws.sum_self 0

moment_skip : (j x : ℕ) (vs xs : List ℕ) → moment j (0 ∷ vs) (x ∷ xs) ≡ moment j vs xs
unfolding moment
moment_skip j x vs xs = ap (λ (t : ℕ). sum t (moment j vs xs)) (Laws.zero_product (power x j)) ∙ Laws.zero_sum (moment j vs xs)

-- the first value, where the rest are 0 and the sum is 0
first_zero : (j v x : ℕ) (vs xs : List ℕ) → v < 64 → 0 < x → x < 64 → Zeros vs → moment j (v ∷ vs) (x ∷ xs) ≡ 0 → v ≡ 0
unfolding moment
first_zero j v x vs xs hv px hx z e =
    Laws.product_cancel v (power x j) hv (Laws.power_pos x j px hx) (Laws.power_lt x j)
    (sym (Laws.sum_zero (product v (power x j))) ∙ ap (sum (product v (power x j))) (sym (zeros_moment j vs xs z)) ∙ e)

weight_skip : (vs : List ℕ) (n : ℕ) → weight (0 ∷ vs) ≤ n → weight vs ≤ n
unfolding weight nonzero
weight_skip vs n h = omega arith

weight_first : (v : ℕ) (vs : List ℕ) (n : ℕ) → weight (suc v ∷ vs) ≤ n → weight vs < n
unfolding weight nonzero
weight_first v vs n h = omega arith

-- where two sums in a row are 0, so is the one with the first term taken away
next_zero : (e j x v : ℕ) (vs xs : List ℕ) → moment (e + j) (v ∷ vs) (x ∷ xs) ≡ 0 → moment (e + suc j) (v ∷ vs) (x ∷ xs) ≡ 0
    → moment (e + j) (taken x vs xs) xs ≡ 0
next_zero e j x v vs xs s₀ s₁ =
    sym (taken_head (e + j) x v vs xs)
    ∙ ap₂ sum (ap (λ (k : ℕ). moment k (v ∷ vs) (x ∷ xs)) (sym (add-suc e j)) ∙ s₁) (ap (product x) s₀ ∙ Laws.product_zero x)
    ∙ Laws.sum_self 0

-- ---- all of them

pub vandermonde : (xs vs : List ℕ) (n e : ℕ) → Places xs → Values vs xs → weight vs ≤ n
    → ((j : ℕ) → j < n → moment (e + j) vs xs ≡ 0) → Zeros vs
vandermonde [] [] n e p f w s = tt
vandermonde [] (v ∷ vs) n e p f w s = absurd f
vandermonde (x ∷ xs) [] n e p f w s = tt
vandermonde (x ∷ xs) (zero ∷ vs) n e p f w s =
    (refl, vandermonde xs vs n e p.3 f.1 (weight_skip vs n w) (λ j h. sym (moment_skip (e + j) x vs xs) ∙ s j h))
vandermonde (x ∷ xs) (suc v ∷ vs) zero e p f w s = absurd (not-suc-le-zero (weight_first v vs 0 w))
vandermonde (x ∷ xs) (suc v ∷ vs) (suc n) e p f w s =
    let z : Zeros vs =
    taken_zeros x vs xs p.1 p.2 p.3 f.1
    (vandermonde xs (taken x vs xs) n e p.3 (taken_values x vs xs f.1)
    (le_trans (taken_weight x vs xs) (le_of_suc-le-suc (weight_first v vs (suc n) w)))
    (λ j h. next_zero e j x (suc v) vs xs (s j (omega arith)) (s (suc j) (omega arith))))
    in
    (first_zero (e + 0) (suc v) x vs xs f.0 p.0 p.1 z (s 0 (omega arith)), z)
