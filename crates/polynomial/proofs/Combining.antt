-- Combining sums with a polynomial is scaling the values by it, and so is combining numbers that agree with them; what combines enough sums to 0 is 0 at the place of each value that is not 0.
use mathlib.Core.Path.{◌≡◌, refl, sym, ap, ap₂, ◌∙◌}
use mathlib.Core.List.{List, [], ◌∷◌}
use Prim.Native.Nat.{ℕ, zero, suc, ◌+◌, ◌<◌, ◌≤◌}
use native.Mathlib.Nat.{le_trans, add-le-add, add-zero, add-suc, suc-add, not-suc-le-zero, le_of_suc-le-suc}
use native.Mathlib.Omega.{arith}
use lib.ListN.{length, get_or}
use Rattle.numbers.specs.Total.{total}
use Rattle.numbers.proofs.Totals.{total_none}
use Rattle.field.specs.Field.{sum, product, power}
use Rattle.field.proofs.Laws
use Rattle.field.proofs.Totals.{total_front}
use Rattle.polynomial.specs.Sums.{moment, weight, Places, Values, Zeros}
use Rattle.polynomial.specs.Polynomial.{poly_at, combined, weighted}
use Rattle.polynomial.proofs.Vandermonde.{nonzero_product, vandermonde}

pub weighted_values : (ps vs xs : List ℕ) → Values vs xs → Values (weighted ps vs xs) xs
unfolding weighted
weighted_values ps [] [] f = tt
weighted_values ps [] (y ∷ ys) f = absurd f
weighted_values ps (v ∷ vs) [] f = absurd f
weighted_values ps (v ∷ vs) (y ∷ ys) f = (Laws.product_lt v (poly_at ps y), weighted_values ps vs ys f.1)

weighted_weight : (ps vs xs : List ℕ) → weight (weighted ps vs xs) ≤ weight vs
unfolding weighted weight
weighted_weight ps [] ys = omega arith
weighted_weight ps (v ∷ vs) [] = omega arith
weighted_weight ps (v ∷ vs) (y ∷ ys) = add-le-add (nonzero_product v (poly_at ps y)) (weighted_weight ps vs ys)

weighted_none : (j : ℕ) (vs xs : List ℕ) → moment j (weighted [] vs xs) xs ≡ 0
unfolding weighted moment poly_at
weighted_none j [] xs = refl
weighted_none j (v ∷ vs) [] = refl
weighted_none j (v ∷ vs) (x ∷ xs) =
    ap₂ sum (ap (λ (t : ℕ). product t (power x j)) (Laws.product_zero v) ∙ Laws.zero_product (power x j)) (weighted_none j vs xs)
    ∙ Laws.sum_self 0

-- v (p + x q) x^j = p v x^j + v q x^(j + 1)
weighted_term : (v p x q w : ℕ) → product (product v (sum p (product x q))) w ≡ sum (product p (product v w)) (product (product v q) (product x w))
weighted_term v p x q w = simp Laws.ring

weighted_more : (p j : ℕ) (ps vs xs : List ℕ)
    → moment j (weighted (p ∷ ps) vs xs) xs ≡ sum (product p (moment j vs xs)) (moment (suc j) (weighted ps vs xs) xs)
unfolding weighted moment poly_at power
weighted_more p j ps [] xs = sym (Laws.sum_zero (product p 0) ∙ Laws.product_zero p)
weighted_more p j ps (v ∷ vs) [] = sym (Laws.sum_zero (product p 0) ∙ Laws.product_zero p)
weighted_more p j ps (v ∷ vs) (x ∷ xs) =
    ap₂ sum (weighted_term v p x (poly_at ps x) (power x j)) (weighted_more p j ps vs xs)
    ∙ Laws.sum_four (product p (product v (power x j))) (product (product v (poly_at ps x)) (power x (suc j)))
    (product p (moment j vs xs)) (moment (suc j) (weighted ps vs xs) xs)
    ∙ ap (λ (t : ℕ). sum t (sum (product (product v (poly_at ps x)) (power x (suc j))) (moment (suc j) (weighted ps vs xs) xs)))
    (sym (Laws.product_sum p (product v (power x j)) (moment j vs xs)))

pub weighted_moment : (ps : List ℕ) (j : ℕ) (vs xs : List ℕ) → moment j (weighted ps vs xs) xs ≡ combined ps j vs xs
unfolding combined
weighted_moment [] j vs xs = weighted_none j vs xs
weighted_moment (p ∷ ps) j vs xs =
    weighted_more p j ps vs xs ∙ ap (sum (product p (moment j vs xs))) (weighted_moment ps (suc j) vs xs)

pub locates : (ps xs vs : List ℕ) (n e : ℕ) → Places xs → Values vs xs → weight vs ≤ n
    → ((j : ℕ) → j < n → combined ps (e + j) vs xs ≡ 0) → Zeros (weighted ps vs xs)
locates ps xs vs n e p f w s =
    vandermonde xs (weighted ps vs xs) n e p (weighted_values ps vs xs f) (le_trans (weighted_weight ps vs xs) w)
    (λ j h. weighted_moment ps (e + j) vs xs ∙ s j h)

pub weighted_get : (ps vs xs : List ℕ) → Values vs xs → (a : ℕ) → get_or (weighted ps vs xs) a 0 ≡ product (get_or vs a 0) (poly_at ps (get_or xs a 0))
unfolding weighted
weighted_get ps [] [] f a = sym (Laws.zero_product (poly_at ps 0))
weighted_get ps [] (x ∷ xs) f a = absurd f
weighted_get ps (v ∷ vs) [] f a = absurd f
weighted_get ps (v ∷ vs) (x ∷ xs) f zero = refl
weighted_get ps (v ∷ vs) (x ∷ xs) f (suc a) = weighted_get ps vs xs f.1 a

-- numbers combined with q are the sums combined with q, where they agree wherever q is not 0
pub combine_is : (n : ℕ) (q : List ℕ) (t : ℕ → ℕ) (j : ℕ) (vs xs : List ℕ) → length q ≤ n
    → ((k : ℕ) → product (get_or q k 0) (t k) ≡ product (get_or q k 0) (moment (j + k) vs xs))
    → total n (λ k. product (get_or q k 0) (t k)) ≡ combined q j vs xs
unfolding combined
combine_is zero [] t j vs xs l h = total_none 0 (λ k. product 0 (t k)) (λ k b. Laws.zero_product (t k))
combine_is (suc n) [] t j vs xs l h = total_none (suc n) (λ k. product 0 (t k)) (λ k b. Laws.zero_product (t k))
combine_is zero (p ∷ ps) t j vs xs l h = absurd (not-suc-le-zero l)
combine_is (suc n) (p ∷ ps) t j vs xs l h =
    total_front n (λ k. product (get_or (p ∷ ps) k 0) (t k))
    ∙ ap₂ sum (h 0 ∙ ap (λ (i : ℕ). product p (moment i vs xs)) (add-zero j))
    (combine_is n ps (λ k. t (suc k)) (suc j) vs xs (le_of_suc-le-suc l)
    (λ k. h (suc k) ∙ ap (λ (i : ℕ). product (get_or ps k 0) (moment i vs xs)) (add-suc j k ∙ sym (suc-add j k))))
