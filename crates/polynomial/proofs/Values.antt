-- Where a polynomial is 0 at the place of every value that is not 0, its quotient by x + X leaves of the sums the value at X alone.
use mathlib.Core.Path.{◌≡◌, sym, ap, ap₂, ◌∙◌}
use mathlib.Core.Logic.{⊎_elim}
use mathlib.Core.List.{List, [], ◌∷◌}
use Prim.Native.Nat.{ℕ, zero, suc, ◌<◌, ◌≤◌}
use native.Mathlib.Omega.{arith}
use lib.ListN.{length, get_or, get_or-eq_default}
use Rattle.numbers.proofs.Cases.{le_or_lt, pos_of_not_zero}
use Rattle.field.specs.Field.{sum, product, power}
use Rattle.field.proofs.Laws
use Rattle.polynomial.specs.Sums.{moment, Places, Values, Zeros}
use Rattle.polynomial.specs.Polynomial.{poly_at, Elements, combined, weighted, over}
use Rattle.polynomial.proofs.Places.{place_lt, places_differ, values_long}
use Rattle.polynomial.proofs.Vandermonde.{zeros_get, zeros_of, zeros_moment}
use Rattle.polynomial.proofs.Combining.{weighted_values, weighted_moment, weighted_get}
use Rattle.polynomial.proofs.Division.{over_at}

-- each value but the one at place i is 0
abbrev pub Only : ℕ → List ℕ → Type 0
Only i vs = (k : ℕ) → (k ≡ i → ⊥) → get_or vs k 0 ≡ 0

pub moment_only : (vs xs : List ℕ) (i j : ℕ) → Values vs xs → i < length xs → Only i vs
    → moment j vs xs ≡ product (get_or vs i 0) (power (get_or xs i 0) j)
unfolding moment
moment_only [] [] i j f h o = absurd (omega arith)
moment_only [] (x ∷ xs) i j f h o = absurd f
moment_only (v ∷ vs) [] i j f h o = absurd f
moment_only (v ∷ vs) (x ∷ xs) zero j f h o =
    ap (sum (product v (power x j))) (zeros_moment j vs xs (zeros_of vs (λ k. o (suc k) (λ e. omega arith)))) ∙ Laws.sum_zero (product v (power x j))
moment_only (v ∷ vs) (x ∷ xs) (suc i) j f h o =
    ap₂ sum (ap (λ (t : ℕ). product t (power x j)) (o 0 (λ e. omega arith)) ∙ Laws.zero_product (power x j))
    (moment_only vs xs i j f.1 (omega arith) (λ k d. o (suc k) (λ e. d (omega arith))))
    ∙ Laws.zero_sum (product (get_or vs i 0) (power (get_or xs i 0) j))

module _ (ps vs xs : List ℕ) (pl : Places xs) (f : Values vs xs) (el : Elements ps) (z : Zeros (weighted ps vs xs)) where
  vanishes : (k : ℕ) → product (get_or vs k 0) (poly_at ps (get_or xs k 0)) ≡ 0
  vanishes k = sym (weighted_get ps vs xs f k) ∙ zeros_get (weighted ps vs xs) z k

  module _ (i : ℕ) (h : i < length xs) (root : poly_at ps (get_or xs i 0) ≡ 0) where
    -- what is left at another place, times how far it is from this one
    other-term : (k : ℕ)
        → product (product (get_or vs k 0) (poly_at (over ps (get_or xs i 0)) (get_or xs k 0))) (sum (get_or xs k 0) (get_or xs i 0)) ≡ 0
    other-term k =
        let x : ℕ = get_or xs i 0 in
        let y : ℕ = get_or xs k 0 in
        let q : ℕ = poly_at (over ps x) y in
        Laws.product_assoc (get_or vs k 0) q (sum y x)
        ∙ ap (product (get_or vs k 0))
        (Laws.product_comm q (sum y x) ∙ sym (Laws.sum_zero (product (sum y x) q)) ∙ ap (sum (product (sum y x) q)) (sym root) ∙ sym (over_at ps x y))
        ∙ vanishes k

    others-gone : Only i (weighted (over ps (get_or xs i 0)) vs xs)
    others-gone k d =
        let x : ℕ = get_or xs i 0 in
        let y : ℕ = get_or xs k 0 in
        let q : ℕ = poly_at (over ps x) y in
        weighted_get (over ps x) vs xs f k
        ∙ ⊎_elim
        (λ (l : length xs ≤ k).
        ap (λ (t : ℕ). product t q) (get_or-eq_default vs 0 (let e = values_long vs xs f in omega arith)) ∙ Laws.zero_product q)
        (λ (l : k < length xs).
        Laws.product_cancel (product (get_or vs k 0) q) (sum y x) (Laws.product_lt (get_or vs k 0) q)
        (pos_of_not_zero (sum y x) (λ e. places_differ xs k i pl l h d (Laws.sum_eq y x e)))
        (Laws.sum_lt y x (place_lt xs k pl l) (place_lt xs i pl h)) (other-term k))
        (le_or_lt (length xs) k)

    pub value_left : (j : ℕ) → combined (over ps (get_or xs i 0)) j vs xs
        ≡ product (product (get_or vs i 0) (poly_at (over ps (get_or xs i 0)) (get_or xs i 0))) (power (get_or xs i 0) j)
    value_left j =
        let q : List ℕ = over ps (get_or xs i 0) in
        sym (weighted_moment q j vs xs)
        ∙ moment_only (weighted q vs xs) xs i j (weighted_values q vs xs f) h others-gone
        ∙ ap (λ (t : ℕ). product t (power (get_or xs i 0) j)) (weighted_get q vs xs f i)
