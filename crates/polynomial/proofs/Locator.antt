-- The locator of some values, the product of x + X over their places: it combines every run of their sums to 0, and is not 0.
use mathlib.Core.Path.{◌≡◌, refl, sym, ap, ◌∙◌}
use mathlib.Core.List.{List, [], ◌∷◌}
use Prim.Native.Nat.{ℕ, zero, suc, ◌<◌}
use native.Mathlib.Nat.{zero-add}
use native.Mathlib.Numerals.{one-add}
use native.Mathlib.Omega.{arith}
use lib.ListN.{length, get_or}
use Rattle.numbers.proofs.Cases.{pos_of_not_zero}
use Rattle.field.specs.Field.{sum, product}
use Rattle.field.proofs.Laws
use Rattle.polynomial.specs.Sums.{nonzero, weight, Places, Values, Zeros}
use Rattle.polynomial.specs.Polynomial.{poly_at, Elements, combined, weighted, carried, root_added, locator}
use Rattle.polynomial.proofs.Vandermonde.{zeros_moment}
use Rattle.polynomial.proofs.Combining.{weighted_moment}

carried_step : (c r p y t : ℕ) → sum (sum c (product r p)) (product y (sum p (product (sum y r) t))) ≡ sum c (product (sum y r) (sum p (product y t)))
carried_step c r p y t = simp Laws.ring

carried_none : (c r y : ℕ) → sum c (product y 0) ≡ sum c (product (sum y r) 0)
carried_none c r y = simp Laws.ring

carried_at : (r c : ℕ) (ps : List ℕ) (y : ℕ) → poly_at (carried r c ps) y ≡ sum c (product (sum y r) (poly_at ps y))
unfolding carried poly_at
carried_at r c [] y = carried_none c r y
carried_at r c (p ∷ ps) y = ap (λ (t : ℕ). sum (sum c (product r p)) (product y t)) (carried_at r p ps y) ∙ carried_step c r p y (poly_at ps y)

pub root_added_at : (r : ℕ) (ps : List ℕ) (y : ℕ) → poly_at (root_added r ps) y ≡ product (sum y r) (poly_at ps y)
unfolding root_added
root_added_at r ps y = carried_at r 0 ps y ∙ Laws.zero_sum (product (sum y r) (poly_at ps y))

weighted_root : (r : ℕ) (ps vs xs : List ℕ) → Zeros (weighted ps vs xs) → Zeros (weighted (root_added r ps) vs xs)
unfolding weighted
weighted_root r ps [] xs z = tt
weighted_root r ps (v ∷ vs) [] z = tt
weighted_root r ps (v ∷ vs) (x ∷ xs) z = (
  ap (product v) (root_added_at r ps x) ∙ Laws.product_left_comm v (sum x r) (poly_at ps x) ∙ ap (product (sum x r)) z.0 ∙ Laws.product_zero (sum x r),
  weighted_root r ps vs xs z.1,
)

pub located : (vs xs : List ℕ) → Zeros (weighted (locator vs xs) vs xs)
unfolding weighted locator
located [] xs = tt
located (v ∷ vs) [] = tt
located (zero ∷ vs) (x ∷ xs) = (Laws.zero_product (poly_at (locator vs xs) x), located vs xs)
located (suc v ∷ vs) (x ∷ xs) = (
  ap (product (suc v)) (root_added_at x (locator vs xs) x ∙ ap (λ (t : ℕ). product t (poly_at (locator vs xs) x)) (Laws.sum_self x) ∙ Laws.zero_product (poly_at (locator vs xs) x))
      ∙ Laws.product_zero (suc v),
  weighted_root x (locator vs xs) vs xs (located vs xs),
)

-- it combines the sums to 0, wherever one begins
pub locator_solves : (vs xs : List ℕ) (j : ℕ) → combined (locator vs xs) j vs xs ≡ 0
locator_solves vs xs j = sym (weighted_moment (locator vs xs) j vs xs) ∙ zeros_moment j (weighted (locator vs xs) vs xs) xs (located vs xs)

length_carried : (r c : ℕ) (ps : List ℕ) → length (carried r c ps) ≡ suc (length ps)
unfolding carried
length_carried r c [] = refl
length_carried r c (p ∷ ps) = ap suc (length_carried r p ps)

pub locator_long : (vs xs : List ℕ) → Values vs xs → length (locator vs xs) ≡ suc (weight vs)
unfolding locator weight nonzero root_added
locator_long [] [] f = refl
locator_long [] (x ∷ xs) f = absurd f
locator_long (v ∷ vs) [] f = absurd f
locator_long (zero ∷ vs) (x ∷ xs) f = locator_long vs xs f.1 ∙ ap suc (sym (zero-add (weight vs)))
locator_long (suc v ∷ vs) (x ∷ xs) f = length_carried x 0 (locator vs xs) ∙ ap suc (locator_long vs xs f.1 ∙ sym (one-add (weight vs)))

-- ---- it is not 0

carried_elements : (r c : ℕ) (ps : List ℕ) → c < 64 → Elements ps → Elements (carried r c ps)
unfolding carried
carried_elements r c [] h el zero = h
carried_elements r c [] h el (suc k) = omega arith
carried_elements r c (p ∷ ps) h el zero = Laws.sum_lt c (product r p) h (Laws.product_lt r p)
carried_elements r c (p ∷ ps) h el (suc k) = carried_elements r p ps (el 0) (λ i. el (suc i)) k

one_elements : Elements (1 ∷ [])
one_elements zero = omega arith
one_elements (suc k) = omega arith

pub locator_elements : (vs xs : List ℕ) → Elements (locator vs xs)
unfolding locator root_added
locator_elements [] xs = one_elements
locator_elements (v ∷ vs) [] = one_elements
locator_elements (zero ∷ vs) (x ∷ xs) = locator_elements vs xs
locator_elements (suc v ∷ vs) (x ∷ xs) = carried_elements x 0 (locator vs xs) (omega arith) (locator_elements vs xs)

carried_lowest : (r : ℕ) (ps : List ℕ) → 0 < r → r < 64 → Elements ps → 0 < get_or ps 0 0 → 0 < get_or (carried r 0 ps) 0 0
unfolding carried
carried_lowest r [] pr hr el h = absurd (omega arith)
carried_lowest r (p ∷ ps) pr hr el h =
    pos_of_not_zero (sum 0 (product r p))
    (λ e.
    let z : p ≡ 0 = Laws.product_cancel p r (el 0) pr hr (Laws.product_comm p r ∙ sym (Laws.zero_sum (product r p)) ∙ e) in
    omega arith)

-- its lowest coefficient is the product of the places
pub locator_lowest : (vs xs : List ℕ) → Places xs → 0 < get_or (locator vs xs) 0 0
unfolding locator root_added
locator_lowest [] xs pl = omega arith
locator_lowest (v ∷ vs) [] pl = omega arith
locator_lowest (zero ∷ vs) (x ∷ xs) pl = locator_lowest vs xs pl.3
locator_lowest (suc v ∷ vs) (x ∷ xs) pl = carried_lowest x (locator vs xs) pl.0 pl.1 (locator_elements vs xs) (locator_lowest vs xs pl.3)
