-- The decoder's mathematics, for any number of values: vanishing sums, combining, the locator, roots, the value at one place.
use mathlib.Core.Path.{◌≡◌, sym}
use mathlib.Core.List.{List}
use Prim.Native.Nat.{ℕ, suc, ◌+◌, ◌<◌, ◌≤◌}
use lib.ListN.{length, get_or}
use Rattle.field.specs.Field.{product, power}
use Rattle.polynomial.specs.Sums.{moment, weight, Places, Values, Zeros}
use Rattle.polynomial.specs.Polynomial.{poly_at, Elements, ZeroAt, combined, weighted, over, locator}
use Rattle.polynomial.proofs.Vandermonde.{vandermonde}
use Rattle.polynomial.proofs.Combining.{weighted_moment, locates}
use Rattle.polynomial.proofs.Division.{roots_all}
use Rattle.polynomial.proofs.Locator.{locator_solves, locator_long, locator_lowest}
use Rattle.polynomial.proofs.Values.{value_left}

-- if at most n values are not 0 and n sums in a row are 0, all values are 0
pub vanishing_sums : (xs vs : List ℕ) (n e : ℕ) → Places xs → Values vs xs → weight vs ≤ n
    → ((j : ℕ) → j < n → moment (e + j) vs xs ≡ 0) → Zeros vs
vanishing_sums = vandermonde

-- combining the sums with p is taking the sums of the values times p at their places
pub combining : (ps : List ℕ) (j : ℕ) (vs xs : List ℕ) → combined ps j vs xs ≡ moment j (weighted ps vs xs) xs
combining ps j vs xs = sym (weighted_moment ps j vs xs)

-- what combines n sums in a row to 0, where at most n values are not 0, is 0 at the place of each
pub zero_at_places : (ps xs vs : List ℕ) (n e : ℕ) → Places xs → Values vs xs → weight vs ≤ n
    → ((j : ℕ) → j < n → combined ps (e + j) vs xs ≡ 0) → Zeros (weighted ps vs xs)
zero_at_places = locates

-- the product of x + X over these places does so, has as many roots as its degree, and is not 0
pub record Locates (vs xs ps : List ℕ) : Type 0 where
  pub combines : (j : ℕ) → combined ps j vs xs ≡ 0
  pub degree : length ps ≡ suc (weight vs)
  pub lowest : 0 < get_or ps 0 0

pub a_locator : (vs xs : List ℕ) → Places xs → Values vs xs → Locates vs xs (locator vs xs)
a_locator vs xs p f = record { combines = locator_solves vs xs; degree = locator_long vs xs f; lowest = locator_lowest vs xs p }

-- a polynomial of degree below n that is 0 at n places is 0
pub count_of_roots : (xs ps : List ℕ) (n : ℕ) → n ≤ length xs → ((k : ℕ) → n ≤ k → get_or ps k 0 ≡ 0) → Places xs → Elements ps → ZeroAt ps xs
    → (k : ℕ) → get_or ps k 0 ≡ 0
count_of_roots = roots_all

-- what is 0 at the place of each value that is not 0, divided by x + X of one of its roots, leaves the value at X alone
pub one_value_left : (ps vs xs : List ℕ) → Places xs → Values vs xs → Elements ps → Zeros (weighted ps vs xs) → (i : ℕ) → i < length xs
    → poly_at ps (get_or xs i 0) ≡ 0 → (j : ℕ)
    → combined (over ps (get_or xs i 0)) j vs xs ≡ product (product (get_or vs i 0) (poly_at (over ps (get_or xs i 0)) (get_or xs i 0))) (power (get_or xs i 0) j)
one_value_left = value_left
