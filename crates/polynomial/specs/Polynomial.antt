-- Polynomials over the field, as lists of coefficients: the lowest first, and for the characters of a word the highest.
use Rattle.std.specs.Prelude.{◌≡◌, List, [], ◌∷◌, ℕ, zero, suc, length}
use Rattle.numbers.specs.Below.{AllBelow}
use Rattle.field.specs.Field.{sum, product, power}
use Rattle.polynomial.specs.Sums.{moment}

-- the value at x
unfoldable pub poly_at : List ℕ → ℕ → ℕ
poly_at [] x = 0
poly_at (p ∷ ps) x = sum p (product x (poly_at ps x))

-- and where the coefficients stand from the highest down, as the characters of a word do: `Horner.value-backward` leads from the one to the other;
-- of each coefficient the low six bits count
unfoldable pub value_at : ℕ → List ℕ → ℕ
value_at x [] = 0
value_at x (c ∷ cs) = sum (product c (power x (length cs))) (value_at x cs)

-- every coefficient is an element
abbrev pub Elements : List ℕ → Type 0
Elements = AllBelow 64

-- the polynomial is 0 at each of these
abbrev pub ZeroAt : List ℕ → List ℕ → Type 0
ZeroAt ps [] = Unit {0}
ZeroAt ps (x ∷ xs) = (poly_at ps x ≡ 0) × ZeroAt ps xs

-- the sums S_j, S_(j + 1), .. combined with the coefficients: p_0 S_j + p_1 S_(j + 1) + ..
unfoldable pub combined : List ℕ → ℕ → List ℕ → List ℕ → ℕ
combined [] j vs xs = 0
combined (p ∷ ps) j vs xs = sum (product p (moment j vs xs)) (combined ps (suc j) vs xs)

-- each value times the polynomial at its place
unfoldable pub weighted : List ℕ → List ℕ → List ℕ → List ℕ
weighted ps [] xs = []
weighted ps (v ∷ vs) [] = []
weighted ps (v ∷ vs) (x ∷ xs) = product v (poly_at ps x) ∷ weighted ps vs xs

-- the quotient by x + r, and a 0 after it: each coefficient is the value at r of what follows it
unfoldable pub over : List ℕ → ℕ → List ℕ
over [] r = []
over (p ∷ ps) r = poly_at ps r ∷ over ps r

-- c + (x + r) p
unfoldable pub carried : ℕ → ℕ → List ℕ → List ℕ
carried r c [] = c ∷ []
carried r c (p ∷ ps) = sum c (product r p) ∷ carried r p ps

-- the product with x + r
unfoldable pub root_added : ℕ → List ℕ → List ℕ
root_added r ps = carried r 0 ps

-- the product of x + X over the places X of the values that are not 0
unfoldable pub locator : List ℕ → List ℕ → List ℕ
locator [] xs = 1 ∷ []
locator (v ∷ vs) [] = 1 ∷ []
locator (zero ∷ vs) (x ∷ xs) = locator vs xs
locator (suc v ∷ vs) (x ∷ xs) = root_added x (locator vs xs)
