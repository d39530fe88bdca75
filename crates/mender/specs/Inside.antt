-- What the mender's inner functions promise each other: rows of coefficients that combine the sums to 0, and the values at the places.
use Rattle.std.specs.Prelude.{◌≡◌, Option, None, cond, ◌⊎◌, List, [], ℕ, ◌+◌, ◌-◌, ◌<◌, eqb, length, get_or}
use Rattle.numbers.specs.Total.{total}
use Rattle.field.specs.Field.{product, α, power}
use Rattle.field.specs.Inside.{inverse}
use Rattle.polynomial.specs.Polynomial.{poly_at, over}
use Rattle.mender.specs.declared.Mended.{Mended}

-- q_0 s_j + q_1 s_(j + 1) + .. + q_5 s_(j + 5): window j, combined with q
unfoldable pub mixed : (ℕ → ℕ) → List ℕ → ℕ → ℕ
mixed q s j = total 6 (λ k. product (q k) (get_or s (j + k) 0))

-- a list's entries, and 0 past its end
abbrev pub coef : List ℕ → ℕ → ℕ
coef p k = get_or p k 0

-- the entry of row i at k
abbrev pub at : List (List ℕ) → ℕ → ℕ → ℕ
at m i k = get_or (get_or m i []) k 0

-- coefficients of a polynomial of degree at most e
pub record Degree (e : ℕ) (q : ℕ → ℕ) : Type 0 where
  pub none : (k : ℕ) → e < k → q k ≡ 0
  pub small : (k : ℕ) → q k < 64

-- the rows after n windows
pub record Spanned (s : List ℕ) (e n : ℕ) (m : List (List ℕ)) : Type 0 where
  pub long : length m ≡ 6
  pub wide : (i : ℕ) → i < 6 → length (get_or m i []) ≡ 6
  -- each row combines these windows to 0
  pub kernel : (i j : ℕ) → j < n → mixed (at m i) s j ≡ 0
  -- each polynomial that does so is made of the rows, by its own coefficients
  pub keeps : (q : ℕ → ℕ) → Degree e q → ((j : ℕ) → j < n → mixed q s j ≡ 0) → (k : ℕ) → total 6 (λ i. product (q i) (at m i k)) ≡ q k
  -- row i has degree at most i, and at most e
  pub low : (i k : ℕ) → i < k → at m i k ≡ 0
  pub short : (i k : ℕ) → e < k → at m i k ≡ 0
  -- a row is 0, or has 1 at its own degree
  pub own : (i : ℕ) → ((k : ℕ) → at m i k ≡ 0) ⊎ (at m i i ≡ 1)
  pub small : (i k : ℕ) → at m i k < 64

-- the value at the place x, where p is a locator: 0 where x is no root of p, and where it is more than one
unfoldable pub value_of : List ℕ → List ℕ → ℕ → ℕ
value_of p s x =
    cond (eqb (poly_at p x) 0)
    (cond (eqb (poly_at (over p x) x) 0) 0 (product (product (mixed (coef (over p x)) s 0) (power x 5)) (inverse (poly_at (over p x) x))))
    0

-- the characters at the last n addresses are the values at their places
pub record ValuedFrom (p s w : List ℕ) (n : ℕ) : Type 0 where
  pub long : length w ≡ 63
  pub entry : (l : ℕ) → l < n → get_or w (62 - l) 0 ≡ value_of p s (power α l)

-- no word was found
abbrev pub Nothing : Option Mended → Type 0
Nothing m = m ≡ None
