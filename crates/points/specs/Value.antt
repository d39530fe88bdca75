-- The value of characters at each of the ten points, and those of a word, packed.
use Rattle.std.specs.Prelude.{cond, List, [], ◌∷◌, ℕ, zero, suc, ◌+◌, eqb, length, get_or}
use Rattle.lanes.specs.Lanes.{pack}
use Rattle.polynomial.specs.Polynomial.{value_at}
use Rattle.terms.specs.Terms.{point}

-- the value at point i of characters as a polynomial, the last of them its lowest coefficient
unfoldable pub value : List ℕ → ℕ → ℕ
value w i = value_at (point i) w

-- a run of n characters of w, from i + k on
unfoldable pub run : List ℕ → ℕ → ℕ → ℕ → List ℕ
run w i k zero = []
run w i k (suc n) = get_or w (i + k) 0 ∷ run w i (suc k) n

-- the values of 63 characters in lanes; of another length 0
unfoldable pub values_of : List ℕ → ℕ
values_of w = cond (eqb (length w) 63) (pack 10 (value w)) 0
