-- Polynomials with as many roots as their degree, and the places of the values that are not 0.
use Rattle.std.specs.Prelude.{◌≡◌, List, [], ◌∷◌, ℕ, zero, suc, ◌<◌, length, get_or}
use Rattle.polynomial.specs.Sums.{Places}
use Rattle.polynomial.specs.Polynomial.{Elements, ZeroAt}

-- p has degree d, and its highest coefficient is 1
pub record Monic (p : List ℕ) (d : ℕ) : Type 0 where
  pub top : get_or p d 0 ≡ 1
  pub past : (k : ℕ) → d < k → get_or p k 0 ≡ 0
  pub small : Elements p

-- and it has these d roots, none of them 0 and no two the same
pub record Split (p : List ℕ) (d : ℕ) (rs : List ℕ) : Type 0 where
  pub monic : Monic p d
  pub places : Places rs
  pub many : length rs ≡ d
  pub zeros : ZeroAt p rs

-- the places of the values that are not 0
unfoldable pub supported : List ℕ → List ℕ → List ℕ
supported [] xs = []
supported (v ∷ vs) [] = []
supported (zero ∷ vs) (x ∷ xs) = supported vs xs
supported (suc v ∷ vs) (x ∷ xs) = x ∷ supported vs xs
