-- What finding the roots of a polynomial promises, and its steps.
use Rattle.std.specs.Prelude.{◌≡◌, List, [], ◌∷◌, ℕ, ◌-◌, ◌<◌, length, drop, Option, Some, None}
use Rattle.polynomial.specs.Polynomial.{poly_at, over}
use Rattle.polynomial.specs.Roots.{Monic, Split}
use Rattle.locations.specs.declared.Division.{Division}

-- the roots are found exactly where there are d of them, none 0 and no two the same: then they are the last d of five
pub record Finds (p : List ℕ) (d : ℕ) (r : Option (List ℕ)) : Type 0 where
  pub long : (rs : List ℕ) → r ≡ Some rs → length rs ≡ 5
  pub split : (rs : List ℕ) → r ≡ Some rs → Monic p d → Split p d (drop (5 - d) rs)
  pub none : r ≡ None → (rs : List ℕ) → Split p d rs → ⊥

-- the quotient of p by x + r, and the remainder
pub record Divides (p : List ℕ) (r : ℕ) (d : Division) : Type 0 where
  pub quotient : d.quotient ≡ over p r
  pub remainder : d.remainder ≡ poly_at p r

-- x is a root that is not 0
pub record Root (p : List ℕ) (x : ℕ) : Type 0 where
  pub pos : 0 < x
  pub small : x < 64
  pub zero : poly_at p x ≡ 0

-- one is found, where there is one
pub record Tried (p : List ℕ) (r : Option ℕ) : Type 0 where
  pub found : (x : ℕ) → r ≡ Some x → Root p x
  pub none : r ≡ None → (x : ℕ) → Root p x → ⊥

-- for each u below 32 an even y with y² + y = u
unfoldable pub halves : List ℕ
halves =
    0 ∷ 58 ∷ 38 ∷ 28 ∷ 36 ∷ 30 ∷ 2 ∷ 56 ∷ 20 ∷ 46 ∷ 50 ∷ 8 ∷ 48 ∷ 10 ∷ 22 ∷ 44
    ∷ 32 ∷ 26 ∷ 6 ∷ 60 ∷ 4 ∷ 62 ∷ 34 ∷ 24 ∷ 52 ∷ 14 ∷ 18 ∷ 40 ∷ 16 ∷ 42 ∷ 54 ∷ 12 ∷ []
