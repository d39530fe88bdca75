-- Values at places, and the sums of the values times powers of their places.
use Rattle.std.specs.Prelude.{◌≡◌, List, [], ◌∷◌, ℕ, zero, suc, ◌+◌, ◌<◌}
use Rattle.field.specs.Field.{sum, product, power}

-- the sum of v · x^j over the values v and their places x
unfoldable pub moment : ℕ → List ℕ → List ℕ → ℕ
moment j [] xs = 0
moment j (v ∷ vs) [] = 0
moment j (v ∷ vs) (x ∷ xs) = sum (product v (power x j)) (moment j vs xs)

unfoldable pub nonzero : ℕ → ℕ
nonzero zero = 0
nonzero (suc v) = 1

-- how many values are not 0
unfoldable pub weight : List ℕ → ℕ
weight [] = 0
weight (v ∷ vs) = nonzero v + weight vs

-- x is none of the places
abbrev pub Fresh : ℕ → List ℕ → Type 0
Fresh x [] = Unit {0}
Fresh x (y ∷ ys) = (y ≡ x → ⊥) × Fresh x ys

-- elements that are not 0, no two the same
abbrev pub Places : List ℕ → Type 0
Places [] = Unit {0}
Places (x ∷ xs) = (0 < x) × (x < 64) × Fresh x xs × Places xs

-- elements, as many as there are places
abbrev pub Values : List ℕ → List ℕ → Type 0
Values [] [] = Unit {0}
Values [] (x ∷ xs) = ⊥
Values (v ∷ vs) [] = ⊥
Values (v ∷ vs) (x ∷ xs) = (v < 64) × Values vs xs

-- every value is 0
abbrev pub Zeros : List ℕ → Type 0
Zeros [] = Unit {0}
Zeros (v ∷ vs) = (v ≡ 0) × Zeros vs
