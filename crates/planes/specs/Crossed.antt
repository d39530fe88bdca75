-- The sum of two products, and the square, place by place.
use Rattle.std.specs.Prelude.{◌≡◌, ℕ}
use Rattle.field.specs.Field.{sum, product}
use Rattle.planes.specs.declared.Planes.{Planes}
use Rattle.planes.specs.Slices.{element_at}

pub record Crossed (a x b y r : Planes) : Type 0 where
  pub at : (l : ℕ) → element_at r l ≡ sum (product (element_at a l) (element_at x l)) (product (element_at b l) (element_at y l))

pub record Squared (v r : Planes) : Type 0 where
  pub at : (l : ℕ) → element_at r l ≡ product (element_at v l) (element_at v l)
