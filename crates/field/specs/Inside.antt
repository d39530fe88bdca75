-- What the written table of products holds, and what the field's inner inverse promises the crates above.
use Rattle.std.specs.Prelude.{◌≡◌, List, [], ℕ, ◌<◌, get_or}
use Rattle.field.specs.Field.{product, power}

-- what stands in row u and column v of a table
abbrev pub looked_up : List (List ℕ) → ℕ → ℕ → ℕ
looked_up rows u v = get_or (get_or rows u []) v 0

-- a table of products: for every two elements, u times v stands there
pub record Products (rows : List (List ℕ)) : Type 0 where
  pub entry : (u v : ℕ) → u < 64 → v < 64 → looked_up rows u v ≡ product u v

-- the element whose product with v is 1, for a v that is not 0
unfoldable pub inverse : ℕ → ℕ
inverse v = power v 62
