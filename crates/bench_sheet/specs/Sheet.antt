-- The bench sheet's starred rows: what a row says, and when it is true.
use Rattle.std.specs.Prelude.{◌≡◌, List, [], ◌∷◌, ℕ, ◌+◌, ◌-◌, ◌%◌, set, replicate, drop}
use Rattle.field.specs.Field.{product, α, power, Quotient, Log}
use Rattle.field.specs.Promises.{Divides}
use Rattle.code.specs.Word.{power_sum, added, marks, Line, distance}
use Rattle.encoder.specs.Promises.{LineWith}
use Rattle.block.specs.Bench.{Result, Gives}
use Rattle.smudge.specs.Bench as Smudge

-- the line of zero text and number 0: all 0 but for 32, 8, 1 at 52, 55, 62
abbrev pub Z : List ℕ
Z = set (set (set (replicate 63 0) 52 32) 55 8) 62 1

-- what a row says
pub data Row : Type 0 where
  -- the product of two numbers
  product_is : ℕ → ℕ → ℕ → Row
  -- the refusal of a quotient of two numbers
  no_quotient : ℕ → ℕ → ℕ → Row
  -- a line
  a_line : List ℕ → Row
  -- no line, and its distance from a line
  no_line : List ℕ → ℕ → List ℕ → Row
  -- the checks of the line with a text and a number
  checks_are : List ℕ → ℕ → List ℕ → Row
  -- once the marks are off, S_1 by S_0 is this power of α, and the address by the rule
  one_wrong : List ℕ → ℕ → ℕ → Row
  -- a block's rows, and what they give
  rows_are : List ℕ → Result → Row
  -- what a row of blocks that outlast a smudge says
  of_smudges : Smudge.Row → Row

-- S_1 by S_0 is α^n, and whatever their logarithms the rule gives the address
pub record Wrong (w : List ℕ) (n a : ℕ) : Type 0 where
  pub ratio : Quotient (power_sum 1 (added w marks)) (power_sum 0 (added w marks)) (power α n)
  pub address : (k m : ℕ) → Log (power_sum 1 (added w marks)) k → Log (power_sum 0 (added w marks)) m → a ≡ (62 + (63 + m - k)) % 63

-- that it is true
abbrev pub Says : Row → Type 0
Says (product_is u v w) = product u v ≡ w
Says (no_quotient u v n) = Divides u v (n ∷ 0 ∷ [])
Says (a_line l) = Line l
Says (no_line w d l) = (Line w → ⊥) × Line l × (distance w l ≡ d)
Says (checks_are t n checks) = (l : List ℕ) × LineWith t n l × (drop 52 l ≡ checks)
Says (one_wrong w n a) = Wrong w n a
Says (rows_are rows result) = Gives rows result
Says (of_smudges row) = Smudge.Says row

-- every row of a table is true
abbrev pub Every : List Row → Type 0
Every [] = Unit {0}
Every (r ∷ rs) = Says r × Every rs
