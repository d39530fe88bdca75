-- What reading a line with blots promises: what a word has outside the blots, the line that differs from it so little, the tests in the paper's order, and what a success gives.
use Rattle.std.specs.Prelude.{◌≡◌, List, [], ◌∷◌, ℕ, zero, suc, ◌+◌, ◌*◌, ◌≤◌, length}
use Rattle.numbers.specs.Below.{AllBelow}
use Rattle.polynomial.specs.Sums.{weight}
use Rattle.refusal.specs.declared.Refusal.TheVariants.{InputLength, OutputLength, ValueOver, NoLine}
use Rattle.refusal.specs.Promise.{Test, ◌else◌, Promise}
use Rattle.code.specs.Word.{Characters, Line, distance}
use Rattle.line.specs.Promises.{told}

-- a map has 1 for a blot, 0 for none
abbrev pub Marked : List ℕ → Type 0
Marked = AllBelow 2

-- how many blots it has
abbrev pub blots : List ℕ → ℕ
blots m = weight m

-- what a word has outside the blots: 0 stands at each blot
unfoldable pub seen : List ℕ → List ℕ → List ℕ
seen [] cs = []
seen (b ∷ bs) [] = []
seen (zero ∷ bs) (c ∷ cs) = c ∷ seen bs cs
seen (suc b ∷ bs) (c ∷ cs) = 0 ∷ seen bs cs

-- in how many characters outside the blots two words differ
abbrev pub outside : List ℕ → List ℕ → List ℕ → ℕ
outside m w l = distance (seen m w) (seen m l)

-- l is a line that differs from w in e characters outside the f blots, with 2 e + f at most 11
pub record BlottedLine (m w l : List ℕ) : Type 0 where
  pub line : Line l
  pub near : 2 * outside m w l + blots m ≤ 11

-- there is such a line
abbrev pub Legible : List ℕ → List ℕ → Type 0
Legible m w = (l : List ℕ) × BlottedLine m w l

abbrev pub blotted_tests : List ℕ → List ℕ → ℕ → List Test
blotted_tests w m room =
    (length w ≡ 63 else InputLength)
    ∷ (length m ≡ 63 else InputLength)
    ∷ (room ≡ 63 else OutputLength)
    ∷ (Characters w else ValueOver)
    ∷ (Marked m else ValueOver)
    ∷ (Legible m w else NoLine)
    ∷ []

-- the output gets that line, and the fields are what every reading tells: the number, the distance over all addresses, and the first and the last
-- changed address
abbrev pub BlottedAs : List ℕ → List ℕ → List ℕ → List ℕ → Type 0
BlottedAs m w fields l = BlottedLine m w l × (fields ≡ told w l)

unfoldable pub ReadsBlotted : List ℕ → List ℕ → List ℕ → List ℕ → List ℕ → Type 0
ReadsBlotted w m old numbers new = Promise (blotted_tests w m (length old)) (BlottedAs m w) 4 old numbers new
