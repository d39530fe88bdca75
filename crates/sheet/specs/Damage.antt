-- Damage to a sheet, for what is proved of it: the lines that are named, and how many have more than five wrong characters.
use Rattle.std.specs.Prelude.{◌≡◌, ◌⊎◌, List, [], ◌∷◌, ℕ, ◌-◌}
use Rattle.polynomial.specs.Sums.{weight}
use Rattle.code.specs.Word.{distance, listed}
use Rattle.sheet.specs.Sheet.{line_of}

-- i is one of the numbers
abbrev pub OneOf : ℕ → List ℕ → Type 0
OneOf i [] = ⊥
OneOf i (k ∷ ks) = (i ≡ k) ⊎ OneOf i ks

-- how many lines of d differ from those of p in more than five characters
unfoldable pub bad_lines : List ℕ → List ℕ → ℕ
bad_lines p d = weight (listed (λ i. distance (line_of i d) (line_of i p) - 5) 0 63)
