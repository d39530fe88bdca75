-- Lists of which each entry is below a number.
use Rattle.std.specs.Prelude.{List, ℕ, ◌<◌, get_or}

-- past the end get_or gives 0
abbrev pub AllBelow : ℕ → List ℕ → Type 0
AllBelow n w = (a : ℕ) → get_or w a 0 < n
