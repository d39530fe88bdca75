-- Cells that are all alike, for where there is no spread.
use Rattle.std.specs.Prelude.{◌≡◌, Bool, List, ℕ, ◌<◌, length, get_or}
use Rattle.clarity.specs.Scan.{on_side}

-- every cell of a side is x
abbrev pub Every : ℕ → List ℕ → Bool → ℕ → Type 0
Every t cells side x = (a : ℕ) → a < length cells → 0 < on_side side t (get_or cells a 0) → get_or cells a 0 ≡ x

-- any two cells of a side are alike
abbrev pub Alike : ℕ → List ℕ → Bool → Type 0
Alike t cells side =
    (i j : ℕ) → i < length cells → j < length cells → 0 < on_side side t (get_or cells i 0) → 0 < on_side side t (get_or cells j 0) → get_or cells i 0 ≡ get_or cells j 0
