-- Numbers that hold eight bytes, the first lowest: what the inner functions of this crate and of the block promise each other; no entry point's promise rests on it.
use Rattle.std.specs.Prelude.{◌≡◌, List, [], ◌∷◌, ℕ, ◌+◌, ◌*◌, ◌/◌, ◌%◌, ◌^◌, ◌<◌, get_or}

-- byte k of a number
unfoldable pub byte : ℕ → ℕ → ℕ
byte n k = n / 2 ^ (8 * k) % 256

-- a number holds these bytes, and then 0
pub record HoldsBytes (cs : List ℕ) (n : ℕ) : Type 0 where
  pub at : (k : ℕ) → byte n k ≡ get_or cs k 0

-- eight bytes from address i on
abbrev pub eight_from : List ℕ → ℕ → List ℕ
eight_from w i =
    get_or w i 0 ∷ get_or w (i + 1) 0 ∷ get_or w (i + 2) 0 ∷ get_or w (i + 3) 0 ∷ get_or w (i + 4) 0 ∷ get_or w (i + 5) 0 ∷ get_or w (i + 6) 0 ∷ get_or w (i + 7) 0 ∷ []

-- each of the eight bytes of a number is below 64
abbrev pub LowEight : ℕ → Type 0
LowEight n = (k : ℕ) → k < 8 → byte n k < 64
