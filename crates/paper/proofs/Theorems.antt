-- The theorem of the paper's way: for every input it gives the answer and the output of line reading, of which there is one.
use mathlib.Core.Path.{◌≡◌}
use mathlib.Core.List.{List}
use Prim.Native.Nat.{ℕ}
use Rattle.std.specs.Prelude.{Option, Result}
use Rattle.refusal.specs.declared.Refusal.{Refusal}
use Rattle.line.specs.declared.Reading.{Reading}
use Rattle.line.specs.Promises.{reading_numbers, Reads}
use Rattle.line.proofs.Theorems.{one_reading}

-- p is what `paper::read_line` gives and x what it leaves, l and y those of `line::read_line`, each by its own contract: for every word w of any length,
-- every radius t, every wanted number or none, and whatever lay in an output of any length
pub as_line_reading : (w : List ℕ) (t : ℕ) (wanted : Option ℕ) (old : List ℕ) (p l : Result Reading Refusal) (x y : List ℕ)
    → Reads w t wanted old (reading_numbers p) x → Reads w t wanted old (reading_numbers l) y → (p ≡ l) × (x ≡ y)
as_line_reading w t wanted old = one_reading w t wanted old
