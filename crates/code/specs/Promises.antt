-- What the test for a line promises.
use Rattle.std.specs.Prelude.{Bool, List, ℕ}
use Rattle.refusal.specs.Promise.{Tells}
use Rattle.code.specs.Word.{Line}

-- of any characters, of any length: whether they are a line
abbrev pub TellsLine : List ℕ → Bool → Type 0
TellsLine w b = Tells (Line w) b
