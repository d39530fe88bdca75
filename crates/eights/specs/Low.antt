-- Bytes of which each is below 64.
use Rattle.std.specs.Prelude.{List, ℕ}
use Rattle.numbers.specs.Below.{AllBelow}

abbrev pub Low : List ℕ → Type 0
Low = AllBelow 64
