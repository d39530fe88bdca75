-- What a sheet is between rounds: its length, and that it has characters alone. No name of the crate stands here, since a type's invariant cites it.
use Rattle.std.specs.Prelude.{◌≡◌, List, ℕ, length}
use Rattle.code.specs.Word.{Characters}
use Rattle.sheet.specs.Sheet.{characters}

-- a sheet as the rounds hold it
pub record Held (s : List ℕ) : Type 0 where
  pub long : length s ≡ characters
  pub low : Characters s
