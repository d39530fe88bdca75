-- What the inner functions of sheets promise: a sheet taken and written whole, marks taken off or put on, of a line and of all, a column taken out, and one written.
use Rattle.std.specs.Prelude.{◌≡◌, List, ℕ, ◌+◌, ◌*◌, ◌%◌, ◌<◌, length, get_or, replicate}
use Rattle.field.specs.Field.{sum}
use Rattle.code.specs.Word.{added, marks, listed}
use Rattle.sheet.specs.Sheet.{characters}

-- a sheet by value; zeros for anything else
pub record Taken (given s : List ℕ) : Type 0 where
  pub is : length given ≡ characters → s ≡ given
  pub none : (length given ≡ characters → ⊥) → s ≡ replicate characters 0

-- a sheet written over an output of its length; another output is as it was
pub record Put (s old new : List ℕ) : Type 0 where
  pub over : length old ≡ characters → new ≡ s
  pub beside : (length old ≡ characters → ⊥) → new ≡ old

-- the marks added to a line; anything else is as it was
pub record MarksAdded (old new : List ℕ) : Type 0 where
  pub over : length old ≡ 63 → new ≡ added old marks
  pub beside : (length old ≡ 63 → ⊥) → new ≡ old

-- a sheet with each line's marks added: off where they were on, and on where they were off
unfoldable pub bare : List ℕ → List ℕ
bare s = listed (λ k. sum (get_or s k 0) (get_or marks (k % 63) 0)) 0 characters

-- column a as it stands
unfoldable pub plain_column : ℕ → List ℕ → List ℕ
plain_column a s = listed (λ i. get_or s (i * 63 + a) 0) 0 63

-- a column written over column a of a sheet, which leaves the other columns; nothing else is written over
pub record ColumnPut (column : List ℕ) (a : ℕ) (old new : List ℕ) : Type 0 where
  pub long : length new ≡ length old
  pub here : length old ≡ characters → a < 63 → plain_column a new ≡ column
  pub elsewhere : length old ≡ characters → (b : ℕ) → b < 63 → (b ≡ a → ⊥) → plain_column b new ≡ plain_column b old
  pub beside : ((length old ≡ characters) × (a < 63) → ⊥) → new ≡ old
