-- What the inner functions of reading a sheet promise, of sheets whose marks are off: its lines or its columns read, tests, and rounds.
use Rattle.std.specs.Prelude.{◌≡◌, List, ℕ, ◌<◌, length}
use Rattle.code.specs.Word.{Clean}
use Rattle.sheet.specs.Sheet.{characters, line_of, Proper, Kept, Rounds, most_rounds}
use Rattle.sheet.specs.Inside.{bare, plain_column}
use Rattle.sheet_reader.specs.declared.Way.{Way}
use Rattle.sheet_reader.specs.declared.Way.TheVariants.{Lines, Columns}
use Rattle.sheet_reader.specs.declared.SheetReading.{SheetReading}
use Rattle.sheet_reader.specs.declared.SheetReading.TheVariants as S
use Rattle.sheet_reader.specs.declared.Settled.{Settled}

-- word i of a sheet, be it a line or a column
abbrev pub word_of : Way → ℕ → List ℕ → List ℕ
word_of Lines i s = line_of i s
word_of Columns i s = plain_column i s

-- a word written over word i, which leaves the other words of its way
pub record WordPut (way : Way) (word : List ℕ) (i : ℕ) (old new : List ℕ) : Type 0 where
  pub long : length new ≡ characters
  pub here : word_of way i new ≡ word
  pub elsewhere : (j : ℕ) → j < 63 → (j ≡ i → ⊥) → word_of way j new ≡ word_of way j old

-- each line, or each column, is read
pub record WordsRead (way : Way) (s r : List ℕ) : Type 0 where
  pub words : (i : ℕ) → i < 63 → Kept Clean (word_of way i s) (word_of way i r)

-- the first n lines, or columns, are clean words
pub record WordsClean (way : Way) (n : ℕ) (s : List ℕ) : Type 0 where
  pub words : (i : ℕ) → i < n → Clean (word_of way i s)

-- what a reading tells: how many rounds were run, and whether what they left is proper
abbrev pub rounds_of : SheetReading → ℕ
rounds_of (S.Proper rounds) = rounds
rounds_of (S.Improper rounds) = rounds

abbrev pub Tells_of : SheetReading → List ℕ → Type 0
Tells_of (S.Proper rounds) r = Proper r
Tells_of (S.Improper rounds) r = Proper r → ⊥

-- rounds are run, and it is told whether what they leave is proper
pub record Settles (s : List ℕ) (m : Settled) : Type 0 where
  pub run : Rounds most_rounds (bare s) (rounds_of m.reading) (bare m.sheet.cells)
  pub tells : Tells_of m.reading (bare m.sheet.cells)
