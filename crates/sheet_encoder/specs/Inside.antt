-- What the inner functions of encoding a sheet ask and promise: texts and numbers that can be encoded, the first 52 lines, a column completed, and all of them.
use Rattle.std.specs.Prelude.{◌≡◌, List, ℕ, ◌<◌, length, get_or, take}
use Rattle.numbers.specs.Below.{AllBelow}
use Rattle.numbers.specs.Parts.{part}
use Rattle.code.specs.Word.{Characters, Clean}
use Rattle.encoder.specs.Promises.{LineWith}
use Rattle.sheet.specs.Sheet.{characters, line_of}
use Rattle.sheet.specs.Inside.{plain_column}

-- 52 texts of characters, and a number for each that can be that of a line
pub record Encodable (texts numbers : List ℕ) : Type 0 where
  pub texts_long : length texts ≡ 2600
  pub many : length numbers ≡ 52
  pub low : Characters texts
  pub possible : AllBelow 4096 numbers

-- a sheet whose first 52 lines have these texts and numbers; the others are of no account, but that they have characters
pub record FirstLines (texts numbers s : List ℕ) : Type 0 where
  pub long : length s ≡ characters
  pub low : Characters s
  pub lines : (i : ℕ) → i < 52 → LineWith (part 50 i texts) (get_or numbers i 0) (line_of i s)

-- the clean word with the first 52 characters of a column
pub record Completes (column word : List ℕ) : Type 0 where
  pub clean : Clean word
  pub begins : take 52 word ≡ take 52 column

-- each column of s is completed
pub record AllComplete (s r : List ℕ) : Type 0 where
  pub long : length r ≡ characters
  pub columns : (a : ℕ) → a < 63 → Completes (plain_column a s) (plain_column a r)
