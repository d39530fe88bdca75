-- Sheets: 63 lines of 63 characters, their columns, proper sheets, a round of reading, and rounds one after another.
use Rattle.std.specs.Prelude.{◌≡◌, ◌⊎◌, List, ℕ, suc, ◌<◌, ◌≤◌, length, get_or}
use Rattle.numbers.specs.Parts.{part}
use Rattle.code.specs.Word.{Clean, Line, added, marks, distance, listed}

-- the characters of a sheet, line after line
abbrev pub characters : ℕ
characters = 3969

-- line i
abbrev pub line_of : ℕ → List ℕ → List ℕ
line_of i s = part 63 i s

-- column a, each line's marks taken off
unfoldable pub column_of : ℕ → List ℕ → List ℕ
column_of a s = listed (λ i. get_or (added (line_of i s) marks) a 0) 0 63

-- a proper sheet: each line is a line, and each column a clean word
pub record Proper (s : List ℕ) : Type 0 where
  pub long : length s ≡ characters
  pub lines : (i : ℕ) → i < 63 → Line (line_of i s)
  pub columns : (a : ℕ) → a < 63 → Clean (column_of a s)

-- what reading w leaves: the word with a property within five of it, or w itself where there is none
abbrev pub Kept : (List ℕ → Type 0) → List ℕ → List ℕ → Type 0
Kept P w v = (P v × (distance w v ≤ 5)) ⊎ (((u : List ℕ) → P u → distance w u ≤ 5 → ⊥) × (v ≡ w))

-- a round from s to r: each line is read, then each column
pub record Round (s r : List ℕ) : Type 0 where
  pub between : List ℕ
  pub between_long : length between ≡ characters
  pub lines : (i : ℕ) → i < 63 → Kept Line (line_of i s) (line_of i between)
  pub long : length r ≡ characters
  pub columns : (a : ℕ) → a < 63 → Kept Clean (column_of a between) (column_of a r)

-- at most k rounds from s: n are run, the last counted, and r is left
pub data Rounds : ℕ → List ℕ → ℕ → List ℕ → Type 0 where
  -- no more may be run
  done : {s : List ℕ} → Rounds 0 s 0 s
  -- one ends as it began
  settled : {k : ℕ} {s : List ℕ} → Round s s → Rounds (suc k) s 1 s
  -- one does not, and others follow
  more : {k n : ℕ} {s m r : List ℕ} → Round s m → (m ≡ s → ⊥) → Rounds k m n r → Rounds (suc k) s (suc n) r

-- the most that are run
abbrev pub most_rounds : ℕ
most_rounds = 8
