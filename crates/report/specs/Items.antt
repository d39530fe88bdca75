-- The items of a tray: lines, rings and blocks, and what is printed of each: the answer and two numbers of its reading; a refusal has 0 0.
use Rattle.std.specs.Prelude.{◌≡◌, List, [], ◌∷◌, ℕ, length, None, Result, Ok, Err}
use Rattle.refusal.specs.declared.Refusal.{Refusal}
use Rattle.refusal.specs.Number.{number_of}
use Rattle.line.specs.declared.Reading.{Reading}
use Rattle.line.specs.Promises as line
use Rattle.ring.specs.declared.RingReading.{RingReading}
use Rattle.ring.specs.Promises as ring
use Rattle.block.specs.Promises as block
use Rattle.report.specs.declared.Kind.{Kind}
use Rattle.report.specs.declared.Kind.TheVariants as K

-- the letter of a kind: L, R or B
abbrev pub letter : Kind → ℕ
letter K.Line = 76
letter K.Ring = 82
letter K.Block = 66

-- for a line the distance and the number
abbrev pub line_fields : Result Reading Refusal → List ℕ
line_fields (Ok r) = 0 ∷ r.distance ∷ r.number ∷ []
line_fields (Err r) = number_of r ∷ 0 ∷ 0 ∷ []

-- for a ring the start and the distance
abbrev pub ring_fields : Result RingReading Refusal → List ℕ
ring_fields (Ok r) = 0 ∷ r.start ∷ r.distance ∷ []
ring_fields (Err r) = number_of r ∷ 0 ∷ 0 ∷ []

-- for a block the distance and the row count
abbrev pub block_fields : ℕ → Result ℕ Refusal → List ℕ
block_fields rows (Ok distance) = 0 ∷ distance ∷ rows ∷ []
block_fields rows (Err r) = number_of r ∷ 0 ∷ 0 ∷ []

-- the fields of what a reader answers, with an output of its length, whatever lay in it
pub record Read {R : Type 0} (Reads : List ℕ → R → List ℕ → Type 0) (room : ℕ) (fields_of : R → List ℕ) (fields : List ℕ) : Type 0 where
  pub reading : R
  pub old : List ℕ
  pub new : List ℕ
  pub long : length old ≡ room
  pub reads : Reads old reading new
  pub shows : fields ≡ fields_of reading

-- of a line, read with no wanted number
abbrev pub LineFields : ℕ → List ℕ → List ℕ → Type 0
LineFields t word = Read (λ old r new. line.Reads word t None old (line.reading_numbers r) new) 63 line_fields

-- of a ring
abbrev pub RingFields : ℕ → List ℕ → List ℕ → Type 0
RingFields t word = Read (λ old r new. ring.ReadsRing word t old (ring.reading_numbers r) new) 63 ring_fields

-- of a block
abbrev pub BlockFields : List ℕ → List ℕ → Type 0
BlockFields rows = Read (λ old r new. block.Reads rows old (block.reading_numbers r) new) (length rows) (block_fields (length rows))

-- the fields of an item, in a tray of radius t
abbrev pub Fields : Kind → ℕ → List ℕ → List ℕ → Type 0
Fields K.Line t word fields = LineFields t word fields
Fields K.Ring t word fields = RingFields t word fields
Fields K.Block t rows fields = BlockFields rows fields
