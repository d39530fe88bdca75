-- What reading and encoding a block that outlasts a smudge promise: the tests in the paper's order, and what a success gives. The numbers of an answer are those of a block.
use Rattle.std.specs.Prelude.{◌≡◌, List, [], ◌∷◌, ℕ, ◌-◌, length}
use Rattle.refusal.specs.declared.Refusal.TheVariants.{ValueOver, OutputLength, RowCount, NoBlock}
use Rattle.refusal.specs.Promise.{Test, ◌else◌, Promise}
use Rattle.block.specs.Block.{distance, Sevens}
use Rattle.smudge.specs.Smudge.{side, Smudged, Mendable, Records}

-- reading asks for eight rows, an output of eight, and a window that serves
abbrev pub reading_tests : List ℕ → ℕ → List Test
reading_tests rows room =
    (length rows ≡ side else RowCount)
    ∷ (room ≡ side else OutputLength)
    ∷ (Mendable rows else NoBlock)
    ∷ []

-- and gives the block, as it is stored, with its distance from the rows in bits
abbrev pub ReadAs : List ℕ → List ℕ → List ℕ → Type 0
ReadAs rows fields block = Smudged rows block × (fields ≡ distance rows block ∷ [])

unfoldable pub Reads : List ℕ → List ℕ → List ℕ → List ℕ → Type 0
Reads rows old numbers new = Promise (reading_tests rows (length old)) (ReadAs rows) 1 old numbers new

-- encoding asks for seven data rows, an output of eight, and rows of at most 127
abbrev pub encoding_tests : List ℕ → ℕ → List Test
encoding_tests given room =
    (length given ≡ side - 1 else RowCount)
    ∷ (room ≡ side else OutputLength)
    ∷ (Sevens given else ValueOver)
    ∷ []

-- and gives the block with these data rows, as it is stored
abbrev pub EncodedAs : List ℕ → List ℕ → List ℕ → Type 0
EncodedAs given fields block = Records given block × (fields ≡ [])

unfoldable pub Encodes : List ℕ → List ℕ → List ℕ → List ℕ → Type 0
Encodes given old numbers new = Promise (encoding_tests given (length old)) (EncodedAs given) 0 old numbers new
