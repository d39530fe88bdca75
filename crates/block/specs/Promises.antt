-- What reading and encoding a block promise: the paper's numbers of each answer, the tests in the paper's order, and what a success gives.
use Rattle.std.specs.Prelude.{◌≡◌, List, [], ◌∷◌, ℕ, ◌+◌, ◌≤◌, length, Result, Ok, Err}
use Rattle.refusal.specs.declared.Refusal.{Refusal}
use Rattle.refusal.specs.declared.Refusal.TheVariants.{ValueOver, OutputLength, RowCount, NoBlock}
use Rattle.refusal.specs.Number.{number_of}
use Rattle.refusal.specs.Promise.{Test, ◌else◌, Promise}
use Rattle.block.specs.Block.{distance, Near, Mendable, Sevens, Holds}

-- the numbers of a reading: the answer, and the distance
abbrev pub reading_numbers : Result ℕ Refusal → List ℕ
reading_numbers (Ok d) = 0 ∷ d ∷ []
reading_numbers (Err r) = number_of r ∷ 0 ∷ []

-- the number of an encoding: the answer
abbrev pub encoding_numbers : Result Unit Refusal → List ℕ
encoding_numbers (Ok done) = 0 ∷ []
encoding_numbers (Err r) = number_of r ∷ []

-- reading asks for 2 to 64 rows, an output as long, and a proper block within one bit
abbrev pub reading_tests : List ℕ → ℕ → List Test
reading_tests rows room =
    ((2 ≤ length rows) × (length rows ≤ 64) else RowCount)
    ∷ (room ≡ length rows else OutputLength)
    ∷ (Mendable rows else NoBlock)
    ∷ []

-- and gives that block, with its distance from the rows
abbrev pub ReadAs : List ℕ → List ℕ → List ℕ → Type 0
ReadAs rows fields block = Near rows block × (fields ≡ distance rows block ∷ [])

unfoldable pub Reads : List ℕ → List ℕ → List ℕ → List ℕ → Type 0
Reads rows old numbers new = Promise (reading_tests rows (length old)) (ReadAs rows) 1 old numbers new

-- encoding asks for 1 to 63 data rows, an output one longer, and rows of at most 127
abbrev pub encoding_tests : List ℕ → ℕ → List Test
encoding_tests given room =
    ((1 ≤ length given) × (length given ≤ 63) else RowCount)
    ∷ (room ≡ length given + 1 else OutputLength)
    ∷ (Sevens given else ValueOver)
    ∷ []

-- and gives the proper block with these data rows
abbrev pub EncodedAs : List ℕ → List ℕ → List ℕ → Type 0
EncodedAs given fields block = Holds given block × (fields ≡ [])

unfoldable pub Encodes : List ℕ → List ℕ → List ℕ → List ℕ → Type 0
Encodes given old numbers new = Promise (encoding_tests given (length old)) (EncodedAs given) 0 old numbers new
