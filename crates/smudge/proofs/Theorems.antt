-- What is proved of blocks that outlast a smudge, in the words of the request.
use mathlib.Core.Path.{◌≡◌, refl, sym, ap, ◌∙◌}
use mathlib.Core.List.{List, [], ◌∷◌}
use Prim.Native.Nat.{ℕ, ◌-◌, ◌<◌, ◌≤◌, ◌^◌}
use lib.ListN.{length, replicate}
use lib.Bits.{bit_xor, xor_lt}
use Rattle.numbers.proofs.Xor.{xor_undo}
use Rattle.std.specs.Prelude.{Result, Ok, Err}
use Rattle.refusal.specs.declared.Refusal.{Refusal}
use Rattle.refusal.specs.declared.Refusal.TheVariants.{NoBlock}
use Rattle.refusal.proofs.Ladder.{given, succeeds}
use Rattle.refusal.proofs.Theorems.{one_result, same_numbers}
use Rattle.block.specs.Block.{Bytes, data_of, distance}
use Rattle.block.specs.Promises.{reading_numbers, encoding_numbers}
use Rattle.block.proofs.Results.{reading_fixed, encoding_fixed}
use Rattle.smudge.specs.Spread.{row_to, column_to}
use Rattle.smudge.specs.Smudge.{side, cell, upward, leftward, straightened, staggered, Stored, Records, Window, Inside, Smudged, Mendable}
use Rattle.smudge.specs.Promises.{reading_tests, ReadAs, Reads, encoding_tests, EncodedAs, Encodes}
use Rattle.smudge.specs.Inside.{smudge_in, rows_in}
use Rattle.smudge.proofs.Cells as Cells
use Rattle.smudge.proofs.Turns.{InOne, in_rows, one_block}
use Rattle.smudge.proofs.Mending as Mending
use Rattle.smudge.proofs.Encoding.{plain_long}
use Rattle.smudge.proofs.Reading.{refused, turned_cells}
use Rattle.smudge.proofs.Spreading as Spreading
use Rattle.smudge.proofs.Results.{one_read_as, one_record, one_encoded_as}

-- ---- the turns

-- straightening undoes staggering, and the other way round
pub straightened_staggered : (rows : List ℕ) → length rows ≡ side → Bytes rows → straightened (staggered rows) ≡ rows
straightened_staggered rows long bytes = Cells.straightened_staggered rows long bytes

pub staggered_straightened : (rows : List ℕ) → length rows ≡ side → Bytes rows → staggered (straightened rows) ≡ rows
staggered_straightened rows long bytes = Cells.staggered_straightened rows long bytes

-- the order of the two turns does not matter: each keeps the other's parity
pub turns_commute : (rows : List ℕ) → leftward (upward rows) ≡ upward (leftward rows)
turns_commute = Cells.turns_commute

-- ---- what a smudge leaves

-- there is never a second block
pub never_second : (rows a b : List ℕ) → Smudged rows a → Smudged rows b → a ≡ b
never_second = Mending.never_second

-- the distance is at most four bits
pub at_most_four : (rows block : List ℕ) → length rows ≡ side → Bytes rows → Smudged rows block → distance rows block ≤ 4
at_most_four rows block long bytes m =
    let x : ℕ = Mending.number_of rows in
    let s : InOne rows x = Mending.number_in rows long bytes in
    let p : ℕ = smudge_in x in
    let e : InOne block (bit_xor x p) = (Mending.smudged_mended rows x s block m).0 in
    let small : p < 2 ^ 64 = rw (xor_undo x p) at (xor_lt 64 x (bit_xor x p) s.fits e.fits) in
    let same : rows_in (bit_xor x p) ≡ block = one_block (rows_in (bit_xor x p)) block (bit_xor x p) (in_rows (bit_xor x p) e.fits) e in
    rw (turned_cells rows x p s small ∙ ap (distance rows) same) at (Mending.smudge_few rows x s block m)

-- each cell comes to a row and a column when it is straightened
pub comes_to : (rows : List ℕ) (i j : ℕ) → i < side → j < side → cell (straightened rows) (row_to i j) (column_to i j) ≡ cell rows i j
comes_to = Cells.comes_to

-- those of a window to different rows and to different columns
pub apart_in_rows : (r c i j k l : ℕ) → Window r c → Inside r c i j → Inside r c k l → row_to i j ≡ row_to k l → (i ≡ k) × (j ≡ l)
apart_in_rows r c i j k l w a b e = Spreading.spread row_to tt r c i j k l w a b e

pub apart_in_columns : (r c i j k l : ℕ) → Window r c → Inside r c i j → Inside r c k l → column_to i j ≡ column_to k l → (i ≡ k) × (j ≡ l)
apart_in_columns r c i j k l w a b e = Spreading.spread column_to tt r c i j k l w a b e

-- ---- reading

-- any two results of reading are equal
pub one_reading : (rows old : List ℕ) (r s : Result ℕ Refusal) (x y : List ℕ) → Reads rows old (reading_numbers r) x → Reads rows old (reading_numbers s) y → (r ≡ s) × (x ≡ y)
unfolding Reads
one_reading rows old r s x y p q =
    let e = one_result (reading_tests rows (length old)) (ReadAs rows) 1 (λ _. one_read_as rows) old (reading_numbers r) (reading_numbers s) x y p q in
    (reading_fixed r s e.0, e.1)

-- and so are any two answers to the same rows with outputs of one length, whatever lay in them
pub same_reading : (rows o p : List ℕ) (r s : Result ℕ Refusal) (x y : List ℕ) → length o ≡ length p → Reads rows o (reading_numbers r) x → Reads rows p (reading_numbers s) y → r ≡ s
unfolding Reads
same_reading rows o p r s x y l t u =
    reading_fixed r s
    (same_numbers (reading_tests rows (length p)) (ReadAs rows) 1 (λ _. one_read_as rows) o p (reading_numbers r) (reading_numbers s) x y (rw l at t) u)

smudged_reads : (rows block old : List ℕ) → length rows ≡ side → length old ≡ side → Smudged rows block → Reads rows old (0 ∷ distance rows block ∷ []) block
unfolding Reads
smudged_reads rows block old long room m =
    succeeds (ReadAs rows) 1 old (reading_tests rows (length old)) (distance rows block ∷ []) block (given long, (given room, (given (block, m), tt))) (m, refl)

-- where some window serves, the block is what the rows are read as, with its distance
pub read_smudged : (rows block old new : List ℕ) (r : Result ℕ Refusal) → length rows ≡ side → length old ≡ side → Smudged rows block → Reads rows old (reading_numbers r) new
    → (r ≡ Ok (distance rows block)) × (new ≡ block)
read_smudged rows block old new r long room m h =
    one_reading rows old r (Ok (distance rows block)) new block h (smudged_reads rows block old long room m)

-- and where none serves, they are refused, with 9
pub read_no_window : (rows old new : List ℕ) (r : Result ℕ Refusal) → length rows ≡ side → length old ≡ side → (Mendable rows → ⊥) → Reads rows old (reading_numbers r) new
    → (r ≡ Err NoBlock) × (new ≡ old)
read_no_window rows old new r long room none h =
    one_reading rows old r (Err NoBlock) new old h (refused rows old 2 (given long, (given room, record { not = none })))

-- ---- encoding

-- any two results of encoding are equal
pub one_encoding : (given old : List ℕ) (r s : Result Unit Refusal) (x y : List ℕ) → Encodes given old (encoding_numbers r) x → Encodes given old (encoding_numbers s) y → (r ≡ s) × (x ≡ y)
unfolding Encodes
one_encoding given old r s x y p q =
    let e = one_result (encoding_tests given (length old)) (EncodedAs given) 0 (λ _. one_encoded_as given) old (encoding_numbers r) (encoding_numbers s) x y p q in
    (encoding_fixed r s e.0, e.1)

pub same_encoding : (given o p : List ℕ) (r s : Result Unit Refusal) (x y : List ℕ) → length o ≡ length p → Encodes given o (encoding_numbers r) x → Encodes given p (encoding_numbers s) y → r ≡ s
unfolding Encodes
same_encoding given o p r s x y l t u =
    encoding_fixed r s
    (same_numbers (encoding_tests given (length p)) (EncodedAs given) 0 (λ _. one_encoded_as given) o p (encoding_numbers r) (encoding_numbers s) x y (rw l at t) u)

-- what is encoded is stored, and its straightened form has the data rows
pub encoded_stored : (given block : List ℕ) → length given ≡ side - 1 → Records given block → Stored block × (data_of (straightened block) ≡ given)
encoded_stored given block seven h =
    let bytes : Bytes h.plain = h.holds.proper.block.bytes in
    let e : straightened block ≡ h.plain =
    ap straightened h.stored ∙ Cells.straightened_staggered h.plain (plain_long given h.plain seven h.holds) bytes
    in (
      record {
        long = ap length h.stored ∙ Cells.staggered_long h.plain;
        bytes = rw h.stored (Cells.staggered_bytes h.plain);
        proper = rw e h.holds.proper;
      },
      ap data_of e ∙ h.holds.rows,
    )

-- and every stored block is what its data rows are encoded as
pub stored_encoded : (block : List ℕ) → Stored block → Records (data_of (straightened block)) block
stored_encoded block s =
    record {
      plain = straightened block;
      holds = record { proper = s.proper; rows = refl };
      stored = sym (Cells.staggered_straightened block s.long s.bytes);
    }

-- so there is one stored block with given data rows
pub one_stored : (a b : List ℕ) → Stored a → Stored b → data_of (straightened a) ≡ data_of (straightened b) → a ≡ b
one_stored a b s t e = one_record (data_of (straightened b)) a b (rw e at (stored_encoded a s)) (stored_encoded b t)

-- ---- the way round: an encoded block, smudged in one window, is read as it was

pub read_encoded : (given block rows old new : List ℕ) (row column : ℕ) (r : Result ℕ Refusal) → length given ≡ side - 1 → Records given block → length rows ≡ side → length old ≡ side
    → Window row column → ((i j : ℕ) → i < side → j < side → (Inside row column i j → ⊥) → cell block i j ≡ cell rows i j) → Reads rows old (reading_numbers r) new
    → (r ≡ Ok (distance rows block)) × (new ≡ block)
read_encoded given block rows old new row column r seven h long room w out =
    read_smudged rows block old new r long room
    (record { stored = (encoded_stored given block seven h).0; row = row; column = column; window = w; outside = out })

-- ---- dark film

-- eight dark rows are refused, with 9
pub read_dark : (old new : List ℕ) (r : Result ℕ Refusal) → length old ≡ side → Reads (replicate side 0) old (reading_numbers r) new → (r ≡ Err NoBlock) × (new ≡ old)
read_dark old new r room = read_no_window (replicate side 0) old new r refl room Spreading.dark_none
