-- What is proved of parity blocks, in the words of the rules.
use mathlib.Core.Path.{◌≡◌, refl, sym, ap, ◌∙◌}
use mathlib.Core.List.{List}
use Prim.Native.Nat.{ℕ, ◌-◌, ◌%◌, ◌^◌, ◌<◌, ◌≤◌}
use native.Mathlib.Decide.{dec_lt}
use native.Mathlib.Omega.{arith}
use lib.ListN.{length, get_or, set, replicate, length-set, length-replicate}
use lib.Bits.{bit_xor}
use Rattle.std.specs.Prelude.{Result, Ok, Err}
use Rattle.refusal.specs.declared.Refusal.{Refusal}
use Rattle.refusal.specs.declared.Refusal.TheVariants.{NoBlock}
use Rattle.refusal.proofs.Theorems.{one_result, same_numbers}
use Rattle.block.specs.Block.{data_of, Proper, distance, Near, Mendable, Sevens, Holds, OneBlock}
use Rattle.block.specs.Even.{Even, inverted, last_inverted}
use Rattle.block.specs.Promises.{reading_numbers, encoding_numbers, reading_tests, encoding_tests, ReadAs, EncodedAs, Reads, Encodes}
use Rattle.eights.proofs.Laws.{same_bytes}
use Rattle.block.specs.Inside.{encoded}
use Rattle.block.specs.Lanes.{OddBytes}
use Rattle.block.proofs.Bits.{one_bit}
use Rattle.block.proofs.Columns.{distance_self, distance_comm, distance_set}
use Rattle.block.proofs.Apart.{apart, near_same}
use Rattle.block.proofs.Encoding.{encoded_holds, holds_encoded}
use Rattle.block.proofs.Even.{even_summed, even_apart, even_none_near, inverted_long, inverted_proper, inverted_even, last_inside, last_twice, last_data, last_distance, last_near, seven_ones, seven_turned, dark_summed, dark_even, bright_odd, bright_proper, bright_even}
use Rattle.block.proofs.Reading.{near_reads, none_near}
use Rattle.block.proofs.Results.{reading_fixed, encoding_fixed, one_read_as, one_encoded_as}

-- ---- proper blocks

-- two different proper blocks of as many rows differ in at least four bits
pub four_bits : (a b : List ℕ) → length a ≡ length b → Proper a → Proper b → (a ≡ b → ⊥) → 4 ≤ distance a b
four_bits a b l p q d = by_cases (dec_lt (distance a b) 4)
  where
    by_cases : Dec (distance a b < 4) → 4 ≤ distance a b
    by_cases (yes h) = absurd (d (apart a b l p q h))
    by_cases (no h) = omega arith

-- at most one proper block lies within one bit
pub one_near : (rows a b : List ℕ) → Near rows a → Near rows b → a ≡ b
one_near rows a b p q = near_same rows a b p q

-- there is one and only one proper block with given data rows
pub one_block : (given : List ℕ) → 1 ≤ length given → length given ≤ 63 → Sevens given → OneBlock given
one_block given least most sevens =
    record { block = encoded given; holds = encoded_holds given least most sevens; only = λ other h. holds_encoded given other h }

-- ---- reading

-- any two results of reading are equal
pub one_reading : (rows old : List ℕ) (r s : Result ℕ Refusal) (x y : List ℕ) → Reads rows old (reading_numbers r) x → Reads rows old (reading_numbers s) y → (r ≡ s) × (x ≡ y)
unfolding Reads
one_reading rows old r s x y p q =
    let e = one_result (reading_tests rows (length old)) (ReadAs rows) 1 (λ _. one_read_as rows) old (reading_numbers r) (reading_numbers s) x y p q in
    (reading_fixed r s e.0, e.1)

-- and so are any two answers to the same rows with outputs of one length, whatever lay in them
pub same_reading : (rows o p : List ℕ) (r s : Result ℕ Refusal) (x y : List ℕ) → length o ≡ length p → Reads rows o (reading_numbers r) x → Reads rows p (reading_numbers s) y → r ≡ s
unfolding Reads
same_reading rows o p r s x y l t u =
    reading_fixed r s
    (same_numbers (reading_tests rows (length p)) (ReadAs rows) 1 (λ _. one_read_as rows) o p (reading_numbers r) (reading_numbers s) x y (rw l at t) u)

-- a proper block within one bit of the rows is what they are read as, with its distance
pub read_near : (rows block old new : List ℕ) (r : Result ℕ Refusal) → Near rows block → length old ≡ length rows → Reads rows old (reading_numbers r) new
    → (r ≡ Ok (distance rows block)) × (new ≡ block)
read_near rows block old new r n room h =
    one_reading rows old r (Ok (distance rows block)) new block h (near_reads rows old block (distance rows block) room n refl)

-- and rows with no proper block within one bit are refused, with 9
pub read_none : (rows old new : List ℕ) (r : Result ℕ Refusal) → 2 ≤ length rows → length rows ≤ 64 → length old ≡ length rows → (Mendable rows → ⊥)
    → Reads rows old (reading_numbers r) new → (r ≡ Err NoBlock) × (new ≡ old)
read_none rows old new r least most room none h =
    one_reading rows old r (Err NoBlock) new old h (none_near rows old least most room none)

-- so a proper block with one wrong bit is read as it was: a wrong check bit is mended like any other
pub read_mended : (block old new : List ℕ) (r : Result ℕ Refusal) (i j : ℕ) → Proper block → i < length block → j < 8 → length old ≡ length block
    → Reads (set block i (bit_xor (get_or block i 0) (2 ^ j))) old (reading_numbers r) new → (r ≡ Ok 1) × (new ≡ block)
read_mended block old new r i j p hi hj room h =
    let rows : List ℕ = set block i (bit_xor (get_or block i 0) (2 ^ j)) in
    let l : length rows ≡ length block = length-set block i (bit_xor (get_or block i 0) (2 ^ j)) in
    let d : distance rows block ≡ 1 = distance_comm rows block ∙ distance_set block i (2 ^ j) hi ∙ one_bit j hj in
    let e = read_near rows block old new r (record { long = sym l; proper = p; within = omega arith }) (room ∙ sym l) h in
    (e.0 ∙ ap Ok d, e.1)

-- and a proper block with none wrong is read as it is
pub read_proper : (block old new : List ℕ) (r : Result ℕ Refusal) → Proper block → length old ≡ length block → Reads block old (reading_numbers r) new
    → (r ≡ Ok 0) × (new ≡ block)
read_proper block old new r p room h =
    let d : distance block block ≡ 0 = distance_self block in
    let e = read_near block block old new r (record { long = refl; proper = p; within = omega arith }) room h in
    (e.0 ∙ ap Ok d, e.1)

-- ---- encoding

-- any two results of encoding are equal
pub one_encoding : (given old : List ℕ) (r s : Result Unit Refusal) (x y : List ℕ) → Encodes given old (encoding_numbers r) x → Encodes given old (encoding_numbers s) y → (r ≡ s) × (x ≡ y)
unfolding Encodes
one_encoding given old r s x y p q =
    let e = one_result (encoding_tests given (length old)) (EncodedAs given) 0 (λ _. one_encoded_as given) old (encoding_numbers r) (encoding_numbers s) x y p q in
    (encoding_fixed r s e.0, e.1)

-- ---- blocks whose columns are even

-- a block whose columns are even lies eight bits or more from every proper block
pub eight_bits : (even block : List ℕ) → length even ≡ length block → Even even → Proper block → 8 ≤ distance even block
eight_bits even block l e p = even_apart even block l (even_summed even e) p

-- so with up to six wrong bits it is refused, with 9
pub read_even : (even rows old new : List ℕ) (r : Result ℕ Refusal) → Even even → length even ≡ length rows → distance rows even ≤ 6 → length old ≡ length rows
    → Reads rows old (reading_numbers r) new → (r ≡ Err NoBlock) × (new ≡ old)
read_even even rows old new r e l six room h =
    read_none rows old new r (rw (sym l) e.block.least) (rw (sym l) e.block.most) room
    (even_none_near rows even l (even_summed even e) six) h

-- inverting one row makes it proper, and a proper block one whose columns are even
pub inverted_columns : (k : ℕ) (rows : List ℕ) → k < length rows → (Even rows → Proper (inverted k rows)) × (Proper rows → Even (inverted k rows))
inverted_columns k rows h = (inverted_proper k rows h, inverted_even k rows h)

-- so no more than six can be promised: with seven bits of one row wrong it is read, as the block with that row inverted
pub read_seven : (even old new : List ℕ) (r : Result ℕ Refusal) (k j : ℕ) → Even even → k < length even → j < 8 → length old ≡ length even
    → Reads (set even k (bit_xor (get_or even k 0) (255 - 2 ^ j))) old (reading_numbers r) new → (r ≡ Ok 1) × (new ≡ inverted k even)
read_seven even old new r k j e hk hj room h =
    let l : length (inverted k even) ≡ length even = inverted_long k even in
    read_mended (inverted k even) old new r k j (inverted_proper k even hk e) (rw l hk) hj (room ∙ sym l) (rw (seven_turned k even j hk hj) at h)

-- its distance there is seven
pub seven_wrong : (even : List ℕ) (k j : ℕ) → k < length even → j < 8 → distance even (set even k (bit_xor (get_or even k 0) (255 - 2 ^ j))) ≡ 7
seven_wrong even k j hk hj = distance_set even k (255 - 2 ^ j) hk ∙ seven_ones j hj

-- the proper block with given data rows is the one whose columns are even, its last row inverted
pub encoded_inverted : (given even block : List ℕ) → Even even → data_of even ≡ given → Holds given block → block ≡ last_inverted even
encoded_inverted given even block e d h =
    holds_encoded given block h
    ∙ sym (holds_encoded given (last_inverted even)
    (record { proper = inverted_proper (length even - 1) even (last_inside even e.block) e; rows = last_data even ∙ d }))

-- and rows with one wrong bit at most are read once their last row is inverted: the data rows are those of the block, and inverting the last row again
-- gives it back
pub read_inverted : (even rows old new : List ℕ) (r : Result ℕ Refusal) → Even even → length even ≡ length rows → distance rows even ≤ 1 → length old ≡ length rows
    → Reads (last_inverted rows) old (reading_numbers r) new → (r ≡ Ok (distance rows even)) × (data_of new ≡ data_of even) × (last_inverted new ≡ even)
read_inverted even rows old new r e l one room h =
    let n = last_near rows even e l one in
    let x = read_near (last_inverted rows) (last_inverted even) old new r n (room ∙ sym (inverted_long (length rows - 1) rows)) h in (
      x.0 ∙ ap Ok (last_distance rows even e.block l),
      ap data_of x.1 ∙ last_data even,
      ap last_inverted x.1 ∙ last_twice even e.block,
    )

-- ---- dark film

-- a dark block is never proper
pub dark_never : (n : ℕ) → Proper (replicate n 0) → ⊥
dark_never n p =
    let far : 8 ≤ distance (replicate n 0) (replicate n 0) = even_apart (replicate n 0) (replicate n 0) refl (dark_summed n) p in
    let none : distance (replicate n 0) (replicate n 0) ≡ 0 = distance_self (replicate n 0) in
    omega arith

-- it is refused with 9, and with up to six bright bits too
pub read_dark : (n : ℕ) (rows old new : List ℕ) (r : Result ℕ Refusal) → 2 ≤ n → n ≤ 64 → length rows ≡ n → distance rows (replicate n 0) ≤ 6 → length old ≡ n
    → Reads rows old (reading_numbers r) new → (r ≡ Err NoBlock) × (new ≡ old)
read_dark n rows old new r least most l six room h =
    read_even (replicate n 0) rows old new r (dark_even n least most) (length-replicate n 0 ∙ sym l) six (room ∙ sym l) h

-- ---- bright film

-- an all-bright block is proper exactly when its row count is odd
pub bright_exactly : (n : ℕ) → 2 ≤ n → n ≤ 64 → (Proper (replicate n 255) → n % 2 ≡ 1) × (n % 2 ≡ 1 → Proper (replicate n 255))
bright_exactly n least most = (bright_odd n, bright_proper n least most)

-- it is read as it is then
pub read_bright_odd : (n : ℕ) (old new : List ℕ) (r : Result ℕ Refusal) → 2 ≤ n → n ≤ 64 → n % 2 ≡ 1 → length old ≡ n
    → Reads (replicate n 255) old (reading_numbers r) new → (r ≡ Ok 0) × (new ≡ replicate n 255)
read_bright_odd n old new r least most odd room h =
    read_proper (replicate n 255) old new r (bright_proper n least most odd) (room ∙ sym (length-replicate n 255)) h

-- and else refused with 9, with up to six dark bits too
pub read_bright_even : (n : ℕ) (rows old new : List ℕ) (r : Result ℕ Refusal) → 2 ≤ n → n ≤ 64 → n % 2 ≡ 0 → length rows ≡ n → distance rows (replicate n 255) ≤ 6
    → length old ≡ n → Reads rows old (reading_numbers r) new → (r ≡ Err NoBlock) × (new ≡ old)
read_bright_even n rows old new r least most even l six room h =
    read_even (replicate n 255) rows old new r (bright_even n least most even) (length-replicate n 255 ∙ sym l) six (room ∙ sym l) h

-- ---- which of eight rows are odd

-- there is one number that tells it
pub one_odd_bytes : (x p q : ℕ) → OddBytes x p → OddBytes x q → p ≡ q
one_odd_bytes x p q s t = same_bytes 8 p q s.small t.small (λ k h. s.at k h ∙ sym (t.at k h))
