-- Rows and columns counted through exclusive or: a block is proper when no row is odd and its rows sum to the wanted byte.
use mathlib.Core.Path.{◌≡◌, refl, sym, ap, ap₂, ◌∙◌}
use mathlib.Core.List.{List, [], ◌∷◌}
use Prim.Native.Nat.{ℕ, zero, suc, ◌+◌, ◌/◌, ◌%◌, ◌^◌, ◌<◌}
use native.Mathlib.Nat.{le_of_suc-le-suc, not-suc-le-zero, zero-div}
use native.Mathlib.Omega.{arith}
use lib.Dec.{T, eqb, eqb→eq, lit<}
use lib.ListN.{length, get_or, set}
use lib.Count.{ones_in}
use lib.Bits.{bit_xor, xor_shr, xor_lt, xor_self, xor_comm}
use Rattle.numbers.proofs.Range.{each, each_at}
use Rattle.numbers.proofs.Bits.{same_bits}
use Rattle.numbers.proofs.Xor.{xor_assoc, xor_undo}
use Rattle.block.specs.Block.{Bytes, Block, ones, column, column_parity, Proper, distance}
use Rattle.block.specs.Inside.{odd_rows, summed, wanted}
use Rattle.block.proofs.Bits.{ones_parity, xor_bit}

-- bit j of the exclusive or is the parity of column j
summed_column : (j : ℕ) (xs : List ℕ) → summed xs / 2 ^ j % 2 ≡ column j xs % 2
unfolding summed column
summed_column j [] = ap (λ (x : ℕ). x % 2) (zero-div (2 ^ j))
summed_column j (x ∷ xs) =
    let i : summed xs / 2 ^ j % 2 ≡ column j xs % 2 = summed_column j xs in
    let b : bit_xor (x / 2 ^ j) (summed xs / 2 ^ j) % 2 ≡ (x / 2 ^ j + summed xs / 2 ^ j) % 2 = xor_bit (x / 2 ^ j) (summed xs / 2 ^ j) in
    rw (xor_shr x (summed xs) j) (omega arith)

pub summed_lt : (xs : List ℕ) → Bytes xs → summed xs < 256
unfolding summed
summed_lt [] h = omega arith
summed_lt (x ∷ xs) h = xor_lt 8 x (summed xs) (h 0) (summed_lt xs (λ i. h (suc i)))

-- so the columns' parities fix it, and it fixes them
pub summed_is : (xs : List ℕ) (s : ℕ) → Bytes xs → s < 256 → ((j : ℕ) → j < 8 → column j xs % 2 ≡ s / 2 ^ j % 2) → summed xs ≡ s
summed_is xs s b h c = same_bits 8 (summed xs) s (summed_lt xs b) h (λ j l. summed_column j xs ∙ c j l)

pub columns_are : (xs : List ℕ) (s : ℕ) → summed xs ≡ s → (j : ℕ) → column j xs % 2 ≡ s / 2 ^ j % 2
columns_are xs s e j = sym (summed_column j xs) ∙ ap (λ (x : ℕ). x / 2 ^ j % 2) e

-- ---- the wanted byte: a byte, even, each bit a column's parity

pub wanted_lt : wanted < 256
unfolding wanted
wanted_lt = lit< tt

pub wanted_even : ones wanted % 2 ≡ 0
unfolding ones_in wanted
wanted_even = refl

wanted_bits : T (each 8 (λ j. eqb (wanted / 2 ^ j % 2) column_parity))
unfolding wanted
wanted_bits = tt

wanted_bit : (j : ℕ) → j < 8 → wanted / 2 ^ j % 2 ≡ column_parity
wanted_bit j h = eqb→eq (wanted / 2 ^ j % 2) column_parity (each_at 8 (λ j. eqb (wanted / 2 ^ j % 2) column_parity) wanted_bits j h)

-- ---- a proper block

pub even_none : (xs : List ℕ) → ((i : ℕ) → ones (get_or xs i 0) % 2 ≡ 0) → odd_rows xs ≡ 0
unfolding odd_rows
even_none [] h = refl
even_none (x ∷ xs) h =
    let i : odd_rows xs ≡ 0 = even_none xs (λ i. h (suc i)) in
    let k : ones x % 2 ≡ 0 = h 0 in
    omega arith

pub none_even : (xs : List ℕ) → odd_rows xs ≡ 0 → (i : ℕ) → ones (get_or xs i 0) % 2 ≡ 0
unfolding odd_rows ones_in
none_even [] h i = refl
none_even (x ∷ xs) h zero = omega arith
none_even (x ∷ xs) h (suc i) = none_even xs (omega arith) i

-- a proper block has no odd row, and its rows sum to the wanted byte
pub proper_odd : (xs : List ℕ) → Proper xs → odd_rows xs ≡ 0
proper_odd xs p = even_none xs p.even

pub proper_summed : (xs : List ℕ) → Proper xs → summed xs ≡ wanted
proper_summed xs p = summed_is xs wanted p.block.bytes wanted_lt (λ j h. p.columns j h ∙ sym (wanted_bit j h))

-- and a block of such rows is proper
pub is_proper : (xs : List ℕ) → Block xs → odd_rows xs ≡ 0 → summed xs ≡ wanted → Proper xs
is_proper xs b o s =
    record { block = b; even = none_even xs o; columns = λ j h. columns_are xs wanted s j ∙ wanted_bit j h }

-- ---- odd rows are as many as the ones of the exclusive or, but for an even number

parity_step : (x s o : ℕ) → ones s % 2 ≡ o % 2 → ones (bit_xor x s) % 2 ≡ (ones x % 2 + o) % 2
parity_step x s o e = let q : ones (bit_xor x s) % 2 ≡ (ones x + ones s) % 2 = ones_parity x s in omega arith

summed_parity : (xs : List ℕ) → ones (summed xs) % 2 ≡ odd_rows xs % 2
unfolding summed odd_rows ones_in
summed_parity [] = refl
summed_parity (x ∷ xs) = parity_step x (summed xs) (odd_rows xs) (summed_parity xs)

-- and so are the columns of the wrong parity
pub wrong_parity : (xs : List ℕ) → ones (bit_xor wanted (summed xs)) % 2 ≡ odd_rows xs % 2
wrong_parity xs =
    let q : ones (bit_xor wanted (summed xs)) % 2 ≡ (ones wanted + ones (summed xs)) % 2 = ones_parity wanted (summed xs) in
    let p : ones (summed xs) % 2 ≡ odd_rows xs % 2 = summed_parity xs in
    let w : ones wanted % 2 ≡ 0 = wanted_even in
    of_three (ones (bit_xor wanted (summed xs))) (ones wanted) (ones (summed xs)) (odd_rows xs) q p w
  where
    of_three : (a b c d : ℕ) → a % 2 ≡ (b + c) % 2 → c % 2 ≡ d % 2 → b % 2 ≡ 0 → a % 2 ≡ d % 2
    of_three a b c d q p w = omega arith

-- ---- one row changed

pub odd_set : (xs : List ℕ) (k y : ℕ) → k < length xs → odd_rows (set xs k y) + ones (get_or xs k 0) % 2 ≡ odd_rows xs + ones y % 2
unfolding odd_rows
odd_set [] k y h = absurd (not-suc-le-zero h)
odd_set (x ∷ xs) zero y h = omega arith
odd_set (x ∷ xs) (suc k) y h =
    let i : odd_rows (set xs k y) + ones (get_or xs k 0) % 2 ≡ odd_rows xs + ones y % 2 = odd_set xs k y (le_of_suc-le-suc h) in
    omega arith

pub summed_set : (xs : List ℕ) (k e : ℕ) → k < length xs → summed (set xs k (bit_xor (get_or xs k 0) e)) ≡ bit_xor (summed xs) e
unfolding summed
summed_set [] k e h = absurd (not-suc-le-zero h)
summed_set (x ∷ xs) zero e h =
    xor_assoc x e (summed xs) ∙ ap (λ (y : ℕ). bit_xor x y) (xor_comm e (summed xs)) ∙ sym (xor_assoc x (summed xs) e)
summed_set (x ∷ xs) (suc k) e h =
    ap (λ (y : ℕ). bit_xor x y) (summed_set xs k e (le_of_suc-le-suc h)) ∙ sym (xor_assoc x (summed xs) e)

pub bytes_set : (xs : List ℕ) (k y : ℕ) → Bytes xs → y < 256 → Bytes (set xs k y)
bytes_set [] k y b h i = b i
bytes_set (x ∷ xs) zero y b h zero = h
bytes_set (x ∷ xs) zero y b h (suc i) = b (suc i)
bytes_set (x ∷ xs) (suc k) y b h zero = b 0
bytes_set (x ∷ xs) (suc k) y b h (suc i) = bytes_set xs k y (λ i. b (suc i)) h i

-- ---- distance

pub distance_self : (xs : List ℕ) → distance xs xs ≡ 0
unfolding distance ones_in
distance_self [] = refl
distance_self (x ∷ xs) = rw (xor_self x, distance_self xs) refl

pub distance_comm : (xs ys : List ℕ) → distance xs ys ≡ distance ys xs
unfolding distance
distance_comm [] [] = refl
distance_comm [] (y ∷ ys) = refl
distance_comm (x ∷ xs) [] = refl
distance_comm (x ∷ xs) (y ∷ ys) = ap₂ ◌+◌ (ap ones (xor_comm x y)) (distance_comm xs ys)

-- one row changed
pub distance_set : (xs : List ℕ) (k e : ℕ) → k < length xs → distance xs (set xs k (bit_xor (get_or xs k 0) e)) ≡ ones e
unfolding distance ones_in
distance_set [] k e h = absurd (not-suc-le-zero h)
distance_set (x ∷ xs) zero e h = rw (xor_undo x e, distance_self xs) (omega arith)
distance_set (x ∷ xs) (suc k) e h = rw (xor_self x, distance_set xs k e (le_of_suc-le-suc h)) (omega arith)
