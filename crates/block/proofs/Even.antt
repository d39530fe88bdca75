-- Blocks whose columns are even: each lies eight bits or more from every proper block, and is one once a row is inverted. Dark rows, and bright ones.
use mathlib.Core.Path.{◌≡◌, refl, sym, ap, ap₂, ◌∙◌}
use mathlib.Core.List.{List, [], ◌∷◌, map}
use Prim.Native.Nat.{ℕ, zero, suc, ◌+◌, ◌-◌, ◌*◌, ◌/◌, ◌%◌, ◌^◌, ◌<◌, ◌≤◌}
use native.Mathlib.Nat.{le_of_suc-le-suc, not-suc-le-zero, zero-div}
use native.Mathlib.Omega.{arith}
use lib.Dec.{T, eqb, eqb→eq}
use lib.ListN.{length, get_or, set, take, replicate, length-set, length-replicate}
use lib.Seq.{get_or-set_same, set-get_or, set-set, take-set-le}
use lib.Count.{ones_in}
use lib.Bits.{bit_xor, xor_lt, xor_self, xor_zero_r}
use Rattle.numbers.proofs.Range.{each, each_at}
use Rattle.numbers.proofs.Xor.{xor_assoc, xor_twice, xor_undo}
use Rattle.block.specs.Block.{Bytes, Block, data_of, ones, Proper, distance, Near, Mendable}
use Rattle.block.specs.Even.{Even, inverted, last_inverted}
use Rattle.block.specs.Inside.{odd_rows, summed, wanted}
use Rattle.block.proofs.Bits.{ones_parity}
use Rattle.block.proofs.Columns.{summed_is, columns_are, even_none, none_even, proper_odd, proper_summed, is_proper, odd_set, summed_set, bytes_set}
use Rattle.block.proofs.Apart.{swapped, triangle, summed_most}

-- ---- even columns are an exclusive or of 0

pub even_odd : (xs : List ℕ) → Even xs → odd_rows xs ≡ 0
even_odd xs e = even_none xs e.even

none_bit : (j : ℕ) → 0 / 2 ^ j % 2 ≡ 0
none_bit j = ap (λ (x : ℕ). x % 2) (zero-div (2 ^ j))

pub even_summed : (xs : List ℕ) → Even xs → summed xs ≡ 0
even_summed xs e = summed_is xs 0 e.block.bytes (omega arith) (λ j h. e.columns j h ∙ sym (none_bit j))

pub is_even : (xs : List ℕ) → Block xs → odd_rows xs ≡ 0 → summed xs ≡ 0 → Even xs
is_even xs b o s = record { block = b; even = none_even xs o; columns = λ j h. columns_are xs 0 s j ∙ none_bit j }

-- ---- and each of the eight columns has to differ from a proper block's

pub even_apart : (a b : List ℕ) → length a ≡ length b → summed a ≡ 0 → Proper b → 8 ≤ distance a b
unfolding wanted ones_in
even_apart a b l s p =
    let e : ones (bit_xor (summed a) (summed b)) ≡ 8 = ap₂ (λ (x y : ℕ). ones (bit_xor x y)) s (proper_summed b p) in
    let m : ones (bit_xor (summed a) (summed b)) ≤ distance a b = summed_most a b l in
    omega arith

-- so with up to six wrong bits no proper block is within one
pub even_none_near : (rows a : List ℕ) → length a ≡ length rows → summed a ≡ 0 → distance rows a ≤ 6 → Mendable rows → ⊥
even_none_near rows a l s h m =
    let n = m.1 in
    let t : distance a m.0 ≤ distance rows a + distance rows m.0 = triangle rows a m.0 (sym l) (l ∙ sym n.long) in
    let far : 8 ≤ distance a m.0 = even_apart a m.0 (l ∙ sym n.long) s n.proper in
    let w : distance rows m.0 ≤ 1 = n.within in
    omega arith

-- ---- a row inverted

pub inverted_long : (k : ℕ) (rows : List ℕ) → length (inverted k rows) ≡ length rows
unfolding inverted
inverted_long k rows = length-set rows k (bit_xor (get_or rows k 0) 255)

inverted_block : (k : ℕ) (rows : List ℕ) → Block rows → Block (inverted k rows)
unfolding inverted
inverted_block k rows b =
    let l : length (inverted k rows) ≡ length rows = inverted_long k rows in
    let x : ℕ = get_or rows k 0 in
    record {
      least = rw l b.least;
      most = rw l b.most;
      bytes = bytes_set rows k (bit_xor x 255) b.bytes (xor_lt 8 x 255 (b.bytes k) (omega arith));
    }

-- eight bits are turned, so a row stays as even as it was
inverted_odd : (k : ℕ) (rows : List ℕ) → k < length rows → odd_rows (inverted k rows) ≡ odd_rows rows
unfolding inverted ones_in
inverted_odd k rows h =
    let x : ℕ = get_or rows k 0 in
    let s : odd_rows (inverted k rows) + ones x % 2 ≡ odd_rows rows + ones (bit_xor x 255) % 2 = odd_set rows k (bit_xor x 255) h in
    let p : ones (bit_xor x 255) % 2 ≡ (ones x + 8) % 2 = ones_parity x 255 in
    omega arith

-- and each column changes its parity
inverted_summed : (k : ℕ) (rows : List ℕ) → k < length rows → summed (inverted k rows) ≡ bit_xor (summed rows) 255
unfolding inverted
inverted_summed k rows h = summed_set rows k 255 h

pub inverted_proper : (k : ℕ) (rows : List ℕ) → k < length rows → Even rows → Proper (inverted k rows)
unfolding wanted
inverted_proper k rows h e =
    is_proper (inverted k rows) (inverted_block k rows e.block) (inverted_odd k rows h ∙ even_odd rows e)
    (inverted_summed k rows h ∙ ap (λ (s : ℕ). bit_xor s 255) (even_summed rows e))

pub inverted_even : (k : ℕ) (rows : List ℕ) → k < length rows → Proper rows → Even (inverted k rows)
unfolding wanted
inverted_even k rows h p =
    is_even (inverted k rows) (inverted_block k rows p.block) (inverted_odd k rows h ∙ proper_odd rows p)
    (inverted_summed k rows h ∙ ap (λ (s : ℕ). bit_xor s 255) (proper_summed rows p))

pub inverted_twice : (k : ℕ) (rows : List ℕ) → k < length rows → inverted k (inverted k rows) ≡ rows
unfolding inverted
inverted_twice k rows h =
    let x : ℕ = get_or rows k 0 in
    set-set rows k (bit_xor x 255) (bit_xor (get_or (set rows k (bit_xor x 255)) k 0) 255)
    ∙ ap (λ (y : ℕ). set rows k (bit_xor y 255)) (get_or-set_same rows k (bit_xor x 255) 0 h) ∙ ap (set rows k) (xor_twice x 255) ∙ set-get_or rows k 0

-- where the same row of both is inverted the distance stays
both_set : (xs ys : List ℕ) (k e : ℕ) → length xs ≡ length ys → k < length xs
    → distance (set xs k (bit_xor (get_or xs k 0) e)) (set ys k (bit_xor (get_or ys k 0) e)) ≡ distance xs ys
unfolding distance
both_set [] ys k e l h = absurd (not-suc-le-zero h)
both_set (x ∷ xs) [] k e l h = absurd (omega arith)
both_set (x ∷ xs) (y ∷ ys) zero e l h =
    ap (λ (z : ℕ). ones z + distance xs ys) (swapped x y e e ∙ ap (bit_xor (bit_xor x y)) (xor_self e) ∙ xor_zero_r (bit_xor x y))
both_set (x ∷ xs) (y ∷ ys) (suc k) e l h = ap (λ (d : ℕ). ones (bit_xor x y) + d) (both_set xs ys k e (omega arith) (le_of_suc-le-suc h))

pub inverted_distance : (k : ℕ) (xs ys : List ℕ) → length xs ≡ length ys → k < length xs → distance (inverted k xs) (inverted k ys) ≡ distance xs ys
unfolding inverted
inverted_distance k xs ys l h = both_set xs ys k 255 l h

-- ---- the last row inverted

pub last_inside : (rows : List ℕ) → Block rows → length rows - 1 < length rows
last_inside rows b = let h : 2 ≤ length rows = b.least in omega arith

pub last_twice : (rows : List ℕ) → Block rows → last_inverted (last_inverted rows) ≡ rows
last_twice rows b =
    ap (λ (n : ℕ). inverted (n - 1) (last_inverted rows)) (inverted_long (length rows - 1) rows) ∙ inverted_twice (length rows - 1) rows (last_inside rows b)

-- it is no data row
pub last_data : (rows : List ℕ) → data_of (last_inverted rows) ≡ data_of rows
unfolding data_of inverted
last_data rows =
    ap (map (λ (row : ℕ). row % 128))
    (ap (λ (n : ℕ). take (n - 1) (last_inverted rows)) (inverted_long (length rows - 1) rows)
    ∙ take-set-le (length rows - 1) rows (length rows - 1) (bit_xor (get_or rows (length rows - 1) 0) 255) (omega arith))

pub last_distance : (rows even : List ℕ) → Block even → length even ≡ length rows → distance (last_inverted rows) (last_inverted even) ≡ distance rows even
last_distance rows even b l =
    ap (λ (n : ℕ). distance (inverted (n - 1) rows) (last_inverted even)) (sym l)
    ∙ inverted_distance (length even - 1) rows even (sym l) (rw (sym l) (last_inside even b))

-- and rows near an even block are near the proper one
pub last_near : (rows even : List ℕ) → Even even → length even ≡ length rows → distance rows even ≤ 1 → Near (last_inverted rows) (last_inverted even)
last_near rows even e l h =
    record {
      long = inverted_long (length even - 1) even ∙ l ∙ sym (inverted_long (length rows - 1) rows);
      proper = inverted_proper (length even - 1) even (last_inside even e.block) e;
      within = rw (last_distance rows even e.block l) h;
    }

-- ---- all bits of a row turned but one

seven_test : T (each 8 (λ j. eqb (bit_xor 255 (2 ^ j)) (255 - 2 ^ j)))
seven_test = tt

seven : (j : ℕ) → j < 8 → bit_xor 255 (2 ^ j) ≡ 255 - 2 ^ j
seven j h = eqb→eq (bit_xor 255 (2 ^ j)) (255 - 2 ^ j) (each_at 8 (λ j. eqb (bit_xor 255 (2 ^ j)) (255 - 2 ^ j)) seven_test j h)

seven_ones_test : T (each 8 (λ j. eqb (ones (255 - 2 ^ j)) 7))
unfolding ones_in
seven_ones_test = tt

pub seven_ones : (j : ℕ) → j < 8 → ones (255 - 2 ^ j) ≡ 7
seven_ones j h = eqb→eq (ones (255 - 2 ^ j)) 7 (each_at 8 (λ j. eqb (ones (255 - 2 ^ j)) 7) seven_ones_test j h)

-- to turn all but one is to turn all, and that one again
pub seven_turned : (k : ℕ) (rows : List ℕ) (j : ℕ) → k < length rows → j < 8
    → set rows k (bit_xor (get_or rows k 0) (255 - 2 ^ j)) ≡ set (inverted k rows) k (bit_xor (get_or (inverted k rows) k 0) (2 ^ j))
unfolding inverted
seven_turned k rows j hk hj =
    let x : ℕ = get_or rows k 0 in
    ap (λ (y : ℕ). set rows k (bit_xor x y)) (sym (seven j hj)) ∙ ap (set rows k) (sym (xor_assoc x 255 (2 ^ j)))
    ∙ ap (λ (y : ℕ). set rows k (bit_xor y (2 ^ j))) (sym (get_or-set_same rows k (bit_xor x 255) 0 hk))
    ∙ sym (set-set rows k (bit_xor x 255) (bit_xor (get_or (set rows k (bit_xor x 255)) k 0) (2 ^ j)))

-- ---- rows that are all the same: dark ones, and bright ones

same_bytes : (n x : ℕ) → x < 256 → Bytes (replicate n x)
same_bytes zero x h i = omega arith
same_bytes (suc n) x h zero = h
same_bytes (suc n) x h (suc i) = same_bytes n x h i

same_block : (n x : ℕ) → x < 256 → 2 ≤ n → n ≤ 64 → Block (replicate n x)
same_block n x h least most =
    record { least = rw (length-replicate n x) least; most = rw (length-replicate n x) most; bytes = same_bytes n x h }

same_odd : (n x : ℕ) → ones x % 2 ≡ 0 → odd_rows (replicate n x) ≡ 0
unfolding odd_rows
same_odd zero x h = refl
same_odd (suc n) x h = ap₂ ◌+◌ h (same_odd n x h)

pub dark_summed : (n : ℕ) → summed (replicate n 0) ≡ 0
unfolding summed
dark_summed zero = refl
dark_summed (suc n) = ap (bit_xor 0) (dark_summed n)

pub dark_even : (n : ℕ) → 2 ≤ n → n ≤ 64 → Even (replicate n 0)
unfolding ones_in
dark_even n least most = is_even (replicate n 0) (same_block n 0 (omega arith) least most) (same_odd n 0 refl) (dark_summed n)

bright_summed : (n : ℕ) → summed (replicate n 255) ≡ n % 2 * 255
unfolding summed
bright_summed zero = refl
bright_summed (suc zero) = refl
bright_summed (suc (suc n)) = xor_undo 255 (summed (replicate n 255)) ∙ bright_summed n ∙ ap (λ (b : ℕ). b * 255) (omega arith)

pub bright_odd : (n : ℕ) → Proper (replicate n 255) → n % 2 ≡ 1
unfolding wanted
bright_odd n p = let s : n % 2 * 255 ≡ 255 = sym (bright_summed n) ∙ proper_summed (replicate n 255) p in omega arith

pub bright_proper : (n : ℕ) → 2 ≤ n → n ≤ 64 → n % 2 ≡ 1 → Proper (replicate n 255)
unfolding wanted ones_in
bright_proper n least most h =
    is_proper (replicate n 255) (same_block n 255 (omega arith) least most) (same_odd n 255 refl) (bright_summed n ∙ ap (λ (b : ℕ). b * 255) h)

pub bright_even : (n : ℕ) → 2 ≤ n → n ≤ 64 → n % 2 ≡ 0 → Even (replicate n 255)
unfolding ones_in
bright_even n least most h =
    is_even (replicate n 255) (same_block n 255 (omega arith) least most) (same_odd n 255 refl) (bright_summed n ∙ ap (λ (b : ℕ). b * 255) h)
