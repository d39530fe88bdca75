-- Two different proper blocks differ in at least four bits, so at most one lies within one bit; and what such a block says of the rows.
use mathlib.Core.Path.{◌≡◌, refl, sym, ap, ap₂, ◌∙◌}
use mathlib.Core.List.{List, [], ◌∷◌}
use Prim.Native.Nat.{ℕ, suc, ◌+◌, ◌%◌, ◌<◌, ◌≤◌}
use native.Mathlib.Decide.{dec_lt}
use native.Mathlib.Omega.{arith}
use lib.ListN.{length}
use lib.Bits.{bit_xor, xor_comm, xor_lt}
use Rattle.numbers.proofs.Xor.{xor_assoc, xor_twice, xor_undo, xor_cancel}
use Rattle.block.specs.Block.{Bytes, ones, Proper, distance, Near, Mendable}
use Rattle.block.specs.Inside.{odd_rows, summed, wanted}
use Rattle.block.proofs.Bits.{ones_parity, ones_most, ones_none, ones_apart}
use Rattle.block.proofs.Columns.{proper_odd, proper_summed}

-- two even rows that differ in fewer than two bits are equal
same_row : (x y : ℕ) → x < 256 → y < 256 → ones x % 2 ≡ 0 → ones y % 2 ≡ 0 → ones (bit_xor x y) < 2 → x ≡ y
same_row x y hx hy ex ey h =
    let p : ones (bit_xor x y) % 2 ≡ (ones x + ones y) % 2 = ones_parity x y in
    xor_cancel x y (ones_none (bit_xor x y) (xor_lt 8 x y hx hy) (omega arith))

-- even rows that differ in fewer than two bits have the same exclusive or
two : (xs ys : List ℕ) → length xs ≡ length ys → Bytes xs → Bytes ys → odd_rows xs ≡ 0 → odd_rows ys ≡ 0 → distance xs ys < 2 → summed xs ≡ summed ys
unfolding summed odd_rows distance
two [] [] l bx by ox oy h = refl
two [] (y ∷ ys) l bx by ox oy h = absurd (omega arith)
two (x ∷ xs) [] l bx by ox oy h = absurd (omega arith)
two (x ∷ xs) (y ∷ ys) l bx by ox oy h =
    ap₂ bit_xor (same_row x y (bx 0) (by 0) (omega arith) (omega arith) (omega arith))
    (two xs ys (omega arith) (λ i. bx (suc i)) (λ i. by (suc i)) (omega arith) (omega arith) (omega arith))

-- where the rest sums to the same the first rows are the same, and the other way round
first_same : (x y s t : ℕ) → bit_xor x s ≡ bit_xor y t → s ≡ t → x ≡ y
first_same x y s t e f = sym (xor_twice x s) ∙ ap₂ bit_xor e f ∙ xor_twice y t

rest_same : (x y s t : ℕ) → bit_xor x s ≡ bit_xor y t → x ≡ y → s ≡ t
rest_same x y s t e f = sym (xor_undo x s) ∙ ap₂ bit_xor f e ∙ xor_undo y t

-- even rows with the same exclusive or that differ in fewer than four bits are equal: first row and rest cannot both differ in two
four : (xs ys : List ℕ) → length xs ≡ length ys → Bytes xs → Bytes ys → odd_rows xs ≡ 0 → odd_rows ys ≡ 0 → summed xs ≡ summed ys → distance xs ys < 4 → xs ≡ ys
unfolding summed odd_rows distance
four [] [] l bx by ox oy e h = refl
four [] (y ∷ ys) l bx by ox oy e h = absurd (omega arith)
four (x ∷ xs) [] l bx by ox oy e h = absurd (omega arith)
four (x ∷ xs) (y ∷ ys) l bx by ox oy e h =
    let f : x ≡ y = first (dec_lt (distance xs ys) 2) in
    ap₂ (λ (z : ℕ) (zs : List ℕ). z ∷ zs) f
    (four xs ys (omega arith) (λ i. bx (suc i)) (λ i. by (suc i)) (omega arith) (omega arith) (rest_same x y (summed xs) (summed ys) e f) (omega arith))
  where
    first : Dec (distance xs ys < 2) → x ≡ y
    first (yes d) =
        first_same x y (summed xs) (summed ys) e (two xs ys (omega arith) (λ i. bx (suc i)) (λ i. by (suc i)) (omega arith) (omega arith) d)
    first (no d) =
        let k : 2 ≤ distance xs ys = omega arith in
        same_row x y (bx 0) (by 0) (omega arith) (omega arith) (omega arith)

pub apart : (a b : List ℕ) → length a ≡ length b → Proper a → Proper b → distance a b < 4 → a ≡ b
apart a b l p q h =
    four a b l p.block.bytes q.block.bytes (proper_odd a p) (proper_odd b q) (proper_summed a p ∙ sym (proper_summed b q)) h

pub triangle : (xs ys zs : List ℕ) → length xs ≡ length ys → length ys ≡ length zs → distance ys zs ≤ distance xs ys + distance xs zs
unfolding distance
triangle xs [] zs l m = omega arith
triangle [] (y ∷ ys) zs l m = absurd (omega arith)
triangle (x ∷ xs) (y ∷ ys) [] l m = absurd (omega arith)
triangle (x ∷ xs) (y ∷ ys) (z ∷ zs) l m =
    let i : distance ys zs ≤ distance xs ys + distance xs zs = triangle xs ys zs (omega arith) (omega arith) in
    let e : bit_xor (bit_xor x y) (bit_xor x z) ≡ bit_xor y z =
    ap (λ (w : ℕ). bit_xor w (bit_xor x z)) (xor_comm x y) ∙ xor_assoc y x (bit_xor x z) ∙ ap (λ (w : ℕ). bit_xor y w) (xor_undo x z)
    in
    let k : ones (bit_xor y z) ≤ ones (bit_xor x y) + ones (bit_xor x z) = rw e at (ones_most (bit_xor x y) (bit_xor x z)) in
    omega arith

pub near_same : (rows a b : List ℕ) → Near rows a → Near rows b → a ≡ b
near_same rows a b p q =
    let t : distance a b ≤ distance rows a + distance rows b = triangle rows a b (sym p.long) (p.long ∙ sym q.long) in
    apart a b (p.long ∙ sym q.long) p.proper q.proper (omega arith)

-- ---- a proper block within one bit says how many rows are odd, and how many columns of the wrong parity

odd_distance : (xs ys : List ℕ) → length xs ≡ length ys → odd_rows ys ≡ 0 → distance xs ys ≤ 1 → odd_rows xs ≡ distance xs ys
unfolding odd_rows distance
odd_distance [] ys l o h = refl
odd_distance (x ∷ xs) [] l o h = absurd (omega arith)
odd_distance (x ∷ xs) (y ∷ ys) l o h =
    let i : odd_rows xs ≡ distance xs ys = odd_distance xs ys (omega arith) (omega arith) (omega arith) in
    let p : ones (bit_xor x y) % 2 ≡ (ones x + ones y) % 2 = ones_parity x y in
    omega arith

pub swapped : (x y s t : ℕ) → bit_xor (bit_xor x s) (bit_xor y t) ≡ bit_xor (bit_xor x y) (bit_xor s t)
swapped x y s t =
    xor_assoc x s (bit_xor y t) ∙ ap (λ (w : ℕ). bit_xor x w) (sym (xor_assoc s y t) ∙ ap (λ (w : ℕ). bit_xor w t) (xor_comm s y) ∙ xor_assoc y s t)
    ∙ sym (xor_assoc x y (bit_xor s t))

summed_step : (x y s t d : ℕ) → ones (bit_xor x y) + d ≤ 1 → ones (bit_xor s t) ≡ d → ones (bit_xor (bit_xor x s) (bit_xor y t)) ≡ ones (bit_xor x y) + d
summed_step x y s t d h e = ap ones (swapped x y s t) ∙ ones_apart (bit_xor x y) (bit_xor s t) (omega arith) ∙ ap (λ (k : ℕ). ones (bit_xor x y) + k) e

summed_distance : (xs ys : List ℕ) → length xs ≡ length ys → distance xs ys ≤ 1 → ones (bit_xor (summed xs) (summed ys)) ≡ distance xs ys
unfolding summed distance lib.Count.ones_in
summed_distance [] [] l h = refl
summed_distance [] (y ∷ ys) l h = absurd (omega arith)
summed_distance (x ∷ xs) [] l h = absurd (omega arith)
summed_distance (x ∷ xs) (y ∷ ys) l h =
    summed_step x y (summed xs) (summed ys) (distance xs ys) h (summed_distance xs ys (omega arith) (omega arith))

-- however far apart, the exclusive ors differ in no more bits than the rows do
pub summed_most : (xs ys : List ℕ) → length xs ≡ length ys → ones (bit_xor (summed xs) (summed ys)) ≤ distance xs ys
unfolding summed distance lib.Count.ones_in
summed_most [] [] l = omega arith
summed_most [] (y ∷ ys) l = absurd (omega arith)
summed_most (x ∷ xs) [] l = absurd (omega arith)
summed_most (x ∷ xs) (y ∷ ys) l =
    let i : ones (bit_xor (summed xs) (summed ys)) ≤ distance xs ys = summed_most xs ys (omega arith) in
    let m : ones (bit_xor (bit_xor x y) (bit_xor (summed xs) (summed ys))) ≤ ones (bit_xor x y) + ones (bit_xor (summed xs) (summed ys)) =
    ones_most (bit_xor x y) (bit_xor (summed xs) (summed ys))
    in rw (swapped x y (summed xs) (summed ys)) (omega arith)

pub near_rows : (rows b : List ℕ) → Near rows b → odd_rows rows ≡ distance rows b
near_rows rows b p = odd_distance rows b (sym p.long) (proper_odd b p.proper) p.within

near_columns : (rows b : List ℕ) → Near rows b → ones (bit_xor wanted (summed rows)) ≡ distance rows b
near_columns rows b p =
    ap ones (xor_comm wanted (summed rows) ∙ ap (λ (w : ℕ). bit_xor (summed rows) w) (sym (proper_summed b p.proper)))
    ∙ summed_distance rows b (sym p.long) p.within

-- so two columns of the wrong parity are too many
pub wrong_columns_lem : (rows : List ℕ) → 2 ≤ ones (bit_xor wanted (summed rows)) → Mendable rows → ⊥
wrong_columns_lem rows two m =
    let d : ones (bit_xor wanted (summed rows)) ≡ distance rows m.0 = near_columns rows m.0 m.1 in
    let w : distance rows m.0 ≤ 1 = m.1.within in
    omega arith
