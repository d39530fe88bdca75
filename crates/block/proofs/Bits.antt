-- The ones of an exclusive or, and of bytes.
use mathlib.Core.Path.{◌≡◌, refl, ap, ◌∙◌}
use Prim.Native.Nat.{ℕ, zero, suc, ◌+◌, ◌*◌, ◌/◌, ◌%◌, ◌^◌, ◌<◌, ◌≤◌}
use native.Mathlib.Nat.{pow-suc}
use native.Mathlib.Omega.{arith}
use lib.Bits.{bit_xor, bit_and, xor_shr, xor_mod, and_shr, and_mod, xor_add_and}
use lib.Count.{ones_in}
use lib.Dec.{T, eqb, eqb→eq}
use Rattle.numbers.proofs.Range.{each, each_at}
use Rattle.block.specs.Block.{ones}

-- the ones of an exclusive or are those of both, less twice the common ones
pub common : (n a b : ℕ) → ones_in n (bit_xor a b) + ones_in n (bit_and a b) * 2 ≡ ones_in n a + ones_in n b
unfolding ones_in
common zero a b = refl
common (suc n) a b =
    let i : ones_in n (bit_xor (a / 2) (b / 2)) + ones_in n (bit_and (a / 2) (b / 2)) * 2 ≡ ones_in n (a / 2) + ones_in n (b / 2) = common n (a / 2) (b / 2) in
    let l : bit_xor (a % 2) (b % 2) + bit_and (a % 2) (b % 2) * 2 ≡ a % 2 + b % 2 = xor_add_and (a % 2) (b % 2) in
    rw (xor_mod a b 1, xor_shr a b 1, and_mod a b 1, and_shr a b 1) (omega arith)

pub ones_parity : (a b : ℕ) → ones (bit_xor a b) % 2 ≡ (ones a + ones b) % 2
ones_parity a b = let h : ones (bit_xor a b) + ones (bit_and a b) * 2 ≡ ones a + ones b = common 8 a b in omega arith

pub ones_most : (a b : ℕ) → ones (bit_xor a b) ≤ ones a + ones b
ones_most a b = let h : ones (bit_xor a b) + ones (bit_and a b) * 2 ≡ ones a + ones b = common 8 a b in omega arith

-- where there is one at most between them, none is common
pub ones_apart : (a b : ℕ) → ones a + ones b ≤ 1 → ones (bit_xor a b) ≡ ones a + ones b
ones_apart a b l = let h : ones (bit_xor a b) + ones (bit_and a b) * 2 ≡ ones a + ones b = common 8 a b in omega arith

-- a number of n bits that has no ones is 0
none : (n a : ℕ) → a < 2 ^ n → ones_in n a ≡ 0 → a ≡ 0
unfolding ones_in
none zero a h e = omega arith
none (suc n) a h e =
    let l : a < 2 ^ n * 2 = rw pow-suc at h in
    let k : a / 2 ≡ 0 = none n (a / 2) (omega arith) (omega arith) in
    omega arith

pub ones_none : (a : ℕ) → a < 256 → ones a ≡ 0 → a ≡ 0
ones_none a h e = none 8 a h e

-- the lowest bit of an exclusive or is the parity of the sum
pub xor_bit : (a b : ℕ) → bit_xor a b % 2 ≡ (a + b) % 2
xor_bit a b = let h : bit_xor a b + bit_and a b * 2 ≡ a + b = xor_add_and a b in omega arith

-- the ones of a number of n bits stand in its lowest n
pub lowest_ones : (n x : ℕ) → x < 2 ^ n → lib.Count.ones x ≡ ones_in n x
unfolding ones_in lib.Count.ones
lowest_ones zero x h = let e : x ≡ 0 = omega arith in rw e refl
lowest_ones (suc n) x h =
    let l : x < 2 ^ n * 2 = rw pow-suc at h in
    lib.Count.ones_step x ∙ ap (λ (k : ℕ). x % 2 + k) (lowest_ones n (x / 2) (omega arith))

pub byte_ones : (x : ℕ) → x < 256 → lib.Count.ones x ≡ ones x
byte_ones x h = lowest_ones 8 x h

-- a byte of one bit
one_bit_test : T (each 8 (λ j. eqb (ones (2 ^ j)) 1))
unfolding ones_in
one_bit_test = tt

pub one_bit : (j : ℕ) → j < 8 → ones (2 ^ j) ≡ 1
one_bit j h = eqb→eq (ones (2 ^ j)) 1 (each_at 8 (λ j. eqb (ones (2 ^ j)) 1) one_bit_test j h)
