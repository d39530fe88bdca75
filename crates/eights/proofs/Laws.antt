-- The bytes of a number: of bytes joined, of a shift, of bits combined; and what the code's mask and its folding say of eight of them.
use mathlib.Core.Path.{◌≡◌, sym, ap, ap₂, ◌∙◌}
use mathlib.Core.List.{List, [], ◌∷◌}
use Prim.Native.Nat.{ℕ, zero, suc, ◌+◌, ◌-◌, ◌*◌, ◌/◌, ◌%◌, ◌^◌, ◌<◌}
use native.Mathlib.Nat.{zero-div, div-one, mul-add, mul-suc, mod-eq_of_lt}
use native.Mathlib.Numerals.{one-add}
use native.Mathlib.Omega.{arith}
use lib.Arith.{digits_div, digits_mod}
use lib.Pow.{shr-shr, shr_lt, field, mod-mod-pow}
use lib.Bits.{bit_xor, bit_or, bit_and, xor_shr, xor_mod, or_shr, or_mod, or_lt, or_comm, or_add_and, and_shr, and_mod, and_le_r, and_high}
use lib.Dec.{T, eqb, eqb→eq}
use lib.ListN.{get_or}
use borrow.Author.Tests.{eqb-true, eqb-false}
use Rattle.refusal.specs.Promise.{Tells}
use Rattle.numbers.proofs.Range.{each, each_at}
use Rattle.numbers.specs.Total.{total}
use Rattle.numbers.proofs.Xor.{xors}
use Rattle.eights.specs.Inside.{byte, HoldsBytes, LowEight}

pub byte_lt : (n k : ℕ) → byte n k < 256
unfolding byte
byte_lt n k = omega arith

pub byte_zero : (n : ℕ) → byte n 0 ≡ n % 256
unfolding byte
byte_zero n = ap (λ (m : ℕ). m % 256) (div-one n)

pub none_byte : (k : ℕ) → byte 0 k ≡ 0
unfolding byte
none_byte k = ap (λ (m : ℕ). m % 256) (zero-div (2 ^ (8 * k)))

-- m bytes shifted out
pub byte_shift : (n m k : ℕ) → byte (n / 2 ^ (8 * m)) k ≡ byte n (m + k)
unfolding byte
byte_shift n m k = ap (λ (d : ℕ). d % 256) (shr-shr n (8 * m) (8 * k) ∙ ap (λ (e : ℕ). n / 2 ^ e) (sym (mul-add 8 m k)))

-- bit e of a byte
pub byte_bit : (p k e : ℕ) → e < 8 → byte p k / 2 ^ e % 2 ≡ p / 2 ^ (8 * k + e) % 2
unfolding byte
byte_bit p k e h =
    let b : ℕ = p / 2 ^ (8 * k) in
    let s : 8 ≡ 8 - e + e = omega arith in
    let t : 8 - e ≡ 7 - e + 1 = omega arith in
    ap (λ (n : ℕ). b % 2 ^ n / 2 ^ e % 2) s ∙ ap (λ (n : ℕ). n % 2) (field b (8 - e) e)
    ∙ ap (λ (n : ℕ). b / 2 ^ e % 2 ^ n % 2) t ∙ mod-mod-pow (b / 2 ^ e) (7 - e) 1 ∙ ap (λ (n : ℕ). n % 2) (shr-shr p (8 * k) e)

-- numbers of j bytes are equal when their bytes are
pub same_bytes : (j m n : ℕ) → m < 2 ^ (8 * j) → n < 2 ^ (8 * j) → ((k : ℕ) → k < j → byte m k ≡ byte n k) → m ≡ n
same_bytes zero m n hm hn f = omega arith
same_bytes (suc j) m n hm hn f =
    let low : m % 256 ≡ n % 256 = sym (byte_zero m) ∙ f 0 (omega arith) ∙ byte_zero n in
    let rest : m / 256 ≡ n / 256 =
    same_bytes j (m / 256) (n / 256) (shr_lt (8 * j) 8 (rw (mul-suc 8 j) at hm)) (shr_lt (8 * j) 8 (rw (mul-suc 8 j) at hn))
    (λ k h. next m k ∙ f (suc k) (omega arith) ∙ sym (next n k))
    in omega arith
  where
    next : (p k : ℕ) → byte (p / 256) k ≡ byte p (suc k)
    next p k = byte_shift p 1 k ∙ ap (byte p) (one-add k)

-- ---- bytes joined

-- the first lowest
joined : List ℕ → ℕ
joined [] = 0
joined (c ∷ cs) = joined cs * 256 + c

abbrev Bytes : List ℕ → Type 0
Bytes [] = Unit
Bytes (c ∷ cs) = (c < 256) × Bytes cs

byte_joined : (cs : List ℕ) → Bytes cs → (k : ℕ) → byte (joined cs) k ≡ get_or cs k 0
unfolding joined
byte_joined [] h k = none_byte k
byte_joined (c ∷ cs) h zero = byte_zero (joined cs * 256 + c) ∙ digits_mod (joined cs) h.0
byte_joined (c ∷ cs) h (suc k) =
    ap (byte (joined cs * 256 + c)) (sym (one-add k)) ∙ sym (byte_shift (joined cs * 256 + c) 1 k)
    ∙ ap (λ (q : ℕ). byte q k) (digits_div (joined cs) h.0) ∙ byte_joined cs h.1 k

pub eight_holds : (a b c d e f g h n : ℕ) → a < 256 → b < 256 → c < 256 → d < 256 → e < 256 → f < 256 → g < 256 → h < 256
    → n ≡ a + b * 256 + c * 65536 + d * 16777216 + e * 4294967296 + f * 1099511627776 + g * 281474976710656 + h * 72057594037927936
    → HoldsBytes (a ∷ b ∷ c ∷ d ∷ e ∷ f ∷ g ∷ h ∷ []) n
unfolding joined
eight_holds a b c d e f g h n la lb lc ld le lf lg lh q =
    let cs : List ℕ = a ∷ b ∷ c ∷ d ∷ e ∷ f ∷ g ∷ h ∷ [] in
    let j : n ≡ joined cs = omega arith in
    record { at = λ k. ap (λ (m : ℕ). byte m k) j ∙ byte_joined cs (la, (lb, (lc, (ld, (le, (lf, (lg, (lh, tt)))))))) k }

-- ---- bits combined

pub byte_xor : (m n k : ℕ) → byte (bit_xor m n) k ≡ bit_xor (byte m k) (byte n k)
unfolding byte
byte_xor m n k = ap (λ (d : ℕ). d % 256) (xor_shr m n (8 * k)) ∙ xor_mod (m / 2 ^ (8 * k)) (n / 2 ^ (8 * k)) 8

byte_or : (m n k : ℕ) → byte (bit_or m n) k ≡ bit_or (byte m k) (byte n k)
unfolding byte
byte_or m n k = ap (λ (d : ℕ). d % 256) (or_shr m n (8 * k)) ∙ or_mod (m / 2 ^ (8 * k)) (n / 2 ^ (8 * k)) 8

pub byte_and : (m n k : ℕ) → byte (bit_and m n) k ≡ bit_and (byte m k) (byte n k)
unfolding byte
byte_and m n k = ap (λ (d : ℕ). d % 256) (and_shr m n (8 * k)) ∙ and_mod (m / 2 ^ (8 * k)) (n / 2 ^ (8 * k)) 8

-- ---- bytes below 64

pub low_both : (m n : ℕ) → LowEight m → LowEight n → LowEight (bit_or m n)
low_both m n f g k h = rw (byte_or m n k) (or_lt 6 (byte m k) (byte n k) (f k h) (g k h))

pub low_left : (m n : ℕ) → LowEight (bit_or m n) → LowEight m
low_left m n f k h =
    let l : bit_or (byte m k) (byte n k) < 64 = rw (byte_or m n k) at (f k h) in
    omega (arith, or_add_and (byte m k) (byte n k), and_le_r (byte m k) (byte n k))

pub low_right : (m n : ℕ) → LowEight (bit_or m n) → LowEight n
low_right m n f = low_left n m (rw (or_comm m n) at f)

-- the two high bits of each of eight bytes
abbrev high : ℕ
high = 13889313184910721216

high_test : T (each 8 (λ k. eqb (byte high k) 192))
unfolding byte
high_test = tt

byte_high : (n k : ℕ) → k < 8 → byte (bit_and n high) k ≡ byte n k / 64 % 4 * 64
byte_high n k h =
    byte_and n high k ∙ ap (bit_and (byte n k)) (eqb→eq (byte high k) 192 (each_at 8 (λ k. eqb (byte high k) 192) high_test k h))
    ∙ and_high (byte n k) 2 6

low_byte : (b : ℕ) → b < 256 → b / 64 % 4 * 64 ≡ 0 → b < 64
low_byte b h e =
    let q : b / 64 % 4 ≡ b / 64 = mod-eq_of_lt (omega arith) in
    omega arith

none_high : (n : ℕ) → bit_and n high ≡ 0 → LowEight n
none_high n e k h =
    low_byte (byte n k) (byte_lt n k) (sym (byte_high n k h) ∙ ap (λ (m : ℕ). byte m k) e ∙ none_byte k)

low_none : (n : ℕ) → LowEight n → bit_and n high ≡ 0
low_none n f =
    same_bytes 8 (bit_and n high) 0 (omega (arith, and_le_r n high)) (omega arith)
    (λ k h. let l : byte n k < 64 = f k h in byte_high n k h ∙ (omega arith) ∙ sym (none_byte k))

pub mask_tells : (n : ℕ) → Tells (LowEight n) (eqb (bit_and n high) 0)
mask_tells n =
    record {
      holds = λ e. none_high n (eqb-true (bit_and n high) 0 e);
      fails = λ e f. eqb-false (bit_and n high) 0 e (low_none n f);
    }

-- ---- eight bytes folded to one

-- byte k is added to the byte m places up
byte_fold : (n m k : ℕ) → byte (bit_xor n (n / 2 ^ (8 * m))) k ≡ bit_xor (byte n k) (byte n (m + k))
byte_fold n m k = byte_xor n (n / 2 ^ (8 * m)) k ∙ ap (bit_xor (byte n k)) (byte_shift n m k)

eight_terms : (a b c d e f g h : ℕ)
    → bit_xor (bit_xor (bit_xor a e) (bit_xor c g)) (bit_xor (bit_xor b f) (bit_xor d h)) ≡ bit_xor (bit_xor (bit_xor (bit_xor (bit_xor (bit_xor (bit_xor (bit_xor 0 a) b) c) d) e) f) g) h
eight_terms a b c d e f g h = simp xors

pub folds : (z y x w : ℕ) → y ≡ bit_xor z (z / 4294967296) → x ≡ bit_xor y (y / 65536) → w ≡ bit_xor x (x / 256) → w % 256 ≡ total 8 (byte z)
unfolding total
folds z y x w e f g =
    sym (byte_zero w) ∙ from-x 0 ∙ ap₂ bit_xor (from-y 0) (from-y 1)
    ∙ ap₂ bit_xor (ap₂ bit_xor (from-z 0) (from-z 2)) (ap₂ bit_xor (from-z 1) (from-z 3))
    ∙ eight_terms (byte z 0) (byte z 1) (byte z 2) (byte z 3) (byte z 4) (byte z 5) (byte z 6) (byte z 7)
  where
    from-x : (k : ℕ) → byte w k ≡ bit_xor (byte x k) (byte x (1 + k))
    from-x k = ap (λ (n : ℕ). byte n k) g ∙ byte_fold x 1 k

    from-y : (k : ℕ) → byte x k ≡ bit_xor (byte y k) (byte y (2 + k))
    from-y k = ap (λ (n : ℕ). byte n k) f ∙ byte_fold y 2 k

    from-z : (k : ℕ) → byte y k ≡ bit_xor (byte z k) (byte z (4 + k))
    from-z k = ap (λ (n : ℕ). byte n k) e ∙ byte_fold z 4 k
