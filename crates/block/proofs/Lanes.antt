-- Eight bytes in one number: which of them are odd, how many, and where one is.
use mathlib.Core.Path.{◌≡◌, refl, sym, ap, ap₂, ◌∙◌}
use mathlib.Core.Logic.{⊎_elim}
use Prim.Native.Nat.{ℕ, zero, suc, ◌+◌, ◌*◌, ◌/◌, ◌%◌, ◌^◌, ◌<◌, ◌≤◌}
use native.Mathlib.Nat.{eq-or-lt_of_le, mul-suc, add_comm, zero-add, suc-add, add-zero, add-suc, add_assoc, zero-div, div-one, pow-suc}
use native.Mathlib.Numerals.{add-one, one-add}
use native.Mathlib.Omega.{arith}
use lib.Pow.{shr_lt, shr-shr, field, mod-mod-pow}
use lib.Bits.{bit_xor, bit_and, xor_shr, and_mask, and_le_r}
use lib.Count.{ones_in, count_trailing_zeros, under, trailing_le}
use lib.Dec.{T, eqb, eqb→eq}
use Rattle.numbers.proofs.Cases.{pos_of_not_zero}
use Rattle.numbers.proofs.Range.{each, each_at}
use Rattle.eights.specs.Inside.{byte}
use Rattle.eights.proofs.Laws.{byte_and, byte_bit, byte_zero, byte_shift}
use Rattle.block.specs.Block.{ones}
use Rattle.block.specs.Lanes.{count, OddBytes, SomeByte}
use Rattle.block.proofs.Bits.{common}

-- ---- the parity of each byte

-- of the lowest n bits nothing above them counts
ones_low : (n a : ℕ) → ones_in n (a % 2 ^ n) ≡ ones_in n a
unfolding ones_in
ones_low zero a = refl
ones_low (suc n) a =
    ap₂ ◌+◌ (rw add-one at (mod-mod-pow a n 1)) (ap (ones_in n) (rw add-one at (field a n 1)) ∙ ones_low n (a / 2))

-- the lowest n bits, and the m above them
pub ones_split : (n m a : ℕ) → ones_in (n + m) a ≡ ones_in n a + ones_in m (a / 2 ^ n)
unfolding ones_in
ones_split zero m a =
    ap (λ (k : ℕ). ones_in k a) (zero-add m) ∙ sym (zero-add (ones_in m (a / 1)) ∙ ap (ones_in m) (div-one a))
ones_split (suc n) m a =
    let e : a / 2 / 2 ^ n ≡ a / 2 ^ suc n = shr-shr a 1 n ∙ ap (λ (k : ℕ). a / 2 ^ k) (one-add n) in
    ap (λ (k : ℕ). ones_in k a) (suc-add n m) ∙ ap (λ (k : ℕ). a % 2 + k) (ones_split n m (a / 2) ∙ ap (λ (b : ℕ). ones_in n (a / 2) + ones_in m b) e)
    ∙ sym (add_assoc (a % 2) (ones_in n (a / 2)) (ones_in m (a / 2 ^ suc n)))

-- the two halves added have the parity of the whole
halves : (n a : ℕ) → ones_in (n + n) a % 2 ≡ ones_in n (bit_xor a (a / 2 ^ n)) % 2
halves n a =
    let h : ones_in n (bit_xor a (a / 2 ^ n)) + ones_in n (bit_and a (a / 2 ^ n)) * 2 ≡ ones_in n a + ones_in n (a / 2 ^ n) = common n a (a / 2 ^ n) in
    let s : ones_in (n + n) a ≡ ones_in n a + ones_in n (a / 2 ^ n) = ones_split n n a in
    omega arith

halves_shifted : (a b n j : ℕ) → b ≡ bit_xor a (a / 2 ^ n) → ones_in (n + n) (a / 2 ^ j) % 2 ≡ ones_in n (b / 2 ^ j) % 2
halves_shifted a b n j e =
    halves n (a / 2 ^ j)
    ∙ ap (λ (c : ℕ). ones_in n (bit_xor (a / 2 ^ j) c) % 2) (shr-shr a j n ∙ ap (λ (k : ℕ). a / 2 ^ k) (add_comm j n) ∙ sym (shr-shr a n j))
    ∙ ap (λ (c : ℕ). ones_in n c % 2) (sym (xor_shr a (a / 2 ^ n) j)) ∙ ap (λ (c : ℕ). ones_in n (c / 2 ^ j) % 2) (sym e)

-- the lowest bit of each of eight bytes
abbrev lowest : ℕ
lowest = 72340172838076673

lowest_test : T (each 8 (λ k. eqb (byte lowest k) 1))
unfolding byte
lowest_test = tt

lowest_bit : (w k : ℕ) → k < 8 → byte (bit_and w lowest) k ≡ ones_in 1 (w / 2 ^ (8 * k)) % 2
unfolding ones_in byte
lowest_bit w k h =
    byte_and w lowest k
    ∙ ap (bit_and (byte w k)) (eqb→eq (byte lowest k) 1 (each_at 8 (λ k. eqb (byte lowest k) 1) lowest_test k h)) ∙ and_mask (byte w k) 1
    ∙ (omega arith)

pub ones_byte : (x k : ℕ) → ones (byte x k) ≡ ones_in 8 (x / 2 ^ (8 * k))
unfolding byte
ones_byte x k = ones_low 8 (x / 2 ^ (8 * k))

pub odd_bytes_lem : (x y z w : ℕ) → y ≡ bit_xor x (x / 16) → z ≡ bit_xor y (y / 4) → w ≡ bit_xor z (z / 2) → OddBytes x (bit_and w lowest)
odd_bytes_lem x y z w e f g =
    record {
      small = omega (arith, and_le_r w lowest);
      at = λ k h.
          lowest_bit w k h ∙ sym (halves_shifted z w 1 (8 * k) g) ∙ sym (halves_shifted y z 2 (8 * k) f) ∙ sym (halves_shifted x y 4 (8 * k) e)
          ∙ ap (λ (n : ℕ). n % 2) (sym (ones_byte x k));
    }

-- ---- how many bytes are 1

pub count_same : (n : ℕ) (f g : ℕ → ℕ) → ((i : ℕ) → i < n → f i ≡ g i) → count n f ≡ count n g
unfolding count
count_same zero f g h = refl
count_same (suc n) f g h = ap₂ ◌+◌ (count_same n f g (λ i l. h i (omega arith))) (h n (omega arith))

pub count_most : (n : ℕ) (f : ℕ → ℕ) → ((i : ℕ) → i < n → f i ≤ 1) → count n f ≤ n
unfolding count
count_most zero f h = omega arith
count_most (suc n) f h = omega (arith, count_most n f (λ i l. h i (omega arith)), h n (omega arith))

pub count_append : (m n : ℕ) (f : ℕ → ℕ) → count (m + n) f ≡ count m f + count n (λ k. f (m + k))
unfolding count
count_append m zero f = ap (λ (i : ℕ). count i f) (add-zero m) ∙ sym (add-zero (count m f))
count_append m (suc n) f =
    ap (λ (i : ℕ). count i f) (add-suc m n) ∙ ap (λ (t : ℕ). t + f (m + n)) (count_append m n f)
    ∙ add_assoc (count m f) (count n (λ k. f (m + k))) (f (m + n))

-- the first term in front
pub count_front : (n : ℕ) (f : ℕ → ℕ) → count (suc n) f ≡ f 0 + count n (λ i. f (suc i))
unfolding count
count_front zero f = add_comm 0 (f 0)
count_front (suc n) f =
    ap (λ (t : ℕ). t + f (suc n)) (count_front n f) ∙ add_assoc (f 0) (count n (λ i. f (suc i))) (f (suc n))

-- 256 is 1 modulo 255
pub bytes_counted : (m p : ℕ) → m < 255 → p < 2 ^ (8 * m) → ((k : ℕ) → k < m → byte p k ≤ 1) → p % 255 ≡ count m (byte p)
unfolding count
bytes_counted zero p l h f = omega arith
bytes_counted (suc m) p l h f =
    let next : (k : ℕ) → byte (p / 256) k ≡ byte p (suc k) = λ k. byte_shift p 1 k ∙ ap (byte p) (one-add k) in
    let c : ℕ = count m (byte (p / 256)) in
    let e : p / 256 % 255 ≡ c =
    bytes_counted m (p / 256) (omega arith) (shr_lt (8 * m) 8 (rw (mul-suc 8 m) at h)) (λ k b. rw next (f (suc k) (omega arith)))
    in
    let s : count (suc m) (byte p) ≡ byte p 0 + c =
    count_front m (byte p) ∙ ap (λ (n : ℕ). byte p 0 + n) (count_same m (λ i. byte p (suc i)) (byte (p / 256)) (λ i b. sym (next i)))
    in
    let t : c ≤ m = count_most m (byte (p / 256)) (λ k b. rw next (f (suc k) (omega arith))) in
    omega (arith, byte_zero p, f 0 (omega arith))

-- ---- a byte that is not 0

-- what stands above the zeros at the end is odd
pub trailing_odd : (d q : ℕ) → 0 < q → q < 2 ^ d → q / 2 ^ count_trailing_zeros d q % 2 ≡ 1
unfolding count_trailing_zeros
trailing_odd zero q p h = absurd (omega arith)
trailing_odd (suc d) q p h =
    let l : q < 2 ^ d * 2 = rw pow-suc at h in
    go (q % 2) refl (λ e. trailing_odd d (q / 2) (omega arith) (omega arith))
  where
    go : (r : ℕ) → q % 2 ≡ r → (q % 2 ≡ 0 → q / 2 / 2 ^ count_trailing_zeros d (q / 2) % 2 ≡ 1) → q / 2 ^ under r (count_trailing_zeros d (q / 2)) % 2 ≡ 1
    go zero e half =
        let t : ℕ = count_trailing_zeros d (q / 2) in
        ap (λ (n : ℕ). n % 2) (sym (shr-shr q 1 t ∙ ap (λ (k : ℕ). q / 2 ^ k) (one-add t))) ∙ half e
    go (suc zero) e half = ap (λ (n : ℕ). n % 2) (div-one q) ∙ e
    go (suc (suc r)) e half = absurd (omega arith)

pub some_byte : (p : ℕ) → p < 18446744073709551616 → SomeByte p (count_trailing_zeros 64 p / 8)
some_byte p h = record { most = omega (arith, trailing_le 64 p); inside = inside; is = is }
  where
    t : ℕ
    t = count_trailing_zeros 64 p

    odd : (p ≡ 0 → ⊥) → p / 2 ^ t % 2 ≡ 1
    odd d = trailing_odd 64 p (pos_of_not_zero p d) h

    inside : (p ≡ 0 → ⊥) → t / 8 < 8
    inside d =
        ⊎_elim (λ (e : t ≡ 64). absurd (let o : p / 2 ^ 64 % 2 ≡ 1 = ap (λ (n : ℕ). p / 2 ^ n % 2) (sym e) ∙ odd d in omega arith))
        (λ (l : t < 64). omega arith)
        (eq-or-lt_of_le (trailing_le 64 p))

    is : (p ≡ 0 → ⊥) → byte p (t / 8) ≡ 0 → ⊥
    is d z =
        let e : 8 * (t / 8) + t % 8 ≡ t = omega arith in
        let b : byte p (t / 8) / 2 ^ (t % 8) % 2 ≡ 1 = byte_bit p (t / 8) (t % 8) (omega arith) ∙ ap (λ (n : ℕ). p / 2 ^ n % 2) e ∙ odd d in
        let c : 0 / 2 ^ (t % 8) % 2 ≡ 1 = ap (λ (n : ℕ). n / 2 ^ (t % 8) % 2) (sym z) ∙ b in
        omega (arith, zero-div (2 ^ (t % 8)))
