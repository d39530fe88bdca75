-- The laws of lanes: what packing keeps, and what exclusive or, masks and shifts do to every lane.
use mathlib.Core.Path.{◌≡◌, refl, sym, ap, ap₂, ◌∙◌}
use Prim.Native.Nat.{ℕ, zero, suc, ◌+◌, ◌*◌, ◌/◌, ◌%◌, ◌^◌, ◌<◌}
use native.Mathlib.Nat.{div-div-eq-div-mul, mul_right_comm, add-mul, div-one, pow-succ', pow-suc, div-add-mod', mod-eq_of_lt, mod-lt, zero-lt-suc, zero-add, zero-mul, mul-one, mul_assoc, add_right_comm, suc-add}
use native.Mathlib.Omega.{arith}
use lib.Arith.{digits_div, digits_mod, mod-mul}
use lib.Bits.{bit_xor, bit_and, xor_block, and_block, and_zero_r, xor_mod, xor_shr}
use Rattle.field.specs.Field.{sum}
use Rattle.lanes.specs.Lanes.{pack, lane}

-- ---- a lane

pub lane_lt : (p k : ℕ) → lane p k < 64
unfolding lane
lane_lt p k = mod-lt (p / 64 ^ k) (zero-lt-suc 63)

pub lane_zero : (p : ℕ) → lane p 0 ≡ p % 64
unfolding lane
lane_zero p = ap (λ (n : ℕ). n % 64) (div-one p)

pub lane_suc : (p k : ℕ) → lane p (suc k) ≡ lane (p / 64) k
unfolding lane
lane_suc p k = ap (λ (n : ℕ). n % 64) (ap (λ (m : ℕ). p / m) (pow-succ' 64 k) ∙ sym (div-div-eq-div-mul p 64 (64 ^ k)))

-- the lanes after the first n
pub lane_after : (p n k : ℕ) → lane (p / 64 ^ n) k ≡ lane p (n + k)
lane_after p zero k = ap₂ lane (div-one p) (sym (zero-add k))
lane_after p (suc n) k =
    ap (λ (q : ℕ). lane q k) (ap (λ (m : ℕ). p / m) (pow-succ' 64 n) ∙ sym (div-div-eq-div-mul p 64 (64 ^ n)))
    ∙ lane_after (p / 64) n k ∙ sym (lane_suc p (n + k)) ∙ ap (lane p) (sym (suc-add n k))

-- ---- packing

pub pack_same : (n : ℕ) (f g : ℕ → ℕ) → ((k : ℕ) → k < n → f k ≡ g k) → pack n f ≡ pack n g
unfolding pack
pack_same zero f g h = refl
pack_same (suc n) f g h =
    ap₂ (λ (a b : ℕ). a * 64 + b) (pack_same n (λ k. f (suc k)) (λ k. g (suc k)) (λ k l. h (suc k) (omega arith))) (h 0 (omega arith))

pub pack_lt : (n : ℕ) (f : ℕ → ℕ) → ((k : ℕ) → f k < 64) → pack n f < 64 ^ n
unfolding pack
pack_lt zero f h = omega arith
pack_lt (suc n) f h =
    let l : pack n (λ k. f (suc k)) < 64 ^ n = pack_lt n (λ k. f (suc k)) (λ k. h (suc k)) in
    let b : f 0 < 64 = h 0 in
    let e : 64 ^ suc n ≡ 64 ^ n * 64 = pow-suc 64 n in
    omega arith

-- the first lane, and the lanes after it
pub low_pack : (n : ℕ) (f : ℕ → ℕ) → f 0 < 64 → pack (suc n) f % 64 ≡ f 0
unfolding pack
low_pack n f h = digits_mod (pack n (λ k. f (suc k))) h

pub rest_pack : (n : ℕ) (f : ℕ → ℕ) → f 0 < 64 → pack (suc n) f / 64 ≡ pack n (λ k. f (suc k))
unfolding pack
rest_pack n f h = digits_div (pack n (λ k. f (suc k))) h

pub lane_pack : (n : ℕ) (f : ℕ → ℕ) → ((k : ℕ) → f k < 64) → (k : ℕ) → k < n → lane (pack n f) k ≡ f k
lane_pack zero f h k l = absurd (omega arith)
lane_pack (suc n) f h zero l = lane_zero (pack (suc n) f) ∙ low_pack n f (h 0)
lane_pack (suc n) f h (suc k) l =
    lane_suc (pack (suc n) f) k ∙ ap (λ (p : ℕ). lane p k) (rest_pack n f (h 0)) ∙ lane_pack n (λ k. f (suc k)) (λ k. h (suc k)) k (omega arith)

-- one more lane that is 0
pub pack_more : (n : ℕ) (f : ℕ → ℕ) → f n ≡ 0 → pack (suc n) f ≡ pack n f
unfolding pack
pack_more zero f e = zero-add (f 0) ∙ e
pack_more (suc n) f e = ap (λ (p : ℕ). p * 64 + f 0) (pack_more n (λ k. f (suc k)) e)

-- the last lane apart
pub pack_last : (n : ℕ) (f : ℕ → ℕ) → pack (suc n) f ≡ pack n f + f n * 64 ^ n
unfolding pack
pack_last zero f = ap (λ (a : ℕ). 0 + a) (sym (mul-one (f 0)))
pack_last (suc n) f =
    ap (λ (a : ℕ). a * 64 + f 0) (pack_last n (λ k. f (suc k)))
    ∙ ap (λ (a : ℕ). a + f 0) (add-mul (pack n (λ k. f (suc k))) (f (suc n) * 64 ^ n) 64)
    ∙ add_right_comm (pack n (λ k. f (suc k)) * 64) (f (suc n) * 64 ^ n * 64) (f 0)
    ∙ ap (λ (a : ℕ). pack n (λ k. f (suc k)) * 64 + f 0 + a) (mul_assoc (f (suc n)) (64 ^ n) 64 ∙ ap (λ (a : ℕ). f (suc n) * a) (sym (pow-suc 64 n)))

-- the lanes from m on apart
pub pack_split : (m n : ℕ) (f : ℕ → ℕ) → pack (m + n) f ≡ pack m f + pack n (λ k. f (m + k)) * 64 ^ m
unfolding pack
pack_split zero n f =
    ap (λ (k : ℕ). pack k f) (zero-add n) ∙ pack_same n f (λ k. f (0 + k)) (λ k l. ap f (sym (zero-add k)))
    ∙ sym (zero-add (pack n (λ k. f (0 + k)) * 1) ∙ mul-one (pack n (λ k. f (0 + k))))
pack_split (suc m) n f =
    ap (λ (k : ℕ). pack k f) (suc-add m n)
    ∙ ap (λ (a : ℕ). a * 64 + f 0)
    (pack_split m n (λ k. f (suc k))
    ∙ ap (λ (a : ℕ). pack m (λ k. f (suc k)) + a * 64 ^ m) (pack_same n (λ k. f (suc (m + k))) (λ k. f (suc m + k)) (λ k l. ap f (sym (suc-add m k)))))
    ∙ ap (λ (a : ℕ). a + f 0) (add-mul (pack m (λ k. f (suc k))) (pack n (λ k. f (suc m + k)) * 64 ^ m) 64)
    ∙ add_right_comm (pack m (λ k. f (suc k)) * 64) (pack n (λ k. f (suc m + k)) * 64 ^ m * 64) (f 0)
    ∙ ap (λ (a : ℕ). pack m (λ k. f (suc k)) * 64 + f 0 + a)
    (mul_assoc (pack n (λ k. f (suc m + k))) (64 ^ m) 64 ∙ ap (λ (a : ℕ). pack n (λ k. f (suc m + k)) * a) (sym (pow-suc 64 m)))

-- numbers of n lanes that agree in each are the same
pub pack_equal : (n : ℕ) (f g : ℕ → ℕ) → ((k : ℕ) → f k < 64) → ((k : ℕ) → g k < 64) → pack n f ≡ pack n g → (k : ℕ) → k < n → f k ≡ g k
pack_equal n f g hf hg e k l = sym (lane_pack n f hf k l) ∙ ap (λ (p : ℕ). lane p k) e ∙ lane_pack n g hg k l

pow_pos : (n : ℕ) → 0 < 64 ^ n
pow_pos zero = omega arith
pow_pos (suc n) = let e : 64 ^ suc n ≡ 64 ^ n * 64 = pow-suc 64 n in let h : 0 < 64 ^ n = pow_pos n in omega arith

-- the lowest n lanes of any number
pub pack_lanes : (n p : ℕ) → p % 64 ^ n ≡ pack n (lane p)
unfolding pack
pack_lanes zero p = omega arith
pack_lanes (suc n) p =
    ap (λ (m : ℕ). p % m) (pow-suc 64 n) ∙ mod-mul p {m = 64 ^ n} {c = 64} (pow_pos n) (omega arith)
    ∙ ap₂ (λ (a b : ℕ). a * 64 + b) (pack_lanes n (p / 64) ∙ pack_same n (lane (p / 64)) (λ k. lane p (suc k)) (λ k l. sym (lane_suc p k))) (sym (lane_zero p))

pub pack_all : (n p : ℕ) → p < 64 ^ n → p ≡ pack n (lane p)
pack_all n p h = sym (mod-eq_of_lt h) ∙ pack_lanes n p

-- ---- what the machine's operations do to each lane

pub xor_pack : (n : ℕ) (f g : ℕ → ℕ) → ((k : ℕ) → f k < 64) → ((k : ℕ) → g k < 64) → bit_xor (pack n f) (pack n g) ≡ pack n (λ k. sum (f k) (g k))
unfolding pack sum
xor_pack zero f g hf hg = refl
xor_pack (suc n) f g hf hg =
    xor_block 6 (pack n (λ k. f (suc k))) (pack n (λ k. g (suc k))) (f 0) (g 0) (hf 0) (hg 0)
    ∙ ap (λ (p : ℕ). p * 64 + bit_xor (f 0) (g 0)) (xor_pack n (λ k. f (suc k)) (λ k. g (suc k)) (λ k. hf (suc k)) (λ k. hg (suc k)))

xor_low : (p q : ℕ) → bit_xor p q % 64 ≡ sum (p % 64) (q % 64)
unfolding sum
xor_low p q = xor_mod p q 6

-- of any two numbers
pub lane_xor : (p q k : ℕ) → lane (bit_xor p q) k ≡ sum (lane p k) (lane q k)
lane_xor p q zero = lane_zero (bit_xor p q) ∙ xor_low p q ∙ sym (ap₂ sum (lane_zero p) (lane_zero q))
lane_xor p q (suc k) =
    lane_suc (bit_xor p q) k ∙ ap (λ (n : ℕ). lane n k) (xor_shr p q 6) ∙ lane_xor (p / 64) (q / 64) k ∙ sym (ap₂ sum (lane_suc p k) (lane_suc q k))

-- a mask over any number
pub and_lanes : (n p : ℕ) (g : ℕ → ℕ) → ((k : ℕ) → g k < 64) → bit_and p (pack n g) ≡ pack n (λ k. bit_and (lane p k) (g k))
unfolding pack
and_lanes zero p g h = and_zero_r p
and_lanes (suc n) p g h =
    ap (λ (q : ℕ). bit_and q (pack n (λ k. g (suc k)) * 64 + g 0)) (sym (div-add-mod' p 64))
    ∙ and_block 6 (p / 64) (pack n (λ k. g (suc k))) (p % 64) (g 0) (omega arith) (h 0)
    ∙ ap₂ (λ (a b : ℕ). a * 64 + b)
    (and_lanes n (p / 64) (λ k. g (suc k)) (λ k. h (suc k))
    ∙ pack_same n (λ k. bit_and (lane (p / 64) k) (g (suc k))) (λ k. bit_and (lane p (suc k)) (g (suc k))) (λ k l. ap (λ (x : ℕ). bit_and x (g (suc k))) (sym (lane_suc p k))))
    (ap (λ (x : ℕ). bit_and x (g 0)) (sym (lane_zero p)))

pub times_pack : (n c : ℕ) (f : ℕ → ℕ) → pack n f * c ≡ pack n (λ k. f k * c)
unfolding pack
times_pack zero c f = zero-mul c
times_pack (suc n) c f =
    add-mul (pack n (λ k. f (suc k)) * 64) (f 0) c
    ∙ ap (λ (a : ℕ). a + f 0 * c) (mul_right_comm (pack n (λ k. f (suc k))) 64 c)
    ∙ ap (λ (a : ℕ). a * 64 + f 0 * c) (times_pack n c (λ k. f (suc k)))
