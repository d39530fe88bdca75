-- The bits of words at one place, and the numbers that six of them make.
use mathlib.Core.Path.{◌≡◌, refl, sym, ap, ap₂, ◌∙◌, subst}
use Prim.Native.Nat.{ℕ, suc, ◌+◌, ◌-◌, ◌*◌, ◌/◌, ◌%◌, ◌^◌, ◌<◌, ◌≤◌}
use native.Mathlib.Nat.{zero-mul}
use native.Mathlib.Numerals.{add-one}
use native.Mathlib.Omega.{arith}
use lib.Bits.{bit_and, bit_or, bit_xor, and_shr, and_mod, or_shr, or_mod, xor_shr, xor_mod, xor_block, xor_zero_r, or_add_and, and_le_l, and_le_r}
use lib.Pow.{field, high, low, mod-mod-pow}
use Rattle.numbers.proofs.Cases.{bit_cases, bit_lt}
use Rattle.field.specs.Field.{sum, times_x}
use Rattle.planes.specs.Slices.{bit_at, of_bits}

-- ---- one bit of two words together

pub xor_bit : (a b l : ℕ) → bit_at (bit_xor a b) l ≡ bit_xor (bit_at a l) (bit_at b l)
xor_bit a b l = ap (λ (x : ℕ). x % 2) (xor_shr a b l) ∙ xor_mod (a / 2 ^ l) (b / 2 ^ l) 1

both_bits : (a b : ℕ) → bit_and (a % 2) (b % 2) ≡ a % 2 * (b % 2)
both_bits a b =
    bit_cases (λ (x : ℕ). bit_and x (b % 2) ≡ x * (b % 2)) (sym (zero-mul (b % 2)))
    (bit_cases (λ (y : ℕ). bit_and 1 y ≡ 1 * y) refl refl b) a

pub and_bit : (a b l : ℕ) → bit_at (bit_and a b) l ≡ bit_at a l * bit_at b l
and_bit a b l =
    ap (λ (x : ℕ). x % 2) (and_shr a b l) ∙ and_mod (a / 2 ^ l) (b / 2 ^ l) 1 ∙ both_bits (a / 2 ^ l) (b / 2 ^ l)

pub or_bit : (a b l : ℕ) → bit_at (bit_or a b) l ≡ bit_or (bit_at a l) (bit_at b l)
or_bit a b l = ap (λ (x : ℕ). x % 2) (or_shr a b l) ∙ or_mod (a / 2 ^ l) (b / 2 ^ l) 1

-- a bit of both lies between each and their sum
pub record Between (x y o : ℕ) : Type 0 where
  pub left : x ≤ o
  pub right : y ≤ o
  pub most : o ≤ x + y

pub or_between : (a b l : ℕ) → Between (bit_at a l) (bit_at b l) (bit_at (bit_or a b) l)
or_between a b l =
    let x : ℕ = bit_at a l in
    let y : ℕ = bit_at b l in
    let e : bit_at (bit_or a b) l ≡ bit_or x y = or_bit a b l in
    let s : bit_or x y + bit_and x y ≡ x + y = or_add_and x y in
    let h : bit_and x y ≤ x = and_le_l x y in
    let k : bit_and x y ≤ y = and_le_r x y in
    record { left = rw e (omega arith); right = rw e (omega arith); most = rw e (omega arith) }

-- the bits below 63 are those of the low 63
pub low_bit : (w l : ℕ) → l < 63 → bit_at (w % 2 ^ 63) l ≡ bit_at w l
low_bit w l h =
    let m : ℕ = 62 - l in
    let e : suc m + l ≡ 63 = omega arith in
    subst (λ (n : ℕ). w % 2 ^ n / 2 ^ l % 2 ≡ w / 2 ^ l % 2) e
    (ap (λ (x : ℕ). x % 2) (field w (suc m) l)
    ∙ subst (λ (n : ℕ). w / 2 ^ l % 2 ^ n % 2 ≡ w / 2 ^ l % 2) (add-one m) (mod-mod-pow (w / 2 ^ l) m 1))

-- ---- six bits together

pub of_same : {a b c d e f a' b' c' d' e' f' : ℕ} → a ≡ a' → b ≡ b' → c ≡ c' → d ≡ d' → e ≡ e' → f ≡ f'
    → of_bits a b c d e f ≡ of_bits a' b' c' d' e' f'
of_same p q r s t u = ap₂ next (ap₂ next (ap₂ next (ap₂ next (ap₂ next u t) s) r) q) p
  where
    next : ℕ → ℕ → ℕ
    next h x = h * 2 + x

-- one more bit below
xor_next : (h k m a b : ℕ) → bit_xor h k ≡ m → bit_xor (h * 2 + a % 2) (k * 2 + b % 2) ≡ m * 2 + bit_xor (a % 2) (b % 2)
xor_next h k m a b e =
    xor_block 1 h k (a % 2) (b % 2) (bit_lt a) (bit_lt b) ∙ ap (λ (x : ℕ). x * 2 + bit_xor (a % 2) (b % 2)) e

module _ (a b c d e f : ℕ) where
  pub of_xor : (a' b' c' d' e' f' : ℕ)
      → sum (of_bits (a % 2) (b % 2) (c % 2) (d % 2) (e % 2) (f % 2)) (of_bits (a' % 2) (b' % 2) (c' % 2) (d' % 2) (e' % 2) (f' % 2))
      ≡ of_bits (bit_xor (a % 2) (a' % 2)) (bit_xor (b % 2) (b' % 2)) (bit_xor (c % 2) (c' % 2)) (bit_xor (d % 2) (d' % 2)) (bit_xor (e % 2) (e' % 2)) (bit_xor (f % 2) (f' % 2))
  unfolding sum
  of_xor a' b' c' d' e' f' =
      xor_next _ _ _ a a' (xor_next _ _ _ b b' (xor_next _ _ _ c c' (xor_next _ _ _ d d' (xor_next _ _ _ e e' refl))))

  pub of_lt : of_bits (a % 2) (b % 2) (c % 2) (d % 2) (e % 2) (f % 2) < 64
  of_lt = omega arith

  pub of_scaled : (k : ℕ) → of_bits (k % 2 * a) (k % 2 * b) (k % 2 * c) (k % 2 * d) (k % 2 * e) (k % 2 * f) ≡ k % 2 * of_bits a b c d e f
  of_scaled k =
      bit_cases (λ (x : ℕ). of_bits (x * a) (x * b) (x * c) (x * d) (x * e) (x * f) ≡ x * of_bits a b c d e f) (omega arith) (omega arith) k

  -- x times an element moves each bit up; the highest comes back as the lowest, and is added to the next
  pub of_times_x : of_bits (f % 2) (bit_xor (a % 2) (f % 2)) (b % 2) (c % 2) (d % 2) (e % 2)
      ≡ times_x (of_bits (a % 2) (b % 2) (c % 2) (d % 2) (e % 2) (f % 2))
  unfolding times_x sum
  of_times_x =
      let u : ℕ = of_bits (a % 2) (b % 2) (c % 2) (d % 2) (e % 2) (f % 2) in
      let m : ℕ = ((e % 2 * 2 + d % 2) * 2 + c % 2) * 2 + b % 2 in
      let n : m * 2 + a % 2 < 32 = omega arith in
      let w : u ≡ f % 2 * 32 + (m * 2 + a % 2) = omega arith in
      let q : u / 32 ≡ f % 2 = ap (λ (x : ℕ). x / 32) w ∙ high (f % 2) 5 n in
      let r : u % 32 ≡ m * 2 + a % 2 = ap (λ (x : ℕ). x % 32) w ∙ low (f % 2) 5 n in
      let up : (m * 2 + a % 2) * 2 ≡ (m * 2 + a % 2) * 2 + 0 % 2 = omega arith in
      let back : f % 2 % 2 * 3 ≡ (0 * 2 + f % 2) * 2 + f % 2 = omega arith in
      sym
      (ap₂ bit_xor (ap (λ (x : ℕ). x * 2) r ∙ up) (ap (λ (x : ℕ). x % 2 * 3) q ∙ back)
      ∙ xor_next (m * 2 + a % 2) (0 * 2 + f % 2) (m * 2 + bit_xor (a % 2) (f % 2)) 0 f (xor_next m 0 m a f (xor_zero_r m)))
