-- Maps that take exclusive ors to exclusive ors: what they are made of, and that their values at the powers of 2 fix them.
use mathlib.Core.Path.{◌≡◌, refl, sym, ap, ap₂, ◌∙◌}
use Prim.Native.Nat.{ℕ, zero, suc, ◌*◌, ◌/◌, ◌%◌, ◌^◌, ◌<◌}
use native.Mathlib.Nat.{pow-suc, mod-lt, add-zero, one-mul, zero-mul}
use native.Mathlib.Numerals.{one-add}
use native.Mathlib.Omega.{arith}
use lib.Pow.{pow_pos, split, shr_lt}
use lib.Bits.{bit_xor, bit_and, xor_self, xor_shr, xor_mod, xor_block, xor_shifted, and_shr, and_mod}
use Rattle.numbers.proofs.Cases.{bit_cases}
use Rattle.numbers.proofs.Bits.{same_in_all}
use Rattle.numbers.proofs.Xor.{xor_four}

pub record Linear (f : ℕ → ℕ) : Type 0 where
  pub sums : (a b : ℕ) → f (bit_xor a b) ≡ bit_xor (f a) (f b)

pub at_zero : (f : ℕ → ℕ) → Linear f → f 0 ≡ 0
at_zero f l = l.sums 0 0 ∙ xor_self (f 0)

-- ---- bits

pub xor_bit : (a b l : ℕ) → bit_xor a b / 2 ^ l % 2 ≡ bit_xor (a / 2 ^ l % 2) (b / 2 ^ l % 2)
xor_bit a b l = ap (λ (m : ℕ). m % 2) (xor_shr a b l) ∙ xor_mod (a / 2 ^ l) (b / 2 ^ l) 1

pub and_bit : (a b l : ℕ) → bit_and a b / 2 ^ l % 2 ≡ bit_and (a / 2 ^ l % 2) (b / 2 ^ l % 2)
and_bit a b l = ap (λ (m : ℕ). m % 2) (and_shr a b l) ∙ and_mod (a / 2 ^ l) (b / 2 ^ l) 1

-- of bits, and so of numbers
and_xor_bits : (a b m : ℕ) → bit_and (bit_xor (a % 2) (b % 2)) (m % 2) ≡ bit_xor (bit_and (a % 2) (m % 2)) (bit_and (b % 2) (m % 2))
and_xor_bits a b m =
    bit_cases (λ (x : ℕ). bit_and (bit_xor x (b % 2)) (m % 2) ≡ bit_xor (bit_and x (m % 2)) (bit_and (b % 2) (m % 2)))
    (bit_cases (λ (y : ℕ). bit_and (bit_xor 0 y) (m % 2) ≡ bit_xor (bit_and 0 (m % 2)) (bit_and y (m % 2)))
    (bit_cases (λ (z : ℕ). bit_and (bit_xor 0 0) z ≡ bit_xor (bit_and 0 z) (bit_and 0 z)) refl refl m)
    (bit_cases (λ (z : ℕ). bit_and (bit_xor 0 1) z ≡ bit_xor (bit_and 0 z) (bit_and 1 z)) refl refl m) b)
    (bit_cases (λ (y : ℕ). bit_and (bit_xor 1 y) (m % 2) ≡ bit_xor (bit_and 1 (m % 2)) (bit_and y (m % 2)))
    (bit_cases (λ (z : ℕ). bit_and (bit_xor 1 0) z ≡ bit_xor (bit_and 1 z) (bit_and 0 z)) refl refl m)
    (bit_cases (λ (z : ℕ). bit_and (bit_xor 1 1) z ≡ bit_xor (bit_and 1 z) (bit_and 1 z)) refl refl m) b) a

pub and_xor : (a b m : ℕ) → bit_and (bit_xor a b) m ≡ bit_xor (bit_and a m) (bit_and b m)
and_xor a b m =
    same_in_all (bit_and (bit_xor a b) m) (bit_xor (bit_and a m) (bit_and b m))
    (λ l.
    and_bit (bit_xor a b) m l ∙ ap (λ (x : ℕ). bit_and x (m / 2 ^ l % 2)) (xor_bit a b l) ∙ and_xor_bits (a / 2 ^ l) (b / 2 ^ l) (m / 2 ^ l)
    ∙ sym (xor_bit (bit_and a m) (bit_and b m) l ∙ ap₂ bit_xor (and_bit a m l) (and_bit b m l)))

-- ---- what such maps are made of

pub itself : Linear (λ x. x)
itself = record { sums = λ a b. refl }

pub shifted_down : (k : ℕ) → Linear (λ x. x / 2 ^ k)
shifted_down k = record { sums = λ a b. xor_shr a b k }

pub shifted_up : (k : ℕ) → Linear (λ x. x * 2 ^ k)
shifted_up k =
    record {
      sums = λ a b.
          sym
          (ap₂ bit_xor (sym (add-zero (a * 2 ^ k))) (sym (add-zero (b * 2 ^ k))) ∙ xor_block k a b 0 0 (pow_pos k) (pow_pos k)
          ∙ add-zero (bit_xor a b * 2 ^ k));
    }

pub lowest : (k : ℕ) → Linear (λ x. x % 2 ^ k)
lowest k = record { sums = λ a b. xor_mod a b k }

pub masked : (m : ℕ) → Linear (λ x. bit_and x m)
masked m = record { sums = λ a b. and_xor a b m }

pub added : (f g : ℕ → ℕ) → Linear f → Linear g → Linear (λ x. bit_xor (f x) (g x))
added f g l k =
    record { sums = λ a b. ap₂ bit_xor (l.sums a b) (k.sums a b) ∙ xor_four (f a) (f b) (g a) (g b) }

-- f after g
pub after : (f g : ℕ → ℕ) → Linear f → Linear g → Linear (λ x. f (g x))
after f g l k = record { sums = λ a b. ap f (k.sums a b) ∙ l.sums (g a) (g b) }

-- ---- their values at the powers of 2 fix them

pub same_maps : (n : ℕ) (f g : ℕ → ℕ) → Linear f → Linear g → ((k : ℕ) → k < n → f (2 ^ k) ≡ g (2 ^ k)) → (x : ℕ) → x < 2 ^ n → f x ≡ g x
same_maps zero f g l m h x b = let e : x ≡ 0 = omega arith in ap f e ∙ at_zero f l ∙ sym (ap g e ∙ at_zero g m)
same_maps (suc n) f g l m h x b =
    let p : 2 ^ suc n ≡ 2 ^ n * 2 = pow-suc 2 n in
    let i : f (x % 2 ^ n) ≡ g (x % 2 ^ n) = same_maps n f g l m (λ k s. h k (omega arith)) (x % 2 ^ n) (low x n) in
    parted f l ∙ ap₂ bit_xor (top (x / 2 ^ n) (half x n b)) i ∙ sym (parted g m)
  where
    low : (x n : ℕ) → x % 2 ^ n < 2 ^ n
    low x n = mod-lt x (pow_pos n)

    half : (x n : ℕ) → x < 2 ^ suc n → x / 2 ^ n < 2
    half x n b = shr_lt 1 n (rw (one-add n) b)

    -- the highest bit, and the others
    parted : (f : ℕ → ℕ) → Linear f → f x ≡ bit_xor (f (x / 2 ^ n * 2 ^ n)) (f (x % 2 ^ n))
    parted f l = ap f (sym (split x n) ∙ sym (xor_shifted (x / 2 ^ n) n (x % 2 ^ n) (low x n))) ∙ l.sums (x / 2 ^ n * 2 ^ n) (x % 2 ^ n)

    top : (q : ℕ) → q < 2 → f (q * 2 ^ n) ≡ g (q * 2 ^ n)
    top zero s = ap f (zero-mul (2 ^ n)) ∙ at_zero f l ∙ sym (ap g (zero-mul (2 ^ n)) ∙ at_zero g m)
    top (suc zero) s = ap f (one-mul (2 ^ n)) ∙ h n (omega arith) ∙ sym (ap g (one-mul (2 ^ n)))
    top (suc (suc q)) s = absurd (omega arith)
