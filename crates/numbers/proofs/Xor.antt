-- Exclusive or: the laws that lib.Bits lacks, associativity above all.
use mathlib.Core.Path.{◌≡◌, refl, sym, ap, ap₂, ◌∙◌}
use Prim.Native.Nat.{ℕ, zero, suc, ◌+◌, ◌*◌, ◌/◌, ◌%◌, ◌<◌}
use native.Mathlib.Nat.{add-zero, zero-lt-suc}
use native.Mathlib.Omega.{arith}
use lib.Arith.{bin_ind}
use lib.Bits.{bit_xor, differ, xor_step, xor_shr, xor_mod, xor_block, xor_self, xor_comm, xor_zero_r}
use Rattle.numbers.proofs.Cases.{bit_lt}

-- of three bits
bit_assoc : (x y z : ℕ) → x < 2 → y < 2 → z < 2 → differ (bit_xor x y) z ≡ differ x (bit_xor y z)
bit_assoc zero zero z hx hy hz = refl
bit_assoc zero (suc zero) zero hx hy hz = refl
bit_assoc zero (suc zero) (suc zero) hx hy hz = refl
bit_assoc zero (suc zero) (suc (suc z)) hx hy hz = absurd (omega arith)
bit_assoc zero (suc (suc y)) z hx hy hz = absurd (omega arith)
bit_assoc (suc zero) zero zero hx hy hz = refl
bit_assoc (suc zero) zero (suc zero) hx hy hz = refl
bit_assoc (suc zero) zero (suc (suc z)) hx hy hz = absurd (omega arith)
bit_assoc (suc zero) (suc zero) zero hx hy hz = refl
bit_assoc (suc zero) (suc zero) (suc zero) hx hy hz = refl
bit_assoc (suc zero) (suc zero) (suc (suc z)) hx hy hz = absurd (omega arith)
bit_assoc (suc zero) (suc (suc y)) z hx hy hz = absurd (omega arith)
bit_assoc (suc (suc x)) y z hx hy hz = absurd (omega arith)

-- a number is its half and its lowest bit
joined : {h k x y : ℕ} → h ≡ k → x ≡ y → h * 2 + x ≡ k * 2 + y
joined p q = ap₂ (λ (u v : ℕ). u * 2 + v) p q

pub xor_assoc : (a b c : ℕ) → bit_xor (bit_xor a b) c ≡ bit_xor a (bit_xor b c)
xor_assoc a =
    bin_ind (λ (n : ℕ). (b c : ℕ) → bit_xor (bit_xor n b) c ≡ bit_xor n (bit_xor b c)) (λ b c. refl)
    (λ n ih b c.
    xor_step (bit_xor n b) c
    ∙ joined
    (ap (λ (h : ℕ). bit_xor h (c / 2)) (xor_shr n b 1) ∙ ih (b / 2) (c / 2) ∙ ap (λ (h : ℕ). bit_xor (n / 2) h) (sym (xor_shr b c 1)))
    (ap (λ (h : ℕ). differ h (c % 2)) (xor_mod n b 1) ∙ bit_assoc (n % 2) (b % 2) (c % 2) (bit_lt n) (bit_lt b) (bit_lt c)
    ∙ ap (λ (h : ℕ). differ (n % 2) h) (sym (xor_mod b c 1)))
    ∙ sym (xor_step n (bit_xor b c)))
    a

-- what is added twice goes away
pub xor_twice : (a b : ℕ) → bit_xor (bit_xor a b) b ≡ a
xor_twice a b = xor_assoc a b b ∙ ap (λ (h : ℕ). bit_xor a h) (xor_self b) ∙ xor_zero_r a

pub xor_undo : (a b : ℕ) → bit_xor a (bit_xor a b) ≡ b
xor_undo a b = sym (xor_assoc a a b) ∙ ap (λ (h : ℕ). bit_xor h b) (xor_self a)

pub xor_cancel : (a b : ℕ) → bit_xor a b ≡ 0 → a ≡ b
xor_cancel a b e = sym (xor_twice a b) ∙ ap (λ (h : ℕ). bit_xor h b) e

pub xor_double : (a b : ℕ) → bit_xor (a * 2) (b * 2) ≡ bit_xor a b * 2
xor_double a b =
    ap₂ bit_xor (sym (add-zero (a * 2))) (sym (add-zero (b * 2)))
    ∙ xor_block 1 a b 0 0 (zero-lt-suc 1) (zero-lt-suc 1) ∙ add-zero (bit_xor a b * 2)

pub xor_left_comm : (a b c : ℕ) → bit_xor a (bit_xor b c) ≡ bit_xor b (bit_xor a c)
xor_left_comm a b c = sym (xor_assoc a b c) ∙ ap (λ (h : ℕ). bit_xor h c) (xor_comm a b) ∙ xor_assoc b a c

pub xor_four : (a b c d : ℕ) → bit_xor (bit_xor a b) (bit_xor c d) ≡ bit_xor (bit_xor a c) (bit_xor b d)
xor_four a b c d = xor_assoc a b (bit_xor c d) ∙ ap (bit_xor a) (xor_left_comm b c d) ∙ sym (xor_assoc a c (bit_xor b d))

-- an identity of exclusive ors, both sides sorted: `simp xors`, over plain variables
pub ruleset xors = (xor_assoc, xor_left_comm, xor_comm, xor_self, xor_undo, xor_zero_r)
