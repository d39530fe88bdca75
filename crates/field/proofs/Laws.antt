-- The laws of the field. Sum and product are defined at every number, and most laws hold at every number; where one wants an element or one that is not 0, it says so.
use mathlib.Core.Path.{◌≡◌, refl, sym, ap, ap₂, ◌∙◌, subst}
use mathlib.Core.Bool.{not, cond}
use Prim.Native.Nat.{ℕ, zero, suc, ◌+◌, ◌-◌, ◌*◌, ◌/◌, ◌%◌, ◌^◌, ◌<◌}
use native.Mathlib.Nat.{div-add-mod', zero-add, suc-add, suc-mul, mul_comm, add_comm, zero-mul, one-mul, mod-eq_of_lt}
use native.Mathlib.Omega.{arith}
use native.Mathlib.Numerals.{add-one}
use lib.Bits.{bit_xor, xor_lt, xor_self, xor_comm, xor_zero_r, xor_mod, xor_shr}
use lib.Pow.{field, mod-mod-pow}
use lib.Dec.{T, T_not, eqb, eqb→eq, ltb, ltb→lt}
use Rattle.numbers.proofs.Cases.{pos_of_not_zero, not_zero_of_pos, bit_cases}
use Rattle.numbers.proofs.Range.{both, both_left, both_right, each, each_at, eq→eqb}
use Rattle.numbers.proofs.Xor.{xor_assoc, xor_undo, xor_cancel, xor_double, xor_left_comm, xor_four}
use Rattle.field.specs.Field.{sum, times_x, shifted, product, α, power, Log, Quotient}
use Rattle.field.specs.Inside.{inverse}

-- ---- the sum

pub sum_assoc : (a b c : ℕ) → sum (sum a b) c ≡ sum a (sum b c)
unfolding sum
sum_assoc = xor_assoc

pub sum_comm : (a b : ℕ) → sum a b ≡ sum b a
unfolding sum
sum_comm = xor_comm

-- each element is its own negative
pub sum_self : (a : ℕ) → sum a a ≡ 0
unfolding sum
sum_self = xor_self

pub sum_zero : (a : ℕ) → sum a 0 ≡ a
unfolding sum
sum_zero = xor_zero_r

pub zero_sum : (a : ℕ) → sum 0 a ≡ a
unfolding sum
zero_sum a = refl

pub sum_lt : (a b : ℕ) → a < 64 → b < 64 → sum a b < 64
unfolding sum
sum_lt = xor_lt 6

pub sum_low : (a b : ℕ) → sum a b % 64 ≡ sum (a % 64) (b % 64)
unfolding sum
sum_low a b = xor_mod a b 6

-- what is added twice goes away
pub sum_undo : (a b : ℕ) → sum a (sum a b) ≡ b
unfolding sum
sum_undo = xor_undo

-- a sum that is 0 is of one number and itself
pub sum_eq : (a b : ℕ) → sum a b ≡ 0 → a ≡ b
unfolding sum
sum_eq = xor_cancel

pub sum_left_comm : (a b c : ℕ) → sum a (sum b c) ≡ sum b (sum a c)
unfolding sum
sum_left_comm = xor_left_comm

pub sum_four : (a b c d : ℕ) → sum (sum a b) (sum c d) ≡ sum (sum a c) (sum b d)
unfolding sum
sum_four = xor_four

-- ---- x times an element

low_bits_sum : (a b : ℕ) → sum a b % 32 * 2 ≡ sum (a % 32 * 2) (b % 32 * 2)
unfolding sum
low_bits_sum a b = ap (λ (x : ℕ). x * 2) (xor_mod a b 5) ∙ sym (xor_double (a % 32) (b % 32))

bit_treble : (a b : ℕ) → sum (a % 2 * 3) (b % 2 * 3) ≡ sum (a % 2) (b % 2) * 3
unfolding sum
bit_treble a b =
    bit_cases (λ (x : ℕ). bit_xor (x * 3) (b % 2 * 3) ≡ bit_xor x (b % 2) * 3) refl
    (bit_cases (λ (y : ℕ). bit_xor 3 (y * 3) ≡ bit_xor 1 y * 3) refl refl b) a

high_bit_sum : (a b : ℕ) → sum a b / 32 % 2 * 3 ≡ sum (a / 32 % 2 * 3) (b / 32 % 2 * 3)
unfolding sum
high_bit_sum a b =
    ap (λ (x : ℕ). x % 2 * 3) (xor_shr a b 5) ∙ ap (λ (x : ℕ). x * 3) (xor_mod (a / 32) (b / 32) 1)
    ∙ sym (bit_treble (a / 32) (b / 32))

pub times_x_sum : (a b : ℕ) → times_x (sum a b) ≡ sum (times_x a) (times_x b)
unfolding times_x
times_x_sum a b =
    ap₂ sum (low_bits_sum a b) (high_bit_sum a b) ∙ sum_four (a % 32 * 2) (b % 32 * 2) (a / 32 % 2 * 3) (b / 32 % 2 * 3)

times_x_zero : times_x 0 ≡ 0
unfolding times_x sum
times_x_zero = refl

pub times_x_lt : (a : ℕ) → times_x a < 64
unfolding times_x
times_x_lt a = sum_lt (a % 32 * 2) (a / 32 % 2 * 3) (omega arith) (omega arith)

-- ---- the product, from its recursion

bit_sum : (b a c : ℕ) → b % 2 * sum a c ≡ sum (b % 2 * a) (b % 2 * c)
bit_sum b a c =
    bit_cases (λ (x : ℕ). x * sum a c ≡ sum (x * a) (x * c)) (simp zero-mul (sym (zero_sum 0))) (simp one-mul) b

bit_times_x : (b a : ℕ) → b % 2 * times_x a ≡ times_x (b % 2 * a)
bit_times_x b a = bit_cases (λ (x : ℕ). x * times_x a ≡ times_x (x * a)) (simp zero-mul (sym times_x_zero)) (simp one-mul) b

shifted_sum : (n a c b : ℕ) → shifted n (sum a c) b ≡ sum (shifted n a b) (shifted n c b)
unfolding shifted
shifted_sum zero a c b = sym (zero_sum 0)
shifted_sum (suc n) a c b =
    ap₂ sum (bit_sum b a c) (ap (λ (x : ℕ). shifted n x (b / 2)) (times_x_sum a c) ∙ shifted_sum n (times_x a) (times_x c) (b / 2))
    ∙ sum_four (b % 2 * a) (b % 2 * c) (shifted n (times_x a) (b / 2)) (shifted n (times_x c) (b / 2))

-- x first or last is the same
pub shifted_times_x : (n a b : ℕ) → shifted n (times_x a) b ≡ times_x (shifted n a b)
unfolding shifted
shifted_times_x zero a b = sym times_x_zero
shifted_times_x (suc n) a b =
    ap₂ sum (bit_times_x b a) (shifted_times_x n (times_x a) (b / 2)) ∙ sym (times_x_sum (b % 2 * a) (shifted n (times_x a) (b / 2)))

shifted_zero : (n b : ℕ) → shifted n 0 b ≡ 0
shifted_zero n b = ap (λ (x : ℕ). shifted n x b) (sym (sum_self 0)) ∙ shifted_sum n 0 0 b ∙ sum_self (shifted n 0 b)

bit_shifted : (n b a c : ℕ) → shifted n (b % 2 * a) c ≡ b % 2 * shifted n a c
bit_shifted n b a c =
    bit_cases (λ (x : ℕ). shifted n (x * a) c ≡ x * shifted n a c) (simp zero-mul (shifted_zero n c)) (simp one-mul) b

-- (ab)c is (ac)b
shifted_swap : (n m a b c : ℕ) → shifted n (shifted m a b) c ≡ shifted m (shifted n a c) b
unfolding shifted
shifted_swap n zero a b c = shifted_zero n c
shifted_swap n (suc m) a b c =
    shifted_sum n (b % 2 * a) (shifted m (times_x a) (b / 2)) c
    ∙ ap₂ sum (bit_shifted n b a c)
    (shifted_swap n m (times_x a) (b / 2) c ∙ ap (λ (x : ℕ). shifted m x (b / 2)) (shifted_times_x n a c))

shifted_lt : (n a b : ℕ) → a < 64 → shifted n a b < 64
unfolding shifted
shifted_lt zero a b h = omega arith
shifted_lt (suc n) a b h =
    sum_lt (b % 2 * a) (shifted n (times_x a) (b / 2)) (bit_cases (λ (x : ℕ). x * a < 64) (omega arith) (omega arith) b)
    (shifted_lt n (times_x a) (b / 2) (times_x_lt a))

shifted_low : (n a b : ℕ) → shifted n a (b % 2 ^ n) ≡ shifted n a b
unfolding shifted
shifted_low zero a b = refl
shifted_low (suc n) a b =
    ap₂ (λ (x y : ℕ). sum (x * a) (shifted n (times_x a) y))
    (subst (λ (k : ℕ). b % 2 ^ k % 2 ≡ b % 2) (add-one n) (mod-mod-pow b n 1))
    (subst (λ (k : ℕ). b % 2 ^ k / 2 ≡ b / 2 % 2 ^ n) (add-one n) (field b n 1))
    ∙ ap (sum (b % 2 * a)) (shifted_low n (times_x a) (b / 2))

pub product_lt : (a b : ℕ) → product a b < 64
unfolding product
product_lt a b = shifted_lt 6 (a % 64) b (omega arith)

-- of each operand the low six bits count
pub product_low : (a b : ℕ) → product (a % 64) b ≡ product a b
unfolding product
product_low a b = let e : a % 64 % 64 ≡ a % 64 = mod-eq_of_lt (omega arith) in ap (λ (x : ℕ). shifted 6 x b) e

pub product_low_right : (a b : ℕ) → product a (b % 64) ≡ product a b
unfolding product
product_low_right a b = shifted_low 6 (a % 64) b

pub sum_product : (a b c : ℕ) → product (sum a b) c ≡ sum (product a c) (product b c)
unfolding product
sum_product a b c = ap (λ (x : ℕ). shifted 6 x c) (sum_low a b) ∙ shifted_sum 6 (a % 64) (b % 64) c

product_swap : (a b c : ℕ) → product (product a b) c ≡ product (product a c) b
unfolding product
product_swap a b c =
    ap (λ (x : ℕ). shifted 6 x c) (mod-eq_of_lt (product_lt a b)) ∙ shifted_swap 6 6 (a % 64) b c
    ∙ sym (ap (λ (x : ℕ). shifted 6 x b) (mod-eq_of_lt (product_lt a c)))

-- computed at 64 numbers
one_test : T (each 64 (λ b. eqb (product 1 b) b))
unfolding product shifted times_x sum
one_test = tt

pub one_product : (a : ℕ) → a < 64 → product 1 a ≡ a
one_product a h = eqb→eq (product 1 a) a (each_at 64 (λ b. eqb (product 1 b) b) one_test a h)

pub one_product_low : (a : ℕ) → product 1 a ≡ a % 64
one_product_low a = sym (product_low_right 1 a) ∙ one_product (a % 64) (omega arith)

-- (ab)c is (ac)b, at a = 1
pub product_comm : (a b : ℕ) → product a b ≡ product b a
product_comm a b =
    sym (product_low a b) ∙ ap (λ (x : ℕ). product x b) (sym (one_product_low a)) ∙ product_swap 1 a b
    ∙ ap (λ (x : ℕ). product x a) (one_product_low b) ∙ product_low b a

pub product_assoc : (a b c : ℕ) → product (product a b) c ≡ product a (product b c)
product_assoc a b c = ap (λ (x : ℕ). product x c) (product_comm a b) ∙ product_swap b a c ∙ product_comm (product b c) a

pub product_one : (a : ℕ) → a < 64 → product a 1 ≡ a
product_one a h = product_comm a 1 ∙ one_product a h

pub product_sum : (a b c : ℕ) → product a (sum b c) ≡ sum (product a b) (product a c)
product_sum a b c = product_comm a (sum b c) ∙ sum_product b c a ∙ ap₂ sum (product_comm b a) (product_comm c a)

pub zero_product : (a : ℕ) → product 0 a ≡ 0
zero_product a = ap (λ (x : ℕ). product x a) (sym (sum_self 0)) ∙ sum_product 0 0 a ∙ sum_self (product 0 a)

pub product_zero : (a : ℕ) → product a 0 ≡ 0
product_zero a = product_comm a 0 ∙ zero_product a

pub product_left_comm : (a b c : ℕ) → product a (product b c) ≡ product b (product a c)
product_left_comm a b c = sym (product_assoc a b c) ∙ ap (λ (x : ℕ). product x c) (product_comm a b) ∙ product_assoc b a c

-- an identity of sums and products, both sides multiplied out and sorted: `simp ring`, over plain variables
pub ruleset ring = (sum_assoc, sum_left_comm, sum_comm, sum_self, sum_undo, sum_zero, zero_sum, product_sum, sum_product, product_assoc, product_left_comm, product_comm, zero_product, product_zero)

-- ---- powers

pub power_lt : (a n : ℕ) → power a n < 64
unfolding power
power_lt a zero = omega arith
power_lt a (suc n) = product_lt a (power a n)

pub power_add : (a m n : ℕ) → power a (m + n) ≡ product (power a m) (power a n)
unfolding power
power_add a zero n = ap (power a) (zero-add n) ∙ sym (one_product (power a n) (power_lt a n))
power_add a (suc m) n =
    ap (power a) (suc-add m n) ∙ ap (product a) (power_add a m n) ∙ sym (product_assoc a (power a m) (power a n))

pub power_low : (a n : ℕ) → power (a % 64) n ≡ power a n
unfolding power
power_low a zero = refl
power_low a (suc n) = product_low a (power (a % 64) n) ∙ ap (product a) (power_low a n)

pub one_power : (n : ℕ) → power 1 n ≡ 1
unfolding power
one_power zero = refl
one_power (suc n) = ap (product 1) (one_power n) ∙ one_product 1 (omega arith)

pub power_mul : (a m n : ℕ) → power a (m * n) ≡ power (power a n) m
unfolding power
power_mul a zero n = ap (power a) (zero-mul n)
power_mul a (suc m) n =
    ap (power a) (suc-mul m n ∙ add_comm (m * n) n) ∙ power_add a n (m * n) ∙ ap (product (power a n)) (power_mul a m n)

pub power_swap : (a m n : ℕ) → power (power a m) n ≡ power (power a n) m
power_swap a m n = sym (power_mul a n m) ∙ ap (power a) (mul_comm n m) ∙ power_mul a m n

-- ---- the powers of α, each x times the one before

α_step : (a : ℕ) → product α a ≡ times_x (a % 64)
unfolding product shifted
α_step a = product_comm α a ∙ simp (zero-mul, one-mul, zero_sum, sum_zero)

-- n steps from u
walk : ℕ → ℕ → ℕ
walk zero u = u
walk (suc n) u = times_x (walk n u)

α_walk : (n : ℕ) → power α n ≡ walk n 1
unfolding power walk
α_walk zero = refl
α_walk (suc n) = α_step (power α n) ∙ ap times_x (mod-eq_of_lt (power_lt α n) ∙ α_walk n)

-- how many steps of at most n it is from u to v
steps : ℕ → ℕ → ℕ → ℕ
steps zero u v = 0
steps (suc n) u v = cond (eqb u v) 0 (suc (steps n (times_x u) v))

-- computed: each of the 63 elements that are not 0 is some power of α before the 63rd
log_test : T (each 63 (λ a. both (ltb (steps 63 1 (suc a)) 63) (eqb (walk (steps 63 1 (suc a)) 1) (suc a))))
unfolding walk steps times_x sum
log_test = tt

-- computed: the 63rd is 1, and none before it but the first
period_test : walk 63 1 ≡ 1
unfolding walk times_x sum
period_test = refl

order_test : T (each 62 (λ d. not (eqb (walk (suc d) 1) 1)))
unfolding walk times_x sum
order_test = tt

pub power_period : power α 63 ≡ 1
power_period = α_walk 63 ∙ period_test

pub power_order : (d : ℕ) → 0 < d → d < 63 → power α d ≡ 1 → ⊥
power_order zero p h e = omega arith
power_order (suc d) p h e =
    T_not (eqb (walk (suc d) 1) 1) (each_at 62 (λ d. not (eqb (walk (suc d) 1) 1)) order_test d (omega arith))
    (eq→eqb (walk (suc d) 1) 1 (sym (α_walk (suc d)) ∙ e))

-- each element that is not 0 has a logarithm
abbrev pub HasLog : ℕ → Type 0
HasLog v = (n : ℕ) × Log v n

pub has_log : (v : ℕ) → 0 < v → v < 64 → HasLog v
has_log zero p h = absurd (omega arith)
has_log (suc a) p h =
    let n : ℕ = steps 63 1 (suc a) in
    let t : T (both (ltb n 63) (eqb (walk n 1) (suc a))) =
    each_at 63 (λ a. both (ltb (steps 63 1 (suc a)) 63) (eqb (walk (steps 63 1 (suc a)) 1) (suc a))) log_test a (omega arith)
    in (
      n,
      record {
        below = ltb→lt n 63 (both_left (ltb n 63) (eqb (walk n 1) (suc a)) t);
        is = α_walk n ∙ eqb→eq (walk n 1) (suc a) (both_right (ltb n 63) (eqb (walk n 1) (suc a)) t);
      },
    )

-- exponents of α count modulo 63
pub power_mod : (n : ℕ) → power α (n % 63) ≡ power α n
power_mod n =
    sym (one_product (power α (n % 63)) (power_lt α (n % 63)))
    ∙ ap (λ (t : ℕ). product t (power α (n % 63)))
    (sym (power_mul α (n / 63) 63 ∙ ap (λ (t : ℕ). power t (n / 63)) power_period ∙ one_power (n / 63)))
    ∙ sym (power_add α (n / 63 * 63) (n % 63)) ∙ ap (power α) (div-add-mod' n 63)

-- ---- inverses: what is not 0 has 1 for its 63rd power

pub power_63 : (a : ℕ) → 0 < a → a < 64 → power a 63 ≡ 1
power_63 a p h =
    let l = has_log a p h in
    let n : ℕ = l.0 in
    ap (λ (x : ℕ). power x 63) (sym l.1.is) ∙ power_swap α n 63 ∙ ap (λ (x : ℕ). power x n) power_period ∙ one_power n

pub inverse_lt : (a : ℕ) → inverse a < 64
unfolding inverse
inverse_lt a = power_lt a 62

pub inverse_low : (a : ℕ) → inverse a ≡ inverse (a % 64)
unfolding inverse
inverse_low a = sym (power_low a 62)

pub inverse_right : (a : ℕ) → 0 < a → a < 64 → product a (inverse a) ≡ 1
unfolding inverse power
inverse_right a p h = power_63 a p h

-- a product that is 0 has a factor that is 0
pub product_cancel : (a b : ℕ) → a < 64 → 0 < b → b < 64 → product a b ≡ 0 → a ≡ 0
product_cancel a b ha pb hb e =
    sym (product_one a ha) ∙ ap (product a) (sym (inverse_right b pb hb)) ∙ sym (product_assoc a b (inverse b))
    ∙ ap (λ (x : ℕ). product x (inverse b)) e ∙ zero_product (inverse b)

pub product_pos : (a b : ℕ) → 0 < a → a < 64 → 0 < b → b < 64 → 0 < product a b
product_pos a b pa ha pb hb = pos_of_not_zero (product a b) (λ e. not_zero_of_pos pa (product_cancel a b ha pb hb e))

pub product_cancel_left : (a b c : ℕ) → 0 < a → a < 64 → b < 64 → c < 64 → product a b ≡ product a c → b ≡ c
product_cancel_left a b c pa ha hb hc e =
    sum_eq b c
    (product_cancel (sum b c) a (sum_lt b c hb hc) pa ha
    (product_comm (sum b c) a ∙ product_sum a b c ∙ ap (λ (x : ℕ). sum x (product a c)) e ∙ sum_self (product a c)))

pub power_pos : (a n : ℕ) → 0 < a → a < 64 → 0 < power a n
unfolding power
power_pos a zero p h = omega arith
power_pos a (suc n) p h = product_pos a (power a n) p h (power_pos a n p h) (power_lt a n)

-- the first 63 powers of α are distinct
pub power_distinct : (m n : ℕ) → m < n → n < 63 → power α m ≡ power α n → ⊥
power_distinct m n h k e =
    let i : n ≡ m + (n - m) = omega arith in
    power_order (n - m) (omega arith) (omega arith)
    (sym
    (product_cancel_left (power α m) 1 (power α (n - m)) (power_pos α m (omega arith) (omega arith)) (power_lt α m) (omega arith) (power_lt α (n - m))
    (product_one (power α m) (power_lt α m) ∙ e ∙ ap (power α) i ∙ power_add α m (n - m))))

-- ---- division

-- an element that is not 0 may be divided by
pub may_divide : (v : ℕ) → v < 64 → (v ≡ 0 → ⊥) → 0 < v % 64
may_divide v h d = let p : 0 < v = pos_of_not_zero v d in omega arith

-- u times the inverse of v is the quotient of u by v
pub quotient_by : (u v : ℕ) → u < 64 → 0 < v → v < 64 → Quotient u v (product u (inverse v))
quotient_by u v hu p hv =
    record {
      divisor = p;
      element = product_lt u (inverse v);
      exact = product_left_comm v u (inverse v) ∙ ap (product u) (inverse_right v p hv) ∙ product_one u hu;
    }
