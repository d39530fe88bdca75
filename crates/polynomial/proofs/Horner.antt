-- The value at x of coefficients from the highest down: as that of a polynomial, as a sum over addresses, of two parts, and by Horner's rule.
use mathlib.Core.Path.{◌≡◌, refl, sym, ap, ap₂, ◌∙◌}
use mathlib.Core.List.{List, [], ◌∷◌, ◌++◌, reverse, reverse-cons}
use Prim.Native.Nat.{ℕ, zero, suc, ◌-◌, ◌%◌, ◌<◌}
use native.Mathlib.Omega.{arith}
use lib.ListN.{length, get_or, replicate, length-append, length-reverse}
use Rattle.numbers.specs.Total.{total}
use Rattle.numbers.proofs.Totals.{total_same}
use Rattle.field.specs.Field.{sum, product, power}
use Rattle.field.proofs.Laws
use Rattle.field.proofs.Totals.{total_scaled, total_front}
use Rattle.polynomial.specs.Polynomial.{poly_at, value_at, Elements}

pub value_lt : (x : ℕ) (w : List ℕ) → value_at x w < 64
unfolding value_at
value_lt x [] = omega arith
value_lt x (c ∷ cs) = Laws.sum_lt (product c (power x (length cs))) (value_at x cs) (Laws.product_lt c (power x (length cs))) (value_lt x cs)

-- ---- as that of a polynomial, the lowest coefficient first

one_more : (p c x a v : ℕ) → sum p (product x (sum (product c a) v)) ≡ sum (product c (product x a)) (sum p (product x v))
one_more p c x a v = simp Laws.ring

poly_last : (ps : List ℕ) (c x : ℕ) → c < 64 → poly_at (ps ++ c ∷ []) x ≡ sum (product c (power x (length ps))) (poly_at ps x)
unfolding poly_at power
poly_last [] c x h = ap (sum c) (Laws.product_zero x) ∙ ap (λ (v : ℕ). sum v 0) (sym (Laws.product_one c h))
poly_last (p ∷ ps) c x h =
    ap (λ (v : ℕ). sum p (product x v)) (poly_last ps c x h) ∙ one_more p c x (power x (length ps)) (poly_at ps x)

pub value_backward : (x : ℕ) (w : List ℕ) → Elements w → value_at x w ≡ poly_at (reverse w) x
unfolding value_at poly_at
value_backward x [] h = refl
value_backward x (c ∷ cs) h =
    ap₂ (λ (n v : ℕ). sum (product c (power x n)) v) (sym (length-reverse cs)) (value_backward x cs (λ k. h (suc k)))
    ∙ sym (poly_last (reverse cs) c x (h 0)) ∙ ap (λ (ps : List ℕ). poly_at ps x) (sym (reverse-cons c cs))

-- ---- as a sum over addresses

pub total_empty : (f : ℕ → ℕ) → 0 ≡ total 0 f
unfolding total
total_empty f = refl

pub value_total : (x : ℕ) (w : List ℕ) → value_at x w ≡ total (length w) (λ a. product (get_or w a 0) (power x (length w - 1 - a)))
unfolding value_at
value_total x [] = total_empty (λ a. product 0 (power x (0 - 1 - a)))
value_total x (c ∷ cs) =
    ap₂ (λ (m s : ℕ). sum (product c (power x m)) s) (less_one (length cs))
    (value_total x cs
    ∙ total_same (length cs) (λ a. product (get_or cs a 0) (power x (length cs - 1 - a))) (λ a. product (get_or cs a 0) (power x (suc (length cs) - 1 - suc a)))
    (λ a h. ap (λ (m : ℕ). product (get_or cs a 0) (power x m)) (omega arith)))
    ∙ sym (total_front (length cs) (λ a. product (get_or (c ∷ cs) a 0) (power x (suc (length cs) - 1 - a))))
  where
    less_one : (n : ℕ) → n ≡ suc n - 1 - 0
    less_one n = omega arith

-- ---- of two parts, and of zeros

append_step : (c a w s t : ℕ) → sum (product c (product w a)) (sum (product s a) t) ≡ sum (product (sum (product c w) s) a) t
append_step c a w s t = simp Laws.ring

pub value_append : (x : ℕ) (us vs : List ℕ) → value_at x (us ++ vs) ≡ sum (product (value_at x us) (power x (length vs))) (value_at x vs)
unfolding value_at
value_append x [] vs = sym (ap (λ (t : ℕ). sum t (value_at x vs)) (Laws.zero_product (power x (length vs))) ∙ Laws.zero_sum (value_at x vs))
value_append x (u ∷ us) vs =
    ap₂ sum (ap (product u) (ap (power x) (length-append us vs) ∙ Laws.power_add x (length us) (length vs))) (value_append x us vs)
    ∙ append_step u (power x (length vs)) (power x (length us)) (value_at x us) (value_at x vs)

pub value_zeros : (x n : ℕ) → value_at x (replicate n 0) ≡ 0
unfolding value_at
value_zeros x zero = refl
value_zeros x (suc n) = ap₂ sum (Laws.zero_product (power x (length (replicate n 0)))) (value_zeros x n) ∙ Laws.sum_self 0

-- ---- by Horner's rule, which takes as many products as there are characters: the code goes by it, and the prover where it computes a value

-- over the first n characters
unfoldable pub horner : ℕ → List ℕ → ℕ → ℕ
horner x w zero = 0
horner x w (suc n) = sum (product (horner x w n) x) (get_or w n 0 % 64)

pub horner_total : (x : ℕ) (w : List ℕ) (n : ℕ) → horner x w n ≡ total n (λ a. product (get_or w a 0) (power x (n - 1 - a)))
unfolding horner total power sum
horner_total x w zero = refl
horner_total x w (suc n) =
    ap₂ sum
    (Laws.product_comm (horner x w n) x ∙ ap (product x) (horner_total x w n)
    ∙ sym (total_scaled n x (λ a. product (get_or w a 0) (power x (n - 1 - a))))
    ∙ total_same n (λ a. product x (product (get_or w a 0) (power x (n - 1 - a)))) (λ a. product (get_or w a 0) (power x (suc n - 1 - a)))
    (λ a h. Laws.product_left_comm x (get_or w a 0) (power x (n - 1 - a)) ∙ ap (λ (m : ℕ). product (get_or w a 0) (power x m)) (higher n a h)))
    (sym (ap (λ (m : ℕ). product (get_or w n 0) (power x m)) (last n) ∙ Laws.product_comm (get_or w n 0) 1 ∙ Laws.one_product_low (get_or w n 0)))
  where
    higher : (n a : ℕ) → a < n → suc (n - 1 - a) ≡ suc n - 1 - a
    higher n a h = omega arith

    last : (n : ℕ) → suc n - 1 - n ≡ 0
    last n = omega arith

-- over all of them
pub horner_value : (x : ℕ) (w : List ℕ) → horner x w (length w) ≡ value_at x w
horner_value x w = horner_total x w (length w) ∙ sym (value_total x w)
