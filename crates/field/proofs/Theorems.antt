-- The field's theorems, in the paper's order: the powers of α, the quotient, that each entry point allows one answer, which answer a quotient by 0 has, and
-- what a finger finds in the written table of products.
use mathlib.Core.Path.{◌≡◌, refl, sym, ap, ◌∙◌}
use mathlib.Core.Logic.{⊎_elim}
use mathlib.Core.List.{List, [], ◌∷◌, map}
use Prim.Native.Nat.{ℕ, ◌<◌, ◌≤◌}
use native.Mathlib.Omega.{arith}
use lib.ListN.{get_or}
use Rattle.std.proofs.Common.{Result, Ok, Err}
use Rattle.refusal.specs.declared.Refusal.{Refusal}
use Rattle.refusal.specs.declared.Refusal.TheVariants.{ValueOver, QuotientByZero}
use Rattle.refusal.specs.Promise.{Test}
use Rattle.refusal.proofs.Laws.{one_refusal, refusal_positive, Passed}
use Rattle.refusal.proofs.Ladder.{◌then◌, denied}
use Rattle.refusal.proofs.Theorems.{one_reply}
use Rattle.numbers.proofs.Cases.{same_or_not, le_or_lt}
use Rattle.field.specs.Field.{sum, times_x, shifted, product, α, power, Log, Returns, Quotient}
use Rattle.field.specs.Inside.{looked_up, Products, inverse}
use Rattle.field.specs.Promises.{element_numbers, Operands, operand_tests, division_tests, OneValue, Operates, Sums, Multiplies, Divides}
use Rattle.field.proofs.Laws
use Rattle.field.proofs.Loops.{refused, with_value, by_nothing}

-- the powers of α run 1, 2, 4, 8, 16, 32, 3, 6, 12, 24, 48, 35, ..
pub first_powers : map (power α) (0 ∷ 1 ∷ 2 ∷ 3 ∷ 4 ∷ 5 ∷ 6 ∷ 7 ∷ 8 ∷ 9 ∷ 10 ∷ 11 ∷ []) ≡ 1 ∷ 2 ∷ 4 ∷ 8 ∷ 16 ∷ 32 ∷ 3 ∷ 6 ∷ 12 ∷ 24 ∷ 48 ∷ 35 ∷ []
unfolding power product shifted times_x sum
first_powers = refl

-- and return to 1 first at the power 63
pub returns_at_63 : Returns 63
returns_at_63 = record { here = Laws.power_period; first = Laws.power_order }

-- an element that is not 0 has one logarithm: the first 63 powers are distinct, and are all the elements but 0
pub a_log : (v : ℕ) → 0 < v → v < 64 → (n : ℕ) × Log v n
a_log = Laws.has_log

pub one_log : (v m n : ℕ) → Log v m → Log v n → m ≡ n
one_log v m n p q =
    ⊎_elim (λ e. e)
    (λ (d : m ≡ n → ⊥).
    ⊎_elim (λ (h : m ≤ n). absurd (Laws.power_distinct m n (omega arith) q.below (p.is ∙ sym q.is)))
    (λ (h : n < m). absurd (Laws.power_distinct n m h p.below (q.is ∙ sym p.is))) (le_or_lt m n))
    (same_or_not m n)

-- every two elements of which the second is not 0 have a quotient, and one only
pub a_quotient : (u v : ℕ) → u < 64 → 0 < v → v < 64 → (w : ℕ) × Quotient u v w
a_quotient u v hu p hv = (product u (inverse v), Laws.quotient_by u v hu p hv)

pub one_quotient : (u v w x : ℕ) → v < 64 → Quotient u v w → Quotient u v x → w ≡ x
one_quotient u v w x h p q = Laws.product_cancel_left v w x p.divisor h p.element q.element (p.exact ∙ sym q.exact)

-- ---- any two answers that an entry point allows are equal

-- where the tests hold and the value is determined, so are the numbers
one_operation : (ts : List Test) (Is : ℕ → Type 0) → (Passed ts → (w x : ℕ) → Is w → Is x → w ≡ x) → (a b : List ℕ) → Operates ts Is a → Operates ts Is b → a ≡ b
unfolding Operates
one_operation ts Is one =
    one_reply ts (OneValue Is) 1
    (λ t f g a b. a.alone ∙ ap (λ (w : ℕ). w ∷ []) (one t a.value b.value a.is b.is) ∙ sym b.alone)

pub same_sums : (u v : ℕ) (a b : List ℕ) → Sums u v a → Sums u v b → a ≡ b
same_sums u v = one_operation (operand_tests u v) (λ w. w ≡ sum u v) (λ t w x p q. p ∙ sym q)

pub same_products : (u v : ℕ) (a b : List ℕ) → Multiplies u v a → Multiplies u v b → a ≡ b
same_products u v = one_operation (operand_tests u v) (λ w. w ≡ product u v) (λ t w x p q. p ∙ sym q)

pub same_quotients : (u v : ℕ) (a b : List ℕ) → Divides u v a → Divides u v b → a ≡ b
same_quotients u v = one_operation (division_tests u v) (Quotient u v) (λ t w x p q. one_quotient u v w x (let h : v ≤ 63 = t.0.second in omega arith) p q)

-- and the numbers fix the answer
pub one_element : (r s : Result ℕ Refusal) → element_numbers r ≡ element_numbers s → r ≡ s
one_element (Ok v) (Ok w) e = ap Ok (ap (λ (l : List ℕ). get_or l 1 0) e)
one_element (Ok v) (Err s) e = absurd (refusal_positive s (sym (ap (λ (l : List ℕ). get_or l 0 0) e)))
one_element (Err r) (Ok w) e = absurd (refusal_positive r (ap (λ (l : List ℕ). get_or l 0 0) e))
one_element (Err r) (Err s) e = ap Err (one_refusal r s (ap (λ (l : List ℕ). get_or l 0 0) e))

pub one_sum : (u v : ℕ) (r s : Result ℕ Refusal) → Sums u v (element_numbers r) → Sums u v (element_numbers s) → r ≡ s
one_sum u v r s p q = one_element r s (same_sums u v (element_numbers r) (element_numbers s) p q)

pub one_product : (u v : ℕ) (r s : Result ℕ Refusal) → Multiplies u v (element_numbers r) → Multiplies u v (element_numbers s) → r ≡ s
one_product u v r s p q = one_element r s (same_products u v (element_numbers r) (element_numbers s) p q)

pub one_division : (u v : ℕ) (r s : Result ℕ Refusal) → Divides u v (element_numbers r) → Divides u v (element_numbers s) → r ≡ s
one_division u v r s p q = one_element r s (same_quotients u v (element_numbers r) (element_numbers s) p q)

-- ---- a quotient by 0

-- is refused with 13
pub refused_by_zero : (u : ℕ) → u ≤ 63 → Divides u 0 (element_numbers (Err QuotientByZero))
refused_by_zero u h = refused (division_tests u 0) (Quotient u 0) 1 (record { first = h; second = omega arith } then by_nothing refl)

pub by_zero : (u : ℕ) → u ≤ 63 → (r : Result ℕ Refusal) → Divides u 0 (element_numbers r) → r ≡ Err QuotientByZero
by_zero u h r p = one_division u 0 r (Err QuotientByZero) p (refused_by_zero u h)

-- after 2: where an operand is over 63, the answer is 2 whatever the divisor
pub operands_first : (u v : ℕ) → (Operands u v → ⊥) → (r : Result ℕ Refusal) → Divides u v (element_numbers r) → r ≡ Err ValueOver
operands_first u v n r p = one_division u v r (Err ValueOver) p (refused (division_tests u v) (Quotient u v) 0 (denied n))

pub seventy_by_zero : (r : Result ℕ Refusal) → Divides 70 0 (element_numbers r) → r ≡ Err ValueOver
seventy_by_zero = operands_first 70 0 (λ o. let h : 70 ≤ 63 = o.first in omega arith)

-- and by nothing but 0: of two elements of which the second is not 0 the quotient is given
pub by_others : (u v : ℕ) → u ≤ 63 → v ≤ 63 → 0 < v → (r : Result ℕ Refusal) → Divides u v (element_numbers r) → (w : ℕ) × (r ≡ Ok w) × Quotient u v w
by_others u v hu hv p r d =
    let q = a_quotient u v (omega arith) p (omega arith) in
    (q.0, one_division u v r (Ok q.0) d (with_value (division_tests u v) (Quotient u v) q.0 (record { first = hu; second = hv } then p then tt) q.1), q.1)

-- ---- the written table

-- any two tables of products have the same entries
pub one_table : (s t : List (List ℕ)) → Products s → Products t → (u v : ℕ) → u < 64 → v < 64 → looked_up s u v ≡ looked_up t u v
one_table s t p q u v hu hv = p.entry u v hu hv ∙ sym (q.entry u v hu hv)

module _ (rows : List (List ℕ)) (p : Products rows) where
  -- every answer to a product of two elements is what stands in the row of the one and the column of the other
  pub product_there : (u v : ℕ) → u ≤ 63 → v ≤ 63 → (r : Result ℕ Refusal) → Multiplies u v (element_numbers r) → r ≡ Ok (looked_up rows u v)
  product_there u v hu hv r m =
      one_product u v r (Ok (looked_up rows u v)) m
      (with_value (operand_tests u v) (λ w. w ≡ product u v) (looked_up rows u v) (record { first = hu; second = hv } then tt) (p.entry u v (omega arith) (omega arith)))

  -- whichever of the two is the row
  pub either_way : (u v : ℕ) → u < 64 → v < 64 → looked_up rows u v ≡ looked_up rows v u
  either_way u v hu hv = p.entry u v hu hv ∙ Laws.product_comm u v ∙ sym (p.entry v u hv hu)

  -- 0 has a row like every other element, of zeros
  pub row_of_zero : (v : ℕ) → v < 64 → looked_up rows 0 v ≡ 0
  row_of_zero v h = p.entry 0 v (omega arith) h ∙ Laws.zero_product v

  -- the row of v has u in the column of the quotient of u by v, and in no other
  pub quotient_there : (u v w : ℕ) → v < 64 → Quotient u v w → looked_up rows v w ≡ u
  quotient_there u v w h q = p.entry v w h q.element ∙ q.exact

  pub there_quotient : (u v w : ℕ) → 0 < v → v < 64 → w < 64 → looked_up rows v w ≡ u → Quotient u v w
  there_quotient u v w pos hv hw e = record { divisor = pos; element = hw; exact = sym (p.entry v w hv hw) ∙ e }
