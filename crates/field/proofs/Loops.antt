-- What the field's code does over plain variables: an entry of the table of inverses, a division, and a way out at a time.
use mathlib.Core.Path.{◌≡◌, refl, sym, ap, ◌∙◌, subst}
use mathlib.Core.Bool.{Bool, true, cond}
use mathlib.Core.List.{List, [], ◌∷◌}
use Prim.Native.Nat.{ℕ, ◌%◌, ◌<◌, ◌≤◌}
use native.Mathlib.Nat.{mod-eq_of_lt}
use native.Mathlib.Omega.{arith}
use lib.Dec.{T, eqb, eqb→eq, ltb, ltb→lt}
use lib.ListN.{get_or}
use borrow.Author.Tests.{ne_eqb}
use Rattle.numbers.proofs.Cases.{pos_of_not_zero, not_zero_of_pos}
use Rattle.numbers.proofs.Entries.{full, full_at, unless}
use Rattle.numbers.proofs.Range.{both, both_left, both_right}
use Rattle.refusal.specs.Promise.{Test}
use Rattle.refusal.proofs.Ladder.{Yes, No, Met, FailsAt, answer_at, declines, replies}
use Rattle.field.specs.Field.{product, Quotient}
use Rattle.field.specs.Inside.{inverse}
use Rattle.field.specs.Promises.{Operands, OneValue, Operates}
use Rattle.field.proofs.Laws

-- ---- the inverse, by its table

-- an entry at k that is computed: v is an element, and k times v is 1
inverse_entry : (u k v : ℕ) → u % 64 ≡ k → T (both (eqb (product k v) 1) (ltb v 64)) → v ≡ inverse u
inverse_entry u k v q t =
    Laws.product_cancel_left k v (inverse k) (pos_of_not_zero k some) small (ltb→lt v 64 (both_right (eqb (product k v) 1) (ltb v 64) t)) (Laws.inverse_lt k)
    (one ∙ sym (Laws.inverse_right k (pos_of_not_zero k some) small))
    ∙ ap inverse (sym q) ∙ sym (Laws.inverse_low u)
  where
    one : product k v ≡ 1
    one = eqb→eq (product k v) 1 (both_left (eqb (product k v) 1) (ltb v 64) t)

    small : k < 64
    small = omega arith

    some : k ≡ 0 → ⊥
    some z = let e : product k v ≡ 0 = ap (λ (x : ℕ). product x v) z ∙ Laws.zero_product v in omega (arith, one)

-- what stands for k, unless that is 0
abbrev pub right_inverse : ℕ → ℕ → Bool
right_inverse k v = cond (eqb k 0) true (both (eqb (product k v) 1) (ltb v 64))

-- the rule, for a table that passes the test at its 64 entries
pub inverse_there : (vs : List ℕ) → T (full 64 right_inverse vs) → (u : ℕ) → 0 < u % 64 → get_or vs (u % 64) 0 ≡ inverse u
inverse_there vs t u p =
    let k : ℕ = u % 64 in
    let v : ℕ = get_or vs k 0 in
    inverse_entry u k v refl
    (unless (eqb k 0) true (both (eqb (product k v) 1) (ltb v 64)) (ne_eqb k 0 (not_zero_of_pos p)) (full_at 64 right_inverse 0 vs t k (omega arith)))

-- ---- the division: of each operand the low six bits count

pub quotient_over : (u v i w : ℕ) → 0 < v % 64 → i ≡ inverse v → w ≡ product u i → Quotient (u % 64) (v % 64) w
quotient_over u v i w p e f = subst (Quotient (u % 64) (v % 64)) (sym (f ∙ ap (product u) (e ∙ Laws.inverse_low v) ∙ sym (Laws.product_low u (inverse (v % 64))))) (Laws.quotient_by (u % 64) (v % 64) (omega arith) p (omega arith))

-- ---- the ways out of an entry point

module _ (ts : List Test) (Is : ℕ → Type 0) where
  pub refused : (n : ℕ) → FailsAt n ts → Operates ts Is (answer_at n ts ∷ 0 ∷ [])
  unfolding Operates
  refused = declines (OneValue Is) 1 ts

  pub with_value : (w : ℕ) → Met ts → Is w → Operates ts Is (0 ∷ w ∷ [])
  unfolding Operates
  with_value w m i = replies (OneValue Is) 1 ts (w ∷ []) m (record { value = w; alone = refl; is = i })

-- ---- a division, both operands being elements

module _ (u v : ℕ) (elements : Yes (Operands u v)) where
  low_first : u % 64 ≡ u
  low_first = let h : u ≤ 63 = elements.is.first in mod-eq_of_lt (omega arith)

  low_second : v % 64 ≡ v
  low_second = let h : v ≤ 63 = elements.is.second in mod-eq_of_lt (omega arith)

  pub not_nothing : (v ≡ 0 → ⊥) → 0 < v % 64
  not_nothing = let h : v ≤ 63 = elements.is.second in Laws.may_divide v (omega arith)

  -- as the inner division gives it
  pub by_low_bits : (w : ℕ) → Quotient (u % 64) (v % 64) w → Quotient u v w
  by_low_bits w q = subst (λ (x : ℕ). Quotient x v w) low_first (subst (λ (y : ℕ). Quotient (u % 64) y w) low_second q)

pub by_nothing : {v : ℕ} → v ≡ 0 → No (0 < v)
by_nothing z = record { not = λ p. omega arith }

pub by_something : {v : ℕ} → (v ≡ 0 → ⊥) → Yes (0 < v)
by_something {v} d = record { is = pos_of_not_zero v d }
