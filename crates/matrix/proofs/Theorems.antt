-- The theorem of the matrix-solving program: any two results that its promise allows are equal.
use mathlib.Core.Path.{◌≡◌, refl, sym, ap, ap₂, ◌∙◌, subst}
use mathlib.Core.Logic.{⊎_elim}
use mathlib.Core.List.{List}
use Prim.Native.Nat.{ℕ, ◌<◌, ◌≤◌}
use native.Mathlib.Nat.{eq-or-lt_of_le}
use lib.ListN.{get_or}
use Rattle.std.specs.Prelude.{Option, Some, None}
use lib.Seq.{ext_get_or}
use Rattle.field.specs.Field.{sum}
use Rattle.field.proofs.Laws
use Rattle.matrix.specs.System.{at, Null, entry, Solution, Solves}
use Rattle.matrix.proofs.Dots.{dot_sum}

-- two solutions differ by numbers that make each row 0 and are 0 from number n on, and a regular system has only zeros for those
one_column : (n : ℕ) (m : List (List ℕ)) (r s : List ℕ) → Solution n m r → Solution n m s → (k : ℕ) → get_or r k 0 ≡ get_or s k 0
one_column n m r s p q k = Laws.sum_eq (entry r k) (entry s k) (p.regular apart small past null k)
  where
    apart : ℕ → ℕ
    apart k = sum (entry r k) (entry s k)

    small : (k : ℕ) → apart k < 64
    small k = Laws.sum_lt (entry r k) (entry s k) (p.small k) (q.small k)

    past : (k : ℕ) → n ≤ k → apart k ≡ 0
    past k h =
        ⊎_elim (λ (e : n ≡ k). subst (λ (j : ℕ). apart j ≡ 0) e (ap₂ sum p.top q.top ∙ Laws.sum_self 1))
        (λ (l : n < k). ap₂ sum (p.past k l) (q.past k l) ∙ Laws.sum_self 0) (eq-or-lt_of_le h)

    null : Null n m apart
    null i l = dot_sum n (at m i) (entry r) (entry s) ∙ ap₂ sum (p.null i l) (q.null i l) ∙ Laws.sum_self 0

pub one_solution : (n : ℕ) (m : List (List ℕ)) (r s : Option (List ℕ)) → Solves n m r → Solves n m s → r ≡ s
one_solution n m (Some r) (Some s) p q =
    let x = p.found r refl in
    let y = q.found s refl in
    ap Some (ext_get_or 0 r s (x.long ∙ sym y.long) (λ k h. one_column n m r s x y k))
one_solution n m (Some r) None p q = absurd (q.singular refl (p.found r refl).regular)
one_solution n m None (Some s) p q = absurd (p.singular refl (q.found s refl).regular)
one_solution n m None None p q = refl
