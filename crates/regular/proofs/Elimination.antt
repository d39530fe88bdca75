-- A symmetric matrix with pivots that are not 0 combines only zeros to 0; so sums whose six windows are such a matrix are those of no errors.
use mathlib.Core.Path.{◌≡◌, sym, ap, ap₂, ◌∙◌}
use mathlib.Core.List.{List}
use Prim.Native.Nat.{ℕ, zero, suc, ◌+◌, ◌<◌}
use native.Mathlib.Omega.{arith}
use lib.ListN.{get_or}
use Rattle.numbers.proofs.Cases.{pos_of_not_zero}
use Rattle.numbers.specs.Total.{total}
use Rattle.field.specs.Field.{sum, product}
use Rattle.field.proofs.Laws
use Rattle.numbers.proofs.Totals.{total_same, total_none}
use Rattle.field.proofs.Totals.{total_sum, total_scaled, total_front}
use Rattle.mender.specs.Mender.{Fits}
use Rattle.mender.specs.Inside.{mixed}
use Rattle.mender.proofs.Fitting.{some_kernel}
use Rattle.regular.specs.Pivots.{reduced, Pivots}

-- entries that are elements, the same on both sides of the diagonal
pub record Symmetric (m : ℕ → ℕ → ℕ) : Type 0 where
  pub small : (i j : ℕ) → m i j < 64
  pub same : (i j : ℕ) → m i j ≡ m j i

reduced_symmetric : (m : ℕ → ℕ → ℕ) → Symmetric m → Symmetric (reduced m)
reduced_symmetric m h =
    record {
      small = λ i j. Laws.sum_lt _ _ (Laws.product_lt (m 0 0) (m (suc i) (suc j))) (Laws.product_lt (m 0 (suc i)) (m 0 (suc j)));
      same = λ i j.
          ap₂ sum (ap (product (m 0 0)) (h.same (suc i) (suc j))) (Laws.product_comm (m 0 (suc i)) (m 0 (suc j)));
    }

-- q is combined to 0 by each of n rows
pub record Kernel (n : ℕ) (m : ℕ → ℕ → ℕ) (q : ℕ → ℕ) : Type 0 where
  pub row : (i : ℕ) → i < n → total n (λ j. product (m i j) (q j)) ≡ 0

-- one entry of a row of what a step leaves, times its coefficient
entry : (d x b c q : ℕ) → product (sum (product d x) (product b c)) q ≡ sum (product d (product x q)) (product b (product c q))
entry d x b c q =
    Laws.sum_product (product d x) (product b c) q ∙ ap₂ sum (Laws.product_assoc d x q) (Laws.product_assoc b c q)

module _ (n : ℕ) (m : ℕ → ℕ → ℕ) (q : ℕ → ℕ) (s : Symmetric m) (k : Kernel (suc n) m q) where
  beside : ℕ
  beside = total n (λ j. product (m 0 (suc j)) (q (suc j)))

  first-row : product (m 0 0) (q 0) ≡ beside
  unfolding beside
  first-row =
      Laws.sum_eq (product (m 0 0) (q 0)) (total n (λ j. product (m 0 (suc j)) (q (suc j))))
      (sym (total_front n (λ j. product (m 0 j) (q j))) ∙ k.row 0 (omega arith))

  other_row : (i : ℕ) → i < n → product (m 0 (suc i)) (q 0) ≡ total n (λ j. product (m (suc i) (suc j)) (q (suc j)))
  other_row i l =
      ap (λ (x : ℕ). product x (q 0)) (s.same 0 (suc i))
      ∙ Laws.sum_eq (product (m (suc i) 0) (q 0)) (total n (λ j. product (m (suc i) (suc j)) (q (suc j))))
      (sym (total_front n (λ j. product (m (suc i) j) (q j))) ∙ k.row (suc i) (omega arith))

  pub reduced_kernel : Kernel n (reduced m) (λ j. q (suc j))
  unfolding beside
  reduced_kernel =
      record {
        row = λ i l.
            total_same n (λ j. product (reduced m i j) (q (suc j)))
            (λ j. sum (product (m 0 0) (product (m (suc i) (suc j)) (q (suc j)))) (product (m 0 (suc i)) (product (m 0 (suc j)) (q (suc j)))))
            (λ j h. entry (m 0 0) (m (suc i) (suc j)) (m 0 (suc i)) (m 0 (suc j)) (q (suc j)))
            ∙ total_sum n (λ j. product (m 0 0) (product (m (suc i) (suc j)) (q (suc j)))) (λ j. product (m 0 (suc i)) (product (m 0 (suc j)) (q (suc j))))
            ∙ ap₂ sum
            (total_scaled n (m 0 0) (λ j. product (m (suc i) (suc j)) (q (suc j))) ∙ ap (product (m 0 0)) (sym (other_row i l))
            ∙ Laws.product_left_comm (m 0 0) (m 0 (suc i)) (q 0))
            (total_scaled n (m 0 (suc i)) (λ j. product (m 0 (suc j)) (q (suc j))) ∙ ap (product (m 0 (suc i))) (sym first-row))
            ∙ Laws.sum_self (product (m 0 (suc i)) (product (m 0 0) (q 0)));
      }

  pub first_none : q 0 < 64 → (m 0 0 ≡ 0 → ⊥) → ((j : ℕ) → j < n → q (suc j) ≡ 0) → q 0 ≡ 0
  unfolding beside
  first_none h d z =
      Laws.product_cancel (q 0) (m 0 0) h (pos_of_not_zero (m 0 0) d) (s.small 0 0)
      (Laws.product_comm (q 0) (m 0 0) ∙ first-row
      ∙ total_none n (λ j. product (m 0 (suc j)) (q (suc j))) (λ j l. ap (product (m 0 (suc j))) (z j l) ∙ Laws.product_zero (m 0 (suc j))))

pub only_zeros : (n : ℕ) (m : ℕ → ℕ → ℕ) (q : ℕ → ℕ) → Symmetric m → ((j : ℕ) → q j < 64) → Pivots n m → Kernel n m q → (j : ℕ) → j < n → q j ≡ 0
unfolding Pivots
only_zeros zero m q s h p k j l = absurd (omega arith)
only_zeros (suc n) m q s h p k zero l =
    first_none n m q s k (h 0) p.0 (only_zeros n (reduced m) (λ j. q (suc j)) (reduced_symmetric m s) (λ j. h (suc j)) p.1 (reduced_kernel n m q s k))
only_zeros (suc n) m q s h p k (suc j) l =
    only_zeros n (reduced m) (λ j. q (suc j)) (reduced_symmetric m s) (λ j. h (suc j)) p.1 (reduced_kernel n m q s k) j (omega arith)

-- ---- the six windows of eleven sums

windows_symmetric : (f : ℕ → ℕ) → ((k : ℕ) → f k < 64) → Symmetric (λ i j. f (i + j))
windows_symmetric f h = record { small = λ i j. h (i + j); same = λ i j. ap f (omega arith) }

pub no_errors : (s : List ℕ) (f : ℕ → ℕ) → ((k : ℕ) → f k < 64) → ((k : ℕ) → k < 11 → get_or s k 0 ≡ f k) → Pivots 6 (λ i j. f (i + j))
    → (w : List ℕ) → Fits s 11 5 w → ⊥
unfolding mixed
no_errors s f h e p w fits =
    some_kernel s 11 5 6 w (omega arith) (omega arith) (omega arith) fits
    (λ q d z.
    only_zeros 6 (λ i j. f (i + j)) q (windows_symmetric f h) d.small p
    (record { row = λ i l. windows q i l ∙ z i l }) 0 (omega arith))
  where
    windows : (q : ℕ → ℕ) (i : ℕ) → i < 6 → total 6 (λ j. product (f (i + j)) (q j)) ≡ mixed q s i
    windows q i l =
        total_same 6 (λ j. product (f (i + j)) (q j)) (λ j. product (q j) (get_or s (i + j) 0))
        (λ j g. Laws.product_comm (f (i + j)) (q j) ∙ ap (product (q j)) (sym (e (i + j) (omega arith))))
