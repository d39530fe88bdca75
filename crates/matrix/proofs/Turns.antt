-- What the loops do, a turn at a time, over plain variables.
use mathlib.Core.Path.{◌≡◌, refl, sym, ap, ap₂, ◌∙◌, subst}
use mathlib.Core.Logic.{⊎_elim}
use mathlib.Core.List.{List, [], ◌∷◌}
use Prim.Native.Nat.{ℕ, zero, suc, ◌+◌, ◌<◌, ◌≤◌}
use native.Mathlib.Omega.{arith}
use borrow.Author.Count.{below_more}
use lib.ListN.{length, get_or, set, length-set, get_or-eq_default}
use lib.Seq.{get_or-set_same, get_or-set_other}
use lib.Bits.{bit_xor}
use Rattle.std.specs.Prelude.{Option, Some, None, MatchOption}
use Rattle.std.proofs.lemmas.Option.{none-some, same_Some}
use Rattle.numbers.proofs.Cases.{le_or_lt, pos_of_not_zero}
use Rattle.field.specs.Field.{sum, product}
use Rattle.field.specs.Inside.{inverse}
use Rattle.field.proofs.Laws
use Rattle.matrix.specs.System.{at}
use Rattle.matrix.specs.Inside.{Pivot, PivotIn, RowOver, RowAdded, Cleared, ColumnIs}

-- ---- the first row with a pivot

pub pivot_found : (m : List (List ℕ)) (t n : ℕ) (r : Option ℕ)
    → MatchOption r ((k : ℕ) → t ≤ k → k < n → at m k t ≡ 0)
    (λ i. (t ≤ i) × (i < n) × (at m i t ≡ 0 → ⊥) × ((k : ℕ) → t ≤ k → k < i → at m k t ≡ 0)) → PivotIn m t n r
pivot_found m t n (Some i) h =
    record {
      found = λ r e.
          subst (Pivot m t n) (same_Some i r e) (record { least = h.0; inside = h.1; before = h.3; here = pos_of_not_zero (at m i t) h.2 });
      none = λ e. absurd (none-some i (sym e));
    }
pivot_found m t n None h = record { found = λ r e. absurd (none-some r e); none = λ _. h }

-- ---- a row divided

pub record OverTo (row : List ℕ) (d : ℕ) (r : List ℕ) (n : ℕ) : Type 0 where
  pub most : n ≤ 6
  pub long : length r ≡ 6
  pub done : (k : ℕ) → k < n → get_or r k 0 ≡ product (get_or row k 0) (inverse d)
  pub rest : (k : ℕ) → n ≤ k → get_or r k 0 ≡ get_or row k 0

pub over_none : (d : ℕ) (row : List ℕ) → length row ≡ 6 → OverTo row d row 0
over_none d row l = record { most = omega arith; long = l; done = λ k h. absurd (omega arith); rest = λ k h. refl }

pub over_again : (d : ℕ) (row r : List ℕ) (n t : ℕ) → n < 6 → OverTo row d r n → t ≡ product (get_or r n 0) (inverse d) → OverTo row d (set r n t) (n + 1)
over_again d row r n t h a e =
    record {
      most = omega arith;
      long = length-set r n t ∙ a.long;
      done =
          below_more (λ k. get_or (set r n t) k 0 ≡ product (get_or row k 0) (inverse d)) n (λ k l. get_or-set_other r n k t 0 (λ q. omega arith) ∙ a.done k l)
          (get_or-set_same r n t 0 (omega (arith, a.long)) ∙ e ∙ ap (λ (x : ℕ). product x (inverse d)) (a.rest n (omega arith)));
      rest = λ k l. get_or-set_other r n k t 0 (λ q. omega arith) ∙ a.rest k (omega arith);
    }

pub over_all : (d : ℕ) (row r : List ℕ) (n : ℕ) → 6 ≤ n → length row ≡ 6 → OverTo row d r n → RowOver row d r
over_all d row r n h l a =
    record {
      long = a.long;
      entry = λ k.
          ⊎_elim
          (λ (b : n ≤ k).
          get_or-eq_default r 0 (omega (arith, a.long))
          ∙ sym (ap (λ (x : ℕ). product x (inverse d)) (get_or-eq_default row 0 (omega arith)) ∙ Laws.zero_product (inverse d)))
          (λ (b : k < n). a.done k b) (le_or_lt n k);
    }

-- ---- a row and f times another

pub record AddedTo (row : List ℕ) (f : ℕ) (other r : List ℕ) (n : ℕ) : Type 0 where
  pub most : n ≤ 6
  pub long : length r ≡ 6
  pub done : (k : ℕ) → k < n → get_or r k 0 ≡ sum (get_or row k 0) (product f (get_or other k 0))
  pub rest : (k : ℕ) → n ≤ k → get_or r k 0 ≡ get_or row k 0

pub added_none : (f : ℕ) (row other : List ℕ) → length row ≡ 6 → AddedTo row f other row 0
added_none f row other l = record { most = omega arith; long = l; done = λ k h. absurd (omega arith); rest = λ k h. refl }

pub added_again : (f : ℕ) (row other r : List ℕ) (n t : ℕ) → n < 6 → AddedTo row f other r n → t ≡ product f (get_or other n 0)
    → AddedTo row f other (set r n (bit_xor (get_or r n 0) t)) (n + 1)
unfolding sum
added_again f row other r n t h a e =
    record {
      most = omega arith;
      long = length-set r n (bit_xor (get_or r n 0) t) ∙ a.long;
      done =
          below_more (λ k. get_or (set r n (bit_xor (get_or r n 0) t)) k 0 ≡ sum (get_or row k 0) (product f (get_or other k 0))) n
          (λ k l. get_or-set_other r n k (bit_xor (get_or r n 0) t) 0 (λ q. omega arith) ∙ a.done k l)
          (get_or-set_same r n (bit_xor (get_or r n 0) t) 0 (omega (arith, a.long)) ∙ ap₂ sum (a.rest n (omega arith)) e);
      rest = λ k l. get_or-set_other r n k (bit_xor (get_or r n 0) t) 0 (λ q. omega arith) ∙ a.rest k (omega arith);
    }

pub added_all : (f : ℕ) (row other r : List ℕ) (n : ℕ) → 6 ≤ n → length row ≡ 6 → length other ≡ 6 → AddedTo row f other r n → RowAdded row f other r
added_all f row other r n h l m a =
    record {
      long = a.long;
      entry = λ k.
          ⊎_elim
          (λ (b : n ≤ k).
          get_or-eq_default r 0 (omega (arith, a.long))
          ∙ sym (ap₂ (λ (x y : ℕ). sum x (product f y)) (get_or-eq_default row 0 (omega arith)) (get_or-eq_default other 0 (omega arith))
          ∙ ap (sum 0) (Laws.product_zero f) ∙ Laws.sum_self 0))
          (λ (b : k < n). a.done k b) (le_or_lt n k);
    }

-- ---- a column cleared

-- the first i rows are cleared, row t is divided already, the others are as they were
pub record ClearedTo (n t : ℕ) (m : List (List ℕ)) (pivot : List ℕ) (r : List (List ℕ)) (i : ℕ) : Type 0 where
  pub most : i ≤ n
  pub long : length r ≡ 5
  pub row : get_or r t [] ≡ pivot
  pub made : RowOver (get_or m t []) (at m t t) pivot
  pub done : (j k : ℕ) → j < i → (j ≡ t → ⊥) → at r j k ≡ sum (at m j k) (product (at m j t) (get_or pivot k 0))
  pub rest : (j : ℕ) → i ≤ j → (j ≡ t → ⊥) → get_or r j [] ≡ get_or m j []

pub cleared_none : (n t : ℕ) (m : List (List ℕ)) (pivot : List ℕ) → (t < n) × (n ≤ 5) → length m ≡ 5 → RowOver (get_or m t []) (at m t t) pivot
    → ClearedTo n t m pivot (set m t pivot) 0
cleared_none n t m pivot h l p =
    record {
      most = omega arith;
      long = length-set m t pivot ∙ l;
      row = get_or-set_same m t pivot [] (let a = h.0 in let b = h.1 in omega arith);
      made = p;
      done = λ j k b. absurd (omega arith);
      rest = λ j b d. get_or-set_other m t j pivot [] d;
    }

module _ (n t : ℕ) (m : List (List ℕ)) (pivot : List ℕ) (r : List (List ℕ)) (i : ℕ) (a : ClearedTo n t m pivot r i) (h : i < n) where
  pub cleared_skip : (r' : List (List ℕ)) → r' ≡ r → i ≡ t → ClearedTo n t m pivot r' (i + 1)
  cleared_skip r' er e =
      subst (λ (x : List (List ℕ)). ClearedTo n t m pivot x (i + 1)) (sym er)
      record {
        most = omega arith;
        long = a.long;
        row = a.row;
        made = a.made;
        done = λ j k b d. a.done j k (omega arith) d;
        rest = λ j b d. a.rest j (omega arith) d;
      }

  pub cleared_again : (new : List ℕ) (r' : List (List ℕ)) → r' ≡ set r i new → n ≤ 5 → (i ≡ t → ⊥) → RowAdded (get_or m i []) (at m i t) pivot new
      → ClearedTo n t m pivot r' (i + 1)
  cleared_again new r' er hn d g =
      subst (λ (x : List (List ℕ)). ClearedTo n t m pivot x (i + 1)) (sym er)
      (
      let same : get_or (set r i new) i [] ≡ new = get_or-set_same r i new [] (omega (arith, a.long)) in
      let other : (j : ℕ) → (j ≡ i → ⊥) → get_or (set r i new) j [] ≡ get_or r j [] = λ j q. get_or-set_other r i j new [] q in
      record {
        most = omega arith;
        long = length-set r i new ∙ a.long;
        row = other t (λ q. d (sym q)) ∙ a.row;
        made = a.made;
        done = λ j k b e.
            below_more (λ j. (j ≡ t → ⊥) → at (set r i new) j k ≡ sum (at m j k) (product (at m j t) (get_or pivot k 0))) i
            (λ j l e'. ap (λ (row : List ℕ). get_or row k 0) (other j (λ q. omega arith)) ∙ a.done j k l e')
            (λ _. ap (λ (row : List ℕ). get_or row k 0) same ∙ g.entry k)
            j b e;
        rest = λ j b e. other j (λ q. omega arith) ∙ a.rest j (omega arith) e;
      })

pub cleared_all : (n t : ℕ) (m : List (List ℕ)) (pivot : List ℕ) (r : List (List ℕ)) (i : ℕ) → (t < n) × (n ≤ 5) → n ≤ i
    → ClearedTo n t m pivot r i → Cleared n t m r
cleared_all n t m pivot r i h g a =
    let most = a.most in
    let lt = h.0 in
    record {
      here = λ k. ap (λ (row : List ℕ). get_or row k 0) a.row ∙ a.made.entry k;
      rest = λ j k l d. a.done j k (omega arith) d ∙ ap (λ (row : List ℕ). sum (at m j k) (product (at m j t) (get_or row k 0))) (sym a.row);
      past = λ j k l. ap (λ (row : List ℕ). get_or row k 0) (a.rest j (omega arith) (λ e. omega arith));
    }

-- ---- the column

abbrev pub blank : List ℕ
blank = 0 ∷ 0 ∷ 0 ∷ 0 ∷ 0 ∷ 0 ∷ []

pub blank_zero : (k : ℕ) → get_or blank k 0 ≡ 0
blank_zero zero = refl
blank_zero (suc zero) = refl
blank_zero (suc (suc zero)) = refl
blank_zero (suc (suc (suc zero))) = refl
blank_zero (suc (suc (suc (suc zero)))) = refl
blank_zero (suc (suc (suc (suc (suc zero))))) = refl
blank_zero (suc (suc (suc (suc (suc (suc k)))))) = refl

pub record ColumnTo (r : List (List ℕ)) (n : ℕ) (p : List ℕ) (i : ℕ) : Type 0 where
  pub most : i ≤ n
  pub long : length p ≡ 6
  pub done : (k : ℕ) → k < i → get_or p k 0 ≡ at r k n
  pub top : get_or p n 0 ≡ 1
  pub past : (k : ℕ) → n < k → get_or p k 0 ≡ 0

pub column_none : (r : List (List ℕ)) (n : ℕ) → n ≤ 5 → ColumnTo r n (set blank n 1) 0
column_none r n h =
    record {
      most = omega arith;
      long = length-set blank n 1;
      done = λ k g. absurd (omega arith);
      top = get_or-set_same blank n 1 0 (omega arith);
      past = λ k g. get_or-set_other blank n k 1 0 (λ q. omega arith) ∙ blank_zero k;
    }

pub column_again : (r : List (List ℕ)) (n : ℕ) (p : List ℕ) (i : ℕ) → n ≤ 5 → i < n → ColumnTo r n p i → ColumnTo r n (set p i (at r i n)) (i + 1)
column_again r n p i hn h a =
    record {
      most = omega arith;
      long = length-set p i (at r i n) ∙ a.long;
      done =
          below_more (λ k. get_or (set p i (at r i n)) k 0 ≡ at r k n) i (λ k l. get_or-set_other p i k (at r i n) 0 (λ q. omega arith) ∙ a.done k l)
          (get_or-set_same p i (at r i n) 0 (omega (arith, a.long)));
      top = get_or-set_other p i n (at r i n) 0 (λ q. omega arith) ∙ a.top;
      past = λ k g. get_or-set_other p i k (at r i n) 0 (λ q. omega arith) ∙ a.past k g;
    }

pub column_all : (r : List (List ℕ)) (n : ℕ) (p : List ℕ) (i : ℕ) → n ≤ i → ColumnTo r n p i → ColumnIs r n p
column_all r n p i h a = record { long = a.long; entry = λ k g. a.done k (omega arith); top = a.top; past = a.past }
