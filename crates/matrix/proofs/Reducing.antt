-- What swapping two rows and clearing a column keep: the numbers that make the rows 0, and the unit columns made before.
use mathlib.Core.Path.{◌≡◌, refl, sym, ap, ap₂, ◌∙◌, subst}
use mathlib.Core.Logic.{⊎_elim}
use mathlib.Core.List.{List, []}
use Prim.Native.Nat.{ℕ, suc, ◌+◌, ◌%◌, ◌<◌, ◌≤◌}
use native.Mathlib.Nat.{eq-or-lt_of_le, le_of_suc-le-suc}
use native.Mathlib.Numerals.{add-one}
use native.Mathlib.Omega.{arith}
use lib.ListN.{length, get_or}
use Rattle.std.specs.Prelude.{None}
use Rattle.std.specs.List.{SwappedAt}
use Rattle.numbers.proofs.Cases.{le_or_lt, same_or_not}
use Rattle.field.specs.Field.{sum, product}
use Rattle.field.specs.Inside.{inverse}
use Rattle.field.proofs.Laws
use Rattle.matrix.specs.System.{at, dot, Null}
use Rattle.matrix.specs.Inside.{Entries, Pivot, PivotIn, Cleared, Reduces}
use Rattle.matrix.proofs.Dots.{dot_lt, dot_added, dot_scaled}

-- ---- two rows change places

record Swapped (m s : List (List ℕ)) (t p : ℕ) : Type 0 where
  here : get_or s t [] ≡ get_or m p []
  there : get_or s p [] ≡ get_or m t []
  other : (i : ℕ) → (i ≡ t → ⊥) → (i ≡ p → ⊥) → get_or s i [] ≡ get_or m i []

module _ (m s : List (List ℕ)) (t p : ℕ) (w : Swapped m s t p) where
  swapped-back : Swapped s m t p
  swapped-back = record { here = sym w.there; there = sym w.here; other = λ i d e. sym (w.other i d e) }

  -- what rows t and p have, and row i, has row i then
  swapped-row : (P : List ℕ → Type 0) (i : ℕ) → P (get_or m t []) → P (get_or m p []) → P (get_or m i []) → P (get_or s i [])
  swapped-row P i x y z =
      ⊎_elim (λ (e : i ≡ t). subst P (sym (ap (λ (j : ℕ). get_or s j []) e ∙ w.here)) y)
      (λ (d : i ≡ t → ⊥).
      ⊎_elim (λ (e : i ≡ p). subst P (sym (ap (λ (j : ℕ). get_or s j []) e ∙ w.there)) x)
      (λ (d' : i ≡ p → ⊥). subst P (sym (w.other i d d')) z) (same_or_not i p))
      (same_or_not i t)

  swapped-null : (n : ℕ) (q : ℕ → ℕ) → t < n → p < n → Null n m q → Null n s q
  swapped-null n q a b z i l = swapped-row (λ (row : List ℕ). dot n (λ k. get_or row k 0) q ≡ 0) i (z t a) (z p b) (z i l)

-- ---- the matrix after t columns

pub record ReducedTo (n : ℕ) (m r : List (List ℕ)) (t : ℕ) : Type 0 where
  pub fits : t ≤ n
  pub long : length r ≡ 5
  pub to : (q : ℕ → ℕ) → Null n m q → Null n r q
  pub from : (q : ℕ → ℕ) → Null n r q → Null n m q
  pub one : (i : ℕ) → i < t → at r i i ≡ 1
  pub other : (i k : ℕ) → i < n → k < t → (i ≡ k → ⊥) → at r i k ≡ 0
  pub small : (i k : ℕ) → at r i k < 64

pub reduced_none : (n : ℕ) (m : List (List ℕ)) → length m ≡ 5 → Entries m → ReducedTo n m m 0
reduced_none n m l e =
    record {
      fits = omega arith;
      long = l;
      to = λ q z. z;
      from = λ q z. z;
      one = λ i h. absurd (omega arith);
      other = λ i k h g d. absurd (omega arith);
      small = e.small;
    }

-- the pivot's row comes to row t
module _ (n : ℕ) (m r s : List (List ℕ)) (t p : ℕ) (b : Pivot r t n p) (a : ReducedTo n m r t) (long : length s ≡ length r) (e : SwappedAt r s t p) where
  rows : Swapped r s t p
  rows = record { here = e.0 []; there = e.1 []; other = λ i d d'. e.2 i [] d d' }

  reduced-swap : ReducedTo n m s t
  reduced-swap =
      let g = b.least in
      let hp = b.inside in
      record {
        fits = a.fits;
        long = long ∙ a.long;
        to = λ q z. swapped-null r s t p rows n q (omega arith) hp (a.to q z);
        from = λ q z. a.from q (swapped-null s r t p (swapped-back r s t p rows) n q (omega arith) hp z);
        one = λ i l. ap (λ (row : List ℕ). get_or row i 0) (rows.other i (λ z. omega arith) (λ z. omega arith)) ∙ a.one i l;
        other = λ i k l h d.
            swapped-row r s t p rows (λ (row : List ℕ). get_or row k 0 ≡ 0) i (a.other t k (omega arith) h (λ z. omega arith))
            (a.other p k hp h (λ z. omega arith)) (a.other i k l h d);
        small = λ i k. swapped-row r s t p rows (λ (row : List ℕ). get_or row k 0 < 64) i (a.small t k) (a.small p k) (a.small i k);
      }

  swapped-pivot : 0 < at s t t
  swapped-pivot = subst (λ (row : List ℕ). 0 < get_or row t 0) (sym rows.here) b.here

  -- so that row t may be divided by it
  pub pivot_divides : 0 < at s t t % 64
  pivot_divides = Laws.may_divide (at s t t) (reduced-swap.small t t) (λ z. let g = swapped-pivot in omega arith)

-- ---- row t is divided, and the other rows are cleared

module _ (n : ℕ) (o m r : List (List ℕ)) (t : ℕ) (h : t < n) (pivot : 0 < at m t t) (a : ReducedTo n o m t) (b : Cleared n t m r) where
  here-one : at r t t ≡ 1
  here-one = b.here t ∙ Laws.inverse_right (at m t t) pivot (a.small t t)

  here-dot : (q : ℕ → ℕ) → dot n (at r t) q ≡ product (inverse (at m t t)) (dot n (at m t) q)
  here-dot q = dot_scaled n (at m t) (at r t) q (inverse (at m t t)) b.here

  clear-to : (q : ℕ → ℕ) → Null n m q → Null n r q
  clear-to q z i l =
      ⊎_elim (λ (e : i ≡ t). subst (λ (j : ℕ). dot n (at r j) q ≡ 0) (sym e) row-t)
      (λ (d : i ≡ t → ⊥).
      dot_added n (at m i) (at r t) (at r i) q (at m i t) (λ k. b.rest i k l d)
      ∙ ap₂ (λ (x y : ℕ). sum x (product (at m i t) y)) (z i l) row-t ∙ ap (sum 0) (Laws.product_zero (at m i t)) ∙ Laws.sum_self 0)
      (same_or_not i t)
    where
      row-t : dot n (at r t) q ≡ 0
      row-t = here-dot q ∙ ap (product (inverse (at m t t))) (z t h) ∙ Laws.product_zero (inverse (at m t t))

  clear-from : (q : ℕ → ℕ) → Null n r q → Null n m q
  clear-from q z i l =
      ⊎_elim (λ (e : i ≡ t). subst (λ (j : ℕ). dot n (at m j) q ≡ 0) (sym e) row-t)
      (λ (d : i ≡ t → ⊥).
      sym (Laws.sum_zero (dot n (at m i) q)) ∙ ap (sum (dot n (at m i) q)) (sym (ap (product (at m i t)) (z t h) ∙ Laws.product_zero (at m i t)))
      ∙ sym (dot_added n (at m i) (at r t) (at r i) q (at m i t) (λ k. b.rest i k l d)) ∙ z i l)
      (same_or_not i t)
    where
      row-t : dot n (at m t) q ≡ 0
      row-t =
          let d : ℕ = at m t t in
          let x : ℕ = dot n (at m t) q in
          sym (Laws.one_product x (dot_lt n (at m t) q)) ∙ ap (λ (y : ℕ). product y x) (sym (Laws.inverse_right d pivot (a.small t t)))
          ∙ Laws.product_assoc d (inverse d) x ∙ ap (product d) (sym (here-dot q) ∙ z t h) ∙ Laws.product_zero d

  row-t-old : (k : ℕ) → k < t → at r t k ≡ 0
  row-t-old k g =
      b.here k ∙ ap (λ (x : ℕ). product x (inverse (at m t t))) (a.other t k h g (λ e. omega arith)) ∙ Laws.zero_product (inverse (at m t t))

  clear-old : (i k : ℕ) → i < n → k < t → (i ≡ t → ⊥) → at r i k ≡ at m i k
  clear-old i k l g d =
      b.rest i k l d ∙ ap (λ (y : ℕ). sum (at m i k) (product (at m i t) y)) (row-t-old k g)
      ∙ ap (sum (at m i k)) (Laws.product_zero (at m i t)) ∙ Laws.sum_zero (at m i k)

  clear-column : (i : ℕ) → i < n → (i ≡ t → ⊥) → at r i t ≡ 0
  clear-column i l d =
      b.rest i t l d ∙ ap (λ (y : ℕ). sum (at m i t) (product (at m i t) y)) here-one
      ∙ ap (sum (at m i t)) (Laws.product_one (at m i t) (a.small i t)) ∙ Laws.sum_self (at m i t)

  clear-one : (i : ℕ) → i < suc t → at r i i ≡ 1
  clear-one i l =
      ⊎_elim (λ (e : i ≡ t). subst (λ (j : ℕ). at r j j ≡ 1) (sym e) here-one)
      (λ (g : i < t). clear-old i i (omega arith) g (λ e. omega arith) ∙ a.one i g) (eq-or-lt_of_le (le_of_suc-le-suc l))

  clear_other : (i k : ℕ) → i < n → k < suc t → (i ≡ k → ⊥) → at r i k ≡ 0
  clear_other i k l g d =
      ⊎_elim (λ (e : k ≡ t). subst (λ (j : ℕ). at r i j ≡ 0) (sym e) (clear-column i l (λ z. d (z ∙ sym e))))
      (λ (g' : k < t).
      ⊎_elim (λ (e : i ≡ t). subst (λ (j : ℕ). at r j k ≡ 0) (sym e) (row-t-old k g'))
      (λ (x : i ≡ t → ⊥). clear-old i k l g' x ∙ a.other i k l g' d) (same_or_not i t))
      (eq-or-lt_of_le (le_of_suc-le-suc g))

  clear-small : (i k : ℕ) → at r i k < 64
  clear-small i k =
      ⊎_elim (λ (g : n ≤ i). subst (λ (x : ℕ). x < 64) (sym (b.past i k g)) (a.small i k))
      (λ (l : i < n).
      ⊎_elim
      (λ (e : i ≡ t).
      subst (λ (j : ℕ). at r j k < 64) (sym e) (subst (λ (x : ℕ). x < 64) (sym (b.here k)) (Laws.product_lt (at m t k) (inverse (at m t t)))))
      (λ (d : i ≡ t → ⊥).
      subst (λ (x : ℕ). x < 64) (sym (b.rest i k l d))
      (Laws.sum_lt (at m i k) (product (at m i t) (at r t k)) (a.small i k) (Laws.product_lt (at m i t) (at r t k))))
      (same_or_not i t))
      (le_or_lt n i)

  reduced-clear : length r ≡ 5 → ReducedTo n o r (t + 1)
  reduced-clear long =
      rw (add-one t)
      (record {
        fits = h;
        long = long;
        to = λ q z. clear-to q (a.to q z);
        from = λ q z. a.from q (clear-from q z);
        one = clear-one;
        other = clear_other;
        small = clear-small;
      })

-- ---- a turn, and the two ends

pub reduced_turn : (n : ℕ) (m r s x : List (List ℕ)) (t p : ℕ) → Pivot r t n p → ReducedTo n m r t → length s ≡ length r
    → SwappedAt r s t p → Cleared n t s x → length x ≡ 5 → ReducedTo n m x (t + 1)
reduced_turn n m r s x t p b a long e c l =
    let least = b.least in
    let inside = b.inside in
    reduced-clear n m s x t (omega arith) (swapped-pivot n m r s t p b a long e) (reduced-swap n m r s t p b a long e) c l

pub reduced_all : (n : ℕ) (m r : List (List ℕ)) (t : ℕ) → n ≤ t → ReducedTo n m r t → Reduces n m r
reduced_all n m r t h a =
    record {
      steps = t;
      fits = a.fits;
      to = a.to;
      from = a.from;
      one = a.one;
      other = a.other;
      stuck = λ l. absurd (omega arith);
      small = a.small;
    }

pub reduced_stuck : (n : ℕ) (m r : List (List ℕ)) (t : ℕ) → PivotIn r t n None → ReducedTo n m r t → Reduces n m r
reduced_stuck n m r t b a =
    record {
      steps = t;
      fits = a.fits;
      to = a.to;
      from = a.from;
      one = a.one;
      other = a.other;
      stuck = λ l i. b.none refl i;
      small = a.small;
    }
