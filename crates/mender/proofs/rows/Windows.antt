-- The polynomials that combine the sums to 0, found by dropping one row for each window.
use mathlib.Core.Path.{◌≡◌, sym, ap, ap₂, ◌∙◌, subst}
use mathlib.Core.Logic.{◌⊎◌, inl, inr, ⊎_elim}
use mathlib.Core.List.{List, []}
use Prim.Native.Nat.{ℕ, suc, ◌+◌, ◌<◌, ◌≤◌}
use native.Mathlib.Nat.{eq-or-lt_of_le, le_of_suc-le-suc}
use native.Mathlib.Omega.{arith}
use lib.ListN.{get_or, length, get_or-eq_default}
use Rattle.numbers.proofs.Cases.{le_or_lt, same_or_not}
use Rattle.numbers.specs.Total.{total}
use Rattle.field.specs.Field.{sum, product}
use Rattle.field.specs.Inside.{inverse}
use Rattle.field.proofs.Laws
use Rattle.numbers.proofs.Totals.{total_same, total_none, total_swap, total_lt, total_only}
use Rattle.field.proofs.Totals.{total_sum, total_scaled}
use Rattle.mender.specs.Inside.{mixed, at, Degree, Spanned}

-- the first n of six unit vectors
pub record Units (n : ℕ) (m : List (List ℕ)) : Type 0 where
  pub long : length m ≡ 6
  pub wide : (i : ℕ) → i < 6 → length (get_or m i []) ≡ 6
  pub one : (i : ℕ) → i < n → at m i i ≡ 1
  pub none : (i : ℕ) → n ≤ i → at m i i ≡ 0
  pub other : (i k : ℕ) → (i ≡ k → ⊥) → at m i k ≡ 0

-- each row and the multiple of row p with which it combines window n to 0
pub record Stepped (s : List ℕ) (n p : ℕ) (m r : List (List ℕ)) : Type 0 where
  pub long : length r ≡ 6
  pub wide : (i : ℕ) → i < 6 → length (get_or r i []) ≡ 6
  pub pivot : 0 < mixed (at m p) s n
  pub lowest : (i : ℕ) → i < p → mixed (at m i) s n ≡ 0
  pub row : (i k : ℕ) → at r i k ≡ sum (at m i k) (product (product (mixed (at m i) s n) (inverse (mixed (at m p) s n))) (at m p k))

-- past the last row
pub past : (m : List (List ℕ)) (i k : ℕ) → length m ≡ 6 → 6 ≤ i → at m i k ≡ 0
past m i k e h = ap (λ (l : List ℕ). get_or l k 0) (get_or-eq_default m [] (omega arith))

-- entries that are 0 off the diagonal, and on it from n on, are 0 in each row and each column from n on
module _ (f : ℕ → ℕ → ℕ) (n : ℕ) (none : (i : ℕ) → n ≤ i → f i i ≡ 0) (other : (i k : ℕ) → (i ≡ k → ⊥) → f i k ≡ 0) where
  pub row_none : (i k : ℕ) → n ≤ i → f i k ≡ 0
  row_none i k h = ⊎_elim (λ (e : i ≡ k). subst (λ (j : ℕ). f i j ≡ 0) e (none i h)) (λ (d : i ≡ k → ⊥). other i k d) (same_or_not i k)

  pub column_none : (i k : ℕ) → n ≤ k → f i k ≡ 0
  column_none i k h = ⊎_elim (λ (e : i ≡ k). subst (λ (j : ℕ). f j k ≡ 0) (sym e) (none k h)) (λ (d : i ≡ k → ⊥). other i k d) (same_or_not i k)

-- ---- combining is linear

pub mixed_lt : (q : ℕ → ℕ) (s : List ℕ) (j : ℕ) → mixed q s j < 64
unfolding mixed
mixed_lt q s j = total_lt 6 (λ k. product (q k) (get_or s (j + k) 0)) (λ k. Laws.product_lt (q k) (get_or s (j + k) 0))

pub mixed_none : (q : ℕ → ℕ) (s : List ℕ) (j : ℕ) → ((k : ℕ) → q k ≡ 0) → mixed q s j ≡ 0
unfolding mixed
mixed_none q s j h =
    total_none 6 (λ k. product (q k) (get_or s (j + k) 0))
    (λ k l. ap (λ (t : ℕ). product t (get_or s (j + k) 0)) (h k) ∙ Laws.zero_product (get_or s (j + k) 0))

mixed_term : (a f b t : ℕ) → product (sum a (product f b)) t ≡ sum (product a t) (product f (product b t))
mixed_term a f b t = simp Laws.ring

pub mixed_added : (q r p : ℕ → ℕ) (f : ℕ) (s : List ℕ) (j : ℕ) → ((k : ℕ) → r k ≡ sum (q k) (product f (p k)))
    → mixed r s j ≡ sum (mixed q s j) (product f (mixed p s j))
unfolding mixed
mixed_added q r p f s j h =
    let t : ℕ → ℕ = λ k. get_or s (j + k) 0 in
    total_same 6 (λ k. product (r k) (t k)) (λ k. sum (product (q k) (t k)) (product f (product (p k) (t k))))
    (λ k l. ap (λ (x : ℕ). product x (t k)) (h k) ∙ mixed_term (q k) f (p k) (t k))
    ∙ total_sum 6 (λ k. product (q k) (t k)) (λ k. product f (product (p k) (t k)))
    ∙ ap (sum (total 6 (λ k. product (q k) (t k)))) (total_scaled 6 f (λ k. product (p k) (t k)))

swap : (a b c : ℕ) → product a (product b c) ≡ product c (product a b)
swap a b c = simp Laws.ring

keeps_term : (q a f b : ℕ) → product q (sum a (product f b)) ≡ sum (product q a) (product b (product q f))
keeps_term q a f b = simp Laws.ring

-- the combination of what the rows make is made of the rows' combinations
made : (q : ℕ → ℕ) (m : ℕ → ℕ → ℕ) (s : List ℕ) (j : ℕ) → ((k : ℕ) → total 6 (λ i. product (q i) (m i k)) ≡ q k)
    → total 6 (λ i. product (q i) (mixed (m i) s j)) ≡ mixed q s j
unfolding mixed
made q m s j h =
    let t : ℕ → ℕ = λ k. get_or s (j + k) 0 in
    total_same 6 (λ i. product (q i) (total 6 (λ k. product (m i k) (t k)))) (λ i. total 6 (λ k. product (q i) (product (m i k) (t k))))
    (λ i l. sym (total_scaled 6 (q i) (λ k. product (m i k) (t k))))
    ∙ total_swap 6 6 (λ i k. product (q i) (product (m i k) (t k)))
    ∙ total_same 6 (λ k. total 6 (λ i. product (q i) (product (m i k) (t k)))) (λ k. product (q k) (t k))
    (λ k l.
    total_same 6 (λ i. product (q i) (product (m i k) (t k))) (λ i. product (t k) (product (q i) (m i k)))
    (λ i h. swap (q i) (m i k) (t k))
    ∙ total_scaled 6 (t k) (λ i. product (q i) (m i k)) ∙ ap (product (t k)) (h k) ∙ Laws.product_comm (t k) (q k))

-- ---- one window

-- 0 divided is 0
pub none_divided : (u d : ℕ) → u ≡ 0 → product u (inverse d) ≡ 0
none_divided u d h = ap (λ (t : ℕ). product t (inverse d)) h ∙ Laws.zero_product (inverse d)

-- divided by d and multiplied again
back : (u d : ℕ) → u < 64 → 0 < d → d < 64 → product (product u (inverse d)) d ≡ u
back u d h p l =
    Laws.product_assoc u (inverse d) d ∙ ap (product u) (Laws.product_comm (inverse d) d ∙ Laws.inverse_right d p l) ∙ Laws.product_one u h

module _ (s : List ℕ) (e n p : ℕ) (m r : List (List ℕ)) (a : Spanned s e n m) (b : Stepped s n p m r) where
  f : ℕ → ℕ
  f i = product (mixed (at m i) s n) (inverse (mixed (at m p) s n))

  f-zero : (i : ℕ) → mixed (at m i) s n ≡ 0 → f i ≡ 0
  unfolding f
  f-zero i = none_divided (mixed (at m i) s n) (mixed (at m p) s n)

  row_is : (i k : ℕ) → at r i k ≡ sum (at m i k) (product (f i) (at m p k))
  unfolding f
  row_is i k = b.row i k

  mixed-is : (i j : ℕ) → mixed (at r i) s j ≡ sum (mixed (at m i) s j) (product (f i) (mixed (at m p) s j))
  mixed-is i j = mixed_added (at m i) (at r i) (at m p) (f i) s j (row_is i)

  old-window : (i j : ℕ) → j < n → mixed (at r i) s j ≡ 0
  old-window i j h =
      mixed-is i j
      ∙ ap₂ (λ (x y : ℕ). sum x (product (f i) y)) (a.kernel i j h) (a.kernel p j h) ∙ ap (sum 0) (Laws.product_zero (f i)) ∙ Laws.sum_self 0

  new-window : (i : ℕ) → mixed (at r i) s n ≡ 0
  unfolding f
  new-window i =
      mixed-is i n
      ∙ ap (sum (mixed (at m i) s n))
      (back (mixed (at m i) s n) (mixed (at m p) s n) (mixed_lt (at m i) s n) b.pivot (mixed_lt (at m p) s n))
      ∙ Laws.sum_self (mixed (at m i) s n)

  -- a row above the pivot's stays
  above : (i k : ℕ) → mixed (at m i) s n ≡ 0 → at r i k ≡ at m i k
  above i k h =
      row_is i k ∙ ap (λ (t : ℕ). sum (at m i k) (product t (at m p k))) (f-zero i h)
      ∙ ap (sum (at m i k)) (Laws.zero_product (at m p k)) ∙ Laws.sum_zero (at m i k)

  -- and so does an entry where the pivot's row has 0
  beside : (i k : ℕ) → at m p k ≡ 0 → at r i k ≡ at m i k
  beside i k h =
      row_is i k ∙ ap (λ (t : ℕ). sum (at m i k) (product (f i) t)) h
      ∙ ap (sum (at m i k)) (Laws.product_zero (f i)) ∙ Laws.sum_zero (at m i k)

  new-low : (i k : ℕ) → i < k → at r i k ≡ 0
  new-low i k h =
      ⊎_elim (λ (l : p ≤ i). beside i k (a.low p k (omega arith)) ∙ a.low i k h)
      (λ (l : i < p). above i k (b.lowest i l) ∙ a.low i k h) (le_or_lt p i)

  new-short : (i k : ℕ) → e < k → at r i k ≡ 0
  new-short i k h = beside i k (a.short p k h) ∙ a.short i k h

  new-small : (i k : ℕ) → at r i k < 64
  new-small i k =
      subst (λ (t : ℕ). t < 64) (sym (row_is i k)) (Laws.sum_lt (at m i k) (product (f i) (at m p k)) (a.small i k) (Laws.product_lt (f i) (at m p k)))

  f-one : f p ≡ 1
  unfolding f
  f-one = Laws.inverse_right (mixed (at m p) s n) b.pivot (mixed_lt (at m p) s n)

  -- the pivot's row goes away
  dropped : (k : ℕ) → at r p k ≡ 0
  dropped k =
      row_is p k ∙ ap (λ (t : ℕ). sum (at m p k) (product t (at m p k))) f-one
      ∙ ap (sum (at m p k)) (Laws.one_product (at m p k) (a.small p k)) ∙ Laws.sum_self (at m p k)

  stays : (i : ℕ) → mixed (at m i) s n ≡ 0 → ((k : ℕ) → at r i k ≡ 0) ⊎ (at r i i ≡ 1)
  stays i h = ⊎_elim (λ z. inl (λ k. above i k h ∙ z k)) (λ o. inr (above i i h ∙ o)) (a.own i)

  new-own : (i : ℕ) → ((k : ℕ) → at r i k ≡ 0) ⊎ (at r i i ≡ 1)
  new-own i =
      ⊎_elim
      (λ (l : p ≤ i).
      ⊎_elim (λ (e : p ≡ i). inl (λ k. subst (λ (j : ℕ). at r j k ≡ 0) e (dropped k)))
      (λ (l : p < i).
      ⊎_elim (λ (z : (k : ℕ) → at m i k ≡ 0). stays i (mixed_none (at m i) s n z))
      (λ (o : at m i i ≡ 1). inr (beside i i (a.low p i l) ∙ o)) (a.own i))
      (eq-or-lt_of_le l))
      (λ (l : i < p). stays i (b.lowest i l)) (le_or_lt p i)

  new-kernel : (i j : ℕ) → j < suc n → mixed (at r i) s j ≡ 0
  new-kernel i j h =
      ⊎_elim (λ (e : j ≡ n). ap (mixed (at r i) s) e ∙ new-window i) (λ (l : j < n). old-window i j l) (eq-or-lt_of_le (le_of_suc-le-suc h))

  factors : (q : ℕ → ℕ) → ((k : ℕ) → total 6 (λ i. product (q i) (at m i k)) ≡ q k) → mixed q s n ≡ 0 → total 6 (λ i. product (q i) (f i)) ≡ 0
  unfolding f
  factors q h z =
      let d : ℕ → ℕ = λ i. mixed (at m i) s n in
      let v : ℕ = inverse (mixed (at m p) s n) in
      total_same 6 (λ i. product (q i) (product (d i) v)) (λ i. product v (product (q i) (d i)))
      (λ i l. swap (q i) (d i) v)
      ∙ total_scaled 6 v (λ i. product (q i) (d i)) ∙ ap (product v) (made q (at m) s n h ∙ z) ∙ Laws.product_zero v

  new-keeps : (q : ℕ → ℕ) → Degree e q → ((j : ℕ) → j < suc n → mixed q s j ≡ 0) → (k : ℕ) → total 6 (λ i. product (q i) (at r i k)) ≡ q k
  new-keeps q g z k =
      let h : (k : ℕ) → total 6 (λ i. product (q i) (at m i k)) ≡ q k = a.keeps q g (λ j l. z j (omega arith)) in
      total_same 6 (λ i. product (q i) (at r i k)) (λ i. sum (product (q i) (at m i k)) (product (at m p k) (product (q i) (f i))))
      (λ i l. ap (product (q i)) (row_is i k) ∙ keeps_term (q i) (at m i k) (f i) (at m p k))
      ∙ total_sum 6 (λ i. product (q i) (at m i k)) (λ i. product (at m p k) (product (q i) (f i)))
      ∙ ap₂ sum (h k) (total_scaled 6 (at m p k) (λ i. product (q i) (f i)) ∙ ap (product (at m p k)) (factors q h (z n (omega arith))) ∙ Laws.product_zero (at m p k))
      ∙ Laws.sum_zero (q k)

  pub spanned_step : Spanned s e (suc n) r
  spanned_step =
      record {
        long = b.long;
        wide = b.wide;
        kernel = new-kernel;
        keeps = new-keeps;
        low = new-low;
        short = new-short;
        own = new-own;
        small = new-small;
      }

-- no row has to go
pub spanned_skip : (s : List ℕ) (e n : ℕ) (m : List (List ℕ)) → Spanned s e n m → ((i : ℕ) → i < 6 → mixed (at m i) s n ≡ 0) → Spanned s e (suc n) m
spanned_skip s e n m a h =
    record {
      long = a.long;
      wide = a.wide;
      kernel = λ i j l.
          ⊎_elim
          (λ (q : j ≡ n).
          ap (mixed (at m i) s) q ∙ ⊎_elim (λ (g : 6 ≤ i). mixed_none (at m i) s n (λ k. past m i k a.long g)) (λ (g : i < 6). h i g) (le_or_lt 6 i))
          (λ (g : j < n). a.kernel i j g) (eq-or-lt_of_le (le_of_suc-le-suc l));
      keeps = λ q g z k. a.keeps q g (λ j l. z j (omega arith)) k;
      low = a.low;
      short = a.short;
      own = a.own;
      small = a.small;
    }

-- ---- the start: the unit vectors

module _ (s : List ℕ) (e : ℕ) (m : List (List ℕ)) (h : e ≤ 5) (u : Units (suc e) m) where
  units_small : (i k : ℕ) → at m i k < 64
  units_small i k =
      ⊎_elim
      (λ (q : i ≡ k).
      subst (λ (k : ℕ). at m i k < 64) q
      (⊎_elim (λ (l : suc e ≤ i). subst (λ (t : ℕ). t < 64) (sym (u.none i l)) (omega arith))
      (λ (l : i < suc e). subst (λ (t : ℕ). t < 64) (sym (u.one i l)) (omega arith)) (le_or_lt (suc e) i)))
      (λ (d : i ≡ k → ⊥). subst (λ (t : ℕ). t < 64) (sym (u.other i k d)) (omega arith)) (same_or_not i k)

  units-short : (i k : ℕ) → e < k → at m i k ≡ 0
  units-short = column_none (at m) (suc e) u.none u.other

  units-keeps : (q : ℕ → ℕ) → Degree e q → (k : ℕ) → total 6 (λ i. product (q i) (at m i k)) ≡ q k
  units-keeps q g k =
      ⊎_elim
      (λ (l : suc e ≤ k).
      total_none 6 (λ i. product (q i) (at m i k)) (λ i b. ap (product (q i)) (units-short i k l) ∙ Laws.product_zero (q i)) ∙ sym (g.none k l))
      (λ (l : k < suc e).
      total_only 6 k (λ i. product (q i) (at m i k)) (omega arith)
      (λ i b d. ap (product (q i)) (u.other i k d) ∙ Laws.product_zero (q i))
      ∙ ap (product (q k)) (u.one k l) ∙ Laws.product_one (q k) (g.small k))
      (le_or_lt (suc e) k)

  pub spanned_units : Spanned s e 0 m
  spanned_units =
      record {
        long = u.long;
        wide = u.wide;
        kernel = λ i j l. absurd (omega arith);
        keeps = λ q g z k. units-keeps q g k;
        low = λ i k l. u.other i k (λ q. omega arith);
        short = units-short;
        own = λ i.
            ⊎_elim (λ (l : suc e ≤ i). inl (λ k. row_none (at m) (suc e) u.none u.other i k l)) (λ (l : i < suc e). inr (u.one i l)) (le_or_lt (suc e) i);
        small = units_small;
      }
