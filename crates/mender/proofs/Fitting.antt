-- What the sums say of a word that fits them: the first row left is 0 at the places of its errors, and their values come out of it.
use mathlib.Core.Path.{◌≡◌, refl, sym, ap, ap₂, ◌∙◌, subst}
use mathlib.Core.Logic.{◌⊎◌, inl, inr, ⊎_elim}
use mathlib.Core.List.{List, []}
use Prim.Native.Nat.{ℕ, zero, suc, ◌+◌, ◌-◌, ◌<◌, ◌≤◌}
use native.Mathlib.Nat.{le_of_eq}
use native.Mathlib.Omega.{arith}
use lib.ListN.{get_or, length, drop, get_or-eq_default}
use lib.Seq.{drop-cons}
use borrow.Author.Tests.{eq-eqb, ne_eqb}
use Rattle.numbers.proofs.Cases.{le_or_lt, same_or_not, pos_of_not_zero}
use Rattle.field.specs.Field.{sum, product, α, power}
use Rattle.field.specs.Inside.{inverse}
use Rattle.field.proofs.Laws
use Rattle.numbers.proofs.Totals.{total_none}
use Rattle.polynomial.specs.Sums.{moment, Places, Values, Zeros}
use Rattle.polynomial.specs.Polynomial.{poly_at, combined, weighted, over, locator}
use Rattle.polynomial.proofs.Places.{place_pos, place_lt}
use Rattle.polynomial.proofs.Vandermonde.{zeros_get, zeros_moment}
use Rattle.polynomial.proofs.Combining.{weighted_get, combine_is}
use Rattle.polynomial.proofs.Division.{over_get, length_over, poly_past, poly_small, over_small}
use Rattle.polynomial.proofs.Locator.{locator_elements}
use Rattle.polynomial.proofs.Theorems.{combining, zero_at_places, Locates, a_locator, one_value_left}
use Rattle.code.proofs.Sums.{places, places_long, places_get, places_good, values_63, power_sum_moment}
use Rattle.mender.specs.Mender.{Fits}
use Rattle.mender.specs.Inside.{mixed, coef, at, Degree, Spanned, value_of}

-- p combines n windows to 0, has 1 at its degree r, and no polynomial of a lesser degree but 0 does so
pub record Least (s : List ℕ) (e n r : ℕ) (p : List ℕ) : Type 0 where
  pub wide : length p ≡ 6
  pub small : (k : ℕ) → get_or p k 0 < 64
  pub inside : r < 6
  pub top : get_or p r 0 ≡ 1
  pub low : (k : ℕ) → r < k → get_or p k 0 ≡ 0
  pub short : (k : ℕ) → e < k → get_or p k 0 ≡ 0
  pub kernel : (j : ℕ) → j < n → mixed (coef p) s j ≡ 0
  pub least : (q : ℕ → ℕ) → Degree e q → ((k : ℕ) → r ≤ k → q k ≡ 0) → ((j : ℕ) → j < n → mixed q s j ≡ 0) → (k : ℕ) → q k ≡ 0

-- the first row left is such a polynomial
pub row_least : (s : List ℕ) (e n : ℕ) (m : List (List ℕ)) (r : ℕ) → Spanned s e n m → r < 6 → at m r r ≡ 1
    → ((i k : ℕ) → i < r → at m i k ≡ 0) → Least s e n r (get_or m r [])
row_least s e n m r a h one before =
    record {
      wide = a.wide r h;
      small = a.small r;
      inside = h;
      top = one;
      low = a.low r;
      short = a.short r;
      kernel = a.kernel r;
      least = λ q g past z k.
          sym (a.keeps q g z k)
          ∙ total_none 6 (λ i. product (q i) (at m i k))
          (λ i l.
          ⊎_elim (λ (b : r ≤ i). ap (λ (t : ℕ). product t (at m i k)) (past i b) ∙ Laws.zero_product (at m i k))
          (λ (b : i < r). ap (product (q i)) (before i k b) ∙ Laws.product_zero (q i)) (le_or_lt r i));
    }

-- v q x^58 times x^5, x being a place, is v q
back_to_value : (v q x : ℕ) → product (product (product v q) (power x 58)) (power x 5) ≡ product (product v q) (power x 63)
back_to_value v q x = Laws.product_assoc (product v q) (power x 58) (power x 5) ∙ ap (product (product v q)) (sym (Laws.power_add x 58 5))

-- ---- a word w that fits c sums with at most e errors, and n windows of them

module _ (s : List ℕ) (c e n : ℕ) (w : List ℕ) (enough : e ≤ n) (few : n + e ≤ c) (most : e ≤ 5) (fits : Fits s c e w) where
  xs : List ℕ
  xs = places 63

  xs-good : Places xs
  unfolding xs
  xs-good = places_good 63 (omega arith)

  xs-values : Values w xs
  unfolding xs
  xs-values = values_63 w fits.long fits.characters

  -- what the code combines is what the word's own sums combine to
  mixed-fits : (q : List ℕ) (j : ℕ) → length q ≤ 6 → ((k : ℕ) → (get_or q k 0 ≡ 0) ⊎ (j + k < c)) → mixed (coef q) s j ≡ combined q (58 + j) w xs
  unfolding mixed xs
  mixed-fits q j l g =
      combine_is 6 q (λ k. get_or s (j + k) 0) (58 + j) w (places 63) l
      (λ k.
      ⊎_elim
      (λ (z : get_or q k 0 ≡ 0).
      ap (λ (t : ℕ). product t (get_or s (j + k) 0)) z ∙ Laws.zero_product (get_or s (j + k) 0)
      ∙ sym (ap (λ (t : ℕ). product t (moment (58 + j + k) w (places 63))) z ∙ Laws.zero_product (moment (58 + j + k) w (places 63))))
      (λ (b : j + k < c).
      ap (product (get_or q k 0))
      (fits.sums (j + k) b ∙ power_sum_moment (58 + (j + k)) w fits.long ∙ ap (λ (i : ℕ). moment i w (places 63)) (regroup j k)))
      (g k))
    where
      regroup : (j k : ℕ) → 58 + (j + k) ≡ 58 + j + k
      regroup j k = omega arith

  -- the sums that a polynomial of degree at most e reads at a window are among the c
  reads : (q : ℕ → ℕ) (j : ℕ) → j < n → ((k : ℕ) → e < k → q k ≡ 0) → (k : ℕ) → (q k ≡ 0) ⊎ (j + k < c)
  reads q j l z k = ⊎_elim (λ (b : suc e ≤ k). inl (z k b)) (λ (b : k < suc e). inr (omega arith)) (le_or_lt (suc e) k)

  -- the locator has degree at most e, and combines the windows to 0
  located : Locates w xs (locator w xs)
  located = a_locator w xs xs-good xs-values

  locator-degree : Degree e (coef (locator w xs))
  locator-degree =
      let l = located.degree in
      let g = fits.light in
      record { none = λ k b. get_or-eq_default (locator w xs) 0 (omega arith); small = locator_elements w xs }

  locator-kernel : (j : ℕ) → j < n → mixed (coef (locator w xs)) s j ≡ 0
  locator-kernel j l =
      (let d = located.degree in let g = fits.light in mixed-fits (locator w xs) j (omega arith) (reads (coef (locator w xs)) j l locator-degree.none))
      ∙ located.combines (58 + j)

  -- and is not 0 at 0, so some polynomial that does so is not
  pub some_kernel : ((q : ℕ → ℕ) → Degree e q → ((j : ℕ) → j < n → mixed q s j ≡ 0) → q 0 ≡ 0) → ⊥
  some_kernel z =
      let g : 0 < get_or (locator w xs) 0 0 = located.lowest in
      let q : get_or (locator w xs) 0 0 ≡ 0 = z (coef (locator w xs)) locator-degree locator-kernel in
      omega arith

  -- a row is left, since the locator is made of the rows
  module _ (m : List (List ℕ)) (a : Spanned s e n m) where
    pub some_row : ((i k : ℕ) → i < 6 → at m i k ≡ 0) → ⊥
    some_row z =
        some_kernel
        (λ q d h.
        sym (a.keeps q d h 0)
        ∙ total_none 6 (λ i. product (q i) (at m i 0)) (λ i l. ap (product (q i)) (z i 0 l) ∙ Laws.product_zero (q i)))

  -- and the first row left gives each value
  module _ (p : List ℕ) (r : ℕ) (a : Least s e n r p) where
    solves : (j : ℕ) → j < n → combined p (58 + j) w xs ≡ 0
    solves j l = sym (mixed-fits p j (le_of_eq a.wide) (reads (coef p) j l a.short)) ∙ a.kernel j l

    zero-at-errors : Zeros (weighted p w xs)
    zero-at-errors = zero_at_places p xs w n 58 xs-good xs-values (let g = fits.light in omega arith) solves

    -- so it combines any window to 0 whose sums are among the c
    pub combines_more : (j : ℕ) → ((k : ℕ) → (get_or p k 0 ≡ 0) ⊎ (j + k < c)) → mixed (coef p) s j ≡ 0
    combines_more j g =
        mixed-fits p j (le_of_eq a.wide) g ∙ combining p (58 + j) w xs ∙ zeros_moment (58 + j) (weighted p w xs) xs zero-at-errors

    module _ (b : ℕ) (hb : b < 63) where
      x : ℕ
      x = get_or xs b 0

      b-inside : b < length xs
      unfolding xs
      b-inside = subst (λ (k : ℕ). b < k) (sym (places_long 63)) hb

      x_pos : 0 < x
      unfolding x
      x_pos = place_pos xs b xs-good b-inside

      x_lt : x < 64
      unfolding x
      x_lt = place_lt xs b xs-good b-inside

      w-lt : get_or w b 0 < 64
      w-lt = fits.characters b

      -- no root, no value
      not_root : (poly_at p x ≡ 0 → ⊥) → get_or w b 0 ≡ 0
      unfolding x
      not_root d =
          Laws.product_cancel (get_or w b 0) (poly_at p x) w-lt (pos_of_not_zero (poly_at p x) d) (poly_small p x a.small)
          (sym (weighted_get p w xs xs-values b) ∙ zeros_get (weighted p w xs) zero-at-errors b)

      module _ (root : poly_at p x ≡ 0) where
        q : List ℕ
        q = over p x

        q-past : (k : ℕ) → e ≤ k → get_or q k 0 ≡ 0
        unfolding q
        q-past k l = over_get p x k ∙ poly_past p x (suc k) (λ i g. a.short i (omega arith))

        q-low : (k : ℕ) → r ≤ k → get_or q k 0 ≡ 0
        unfolding q
        q-low k l = over_get p x k ∙ poly_past p x (suc k) (λ i g. a.low i (omega arith))

        q-small : (k : ℕ) → get_or q k 0 < 64
        unfolding q
        q-small = over_small p x a.small

        q-wide : length q ≤ 6
        unfolding q
        q-wide = le_of_eq (length_over p x ∙ a.wide)

        -- only the value at x is left
        left : (j : ℕ) → combined q j w xs ≡ product (product (get_or w b 0) (poly_at q x)) (power x j)
        unfolding x q
        left j = one_value_left p w xs xs-good xs-values a.small zero-at-errors b b-inside root j

        -- were x a root of q too, q would combine to 0 everywhere, and so be 0, and p with it
        q-kernel : poly_at q x ≡ 0 → (j : ℕ) → j < n → mixed (coef q) s j ≡ 0
        q-kernel z j l =
            mixed-fits q j q-wide (reads (coef q) j l (λ k g. q-past k (omega arith)))
            ∙ left (58 + j)
            ∙ ap (λ (t : ℕ). product (product (get_or w b 0) t) (power x (58 + j))) z
            ∙ ap (λ (t : ℕ). product t (power x (58 + j))) (Laws.product_zero (get_or w b 0)) ∙ Laws.zero_product (power x (58 + j))

        q-none : poly_at q x ≡ 0 → (k : ℕ) → get_or q k 0 ≡ 0
        q-none z = a.least (coef q) (record { none = λ k l. q-past k (omega arith); small = q-small }) q-low (q-kernel z)

        top : poly_at (drop r p) x ≡ 1
        unfolding poly_at
        top =
            ap (λ (l : List ℕ). poly_at l x) (drop-cons p r 0 (subst (λ (k : ℕ). r < k) (sym a.wide) a.inside))
            ∙ ap₂ (λ (u v : ℕ). sum u (product x v)) a.top (poly_past p x (suc r) a.low)
            ∙ ap (sum 1) (Laws.product_zero x) ∙ Laws.sum_zero 1

        top-zero : (t : ℕ) → t ≡ r → ((k : ℕ) → get_or q k 0 ≡ 0) → poly_at (drop t p) x ≡ 0
        unfolding q
        top-zero zero g z = root
        top-zero (suc t) g z = sym (over_get p x t) ∙ z t

        -- so the value is divided by something that is not 0
        simple : 0 < poly_at q x
        simple = pos_of_not_zero (poly_at q x) (λ z. let f : ◌≡◌ {A = ℕ} 1 0 = sym top ∙ top-zero r refl (q-none z) in omega arith)

        value : product (product (mixed (coef q) s 0) (power x 5)) (inverse (poly_at q x)) ≡ get_or w b 0
        value =
            let d : ℕ = poly_at q x in
            let v : ℕ = get_or w b 0 in
            ap (λ (t : ℕ). product (product t (power x 5)) (inverse d)) (mixed-fits q 0 q-wide (λ k. ⊎_elim (λ (g : e ≤ k). inl (q-past k g)) (λ (g : k < e). inr (omega arith)) (le_or_lt e k)) ∙ left 58)
            ∙ ap (λ (t : ℕ). product t (inverse d)) (back_to_value v d x ∙ ap (product (product v d)) (Laws.power_63 x x_pos x_lt) ∙ Laws.product_one (product v d) (Laws.product_lt v d))
            ∙ Laws.product_assoc v d (inverse d) ∙ ap (product v) (Laws.inverse_right d simple (poly_small q x q-small)) ∙ Laws.product_one v w-lt

        value-root : value_of p s x ≡ get_or w b 0
        unfolding value_of q
        value-root =
            let g = simple in
            simp (eq-eqb (poly_at p x) 0 root, ne_eqb (poly_at (over p x) x) 0 (λ z. omega arith)) value

      value-here : value_of p s x ≡ get_or w b 0
      unfolding value_of
      value-here =
          ⊎_elim (λ (z : poly_at p x ≡ 0). value-root z)
          (λ (d : poly_at p x ≡ 0 → ⊥). simp (ne_eqb (poly_at p x) 0 d) (sym (not_root d))) (same_or_not (poly_at p x) 0)

      pub value_is : value_of p s (power α (62 - b)) ≡ get_or w b 0
      unfolding x xs
      value_is = ap (value_of p s) (sym (places_get 63 b hb)) ∙ value-here
