-- What the loops of values in lanes do, a turn at a time, over plain variables.
use mathlib.Core.Path.{◌≡◌, refl, sym, ap, ap₂, ◌∙◌, subst}
use mathlib.Core.Logic.{⊎_elim}
use mathlib.Core.List.{List}
use Prim.Native.Nat.{ℕ, zero, suc, min, ◌+◌, ◌-◌, ◌*◌, ◌/◌, ◌%◌, ◌^◌, ◌<◌, ◌≤◌}
use native.Mathlib.Nat.{add-zero, add-suc, suc-add, zero-add, mod-eq_of_lt}
use native.Mathlib.Numerals.{add-one}
use native.Mathlib.Omega.{arith}
use borrow.Author.Tests.{eq-eqb, ne_eqb}
use lib.Bits.{bit_xor}
use lib.ListN.{get_or}
use Rattle.numbers.proofs.Cases.{same_or_not}
use Rattle.numbers.specs.Total.{total}
use Rattle.field.specs.Field.{sum, product, α, power}
use Rattle.field.specs.Inside.{inverse}
use Rattle.field.proofs.Laws
use Rattle.numbers.proofs.Totals.{total_same}
use Rattle.field.proofs.Totals.{total_front}
use Rattle.lanes.specs.Lanes.{pack, lane}
use Rattle.lanes.proofs.Laws.{lane_lt, lane_zero, lane_suc, lane_after, lane_xor}
use Rattle.code.proofs.Words.{listed_get}
use Rattle.polynomial.specs.Polynomial.{poly_at}
use Rattle.code.specs.Word.{listed}
use Rattle.planes.specs.Roots.{FirstFrom}
use Rattle.mender.specs.Values.{root_after, root_at, PlacesFrom, evaluated, numerator_at, denominator_at, numerator_of, NumeratorIn, lanes_of, Spread, BothAt, InversesIn, inverse_or_none, Raised}
use Rattle.mender.proofs.rows.Loops.{pow_lane}
use Rattle.mender.proofs.rows.Weaving.{lane_none}
use Rattle.mender.proofs.values.Lanes.{low_lanes, products_lane, scale_lane, pushed_below, pushed_more, joined_low, joined_high}
use Rattle.mender.proofs.values.Roots.{root_after_lem, root_last}

-- ---- places_from

-- i places are in the highest of five lanes, and at is the next
pub record PlacesTo (roots l x at i : ℕ) : Type 0 where
  pub most : i ≤ 5
  pub inside : at ≤ 63
  pub below : x < 64 ^ 5
  pub here : at ≡ root_at roots l i
  pub done : (j : ℕ) → j < i → lane x (5 - i + j) ≡ power α (root_at roots l j)

pub places_none : (roots l : ℕ) → l ≤ 63 → PlacesTo roots l 0 l 0
unfolding root_at
places_none roots l h = record { most = omega arith; inside = h; below = omega arith; here = refl; done = λ j b. absurd (omega arith) }

place_below : (c a : ℕ) → c ≡ power α (a % 64) → c < 64
place_below c a e = subst (λ (n : ℕ). n < 64) (sym e) (Laws.power_lt α (a % 64))

pub place_fits : (c a : ℕ) → c ≡ power α (a % 64) → c * 16777216 < 18446744073709551616
place_fits c a e = omega (arith, place_below c a e)

pub places_fit : (roots l x at i c : ℕ) → PlacesTo roots l x at i → c ≡ power α (at % 64) → x / 64 + c * 16777216 < 18446744073709551616
places_fit roots l x at i c a e = let b = a.below in omega (arith, place_below c at e)

pub places_again : (roots l x at i v c t next : ℕ) → i < 5 → PlacesTo roots l x at i → v ≡ power α (at % 64) → c ≡ v → t ≡ min (at + 1) 63 → FirstFrom roots (t % 64) next
    → PlacesTo roots l (x / 64 + c * 16777216) next (i + 1)
places_again roots l x at i v c t next h a ev ec et n =
    let e : c ≡ power α (at % 64) = ec ∙ ev in
    let small : c < 64 = place_below c at e in
    record {
      most = omega arith;
      inside = n.most;
      below = pushed_below x c a.below small;
      here = root_after_lem roots at next (subst (λ (m : ℕ). FirstFrom roots m next) (let q : t % 64 ≡ min (at + 1) 63 = omega arith in q) n) ∙ ap (root_after roots) a.here ∙ sym (root_last roots l i) ∙ ap (root_at roots l) (sym (add-one i));
      done =
          pushed_more x c a.below small i (λ j. power α (root_at roots l j)) h a.done
          (e ∙ ap (power α) (mod-eq_of_lt (let b = a.inside in omega arith) ∙ a.here));
    }

pub places_all : (roots l x at i : ℕ) → 5 ≤ i → PlacesTo roots l x at i → PlacesFrom roots l x
places_all roots l x at i h a =
    record {
      below = a.below;
      place = λ j b. ap (lane x) (let m = a.most in omega arith) ∙ a.done j (omega arith);
    }

-- ---- inverses

-- i inverses are in, and q has the lanes after those
pub record InversesTo (d r q i : ℕ) : Type 0 where
  pub most : i ≤ 5
  pub below : r < 64 ^ 5
  pub after : (k : ℕ) → lane q k ≡ lane d (i + k)
  pub done : (j : ℕ) → j < i → lane r (5 - i + j) ≡ inverse_or_none (lane d j)

pub inverses_none : (d : ℕ) → InversesTo d 0 d 0
inverses_none d = record { most = omega arith; below = omega arith; after = λ k. ap (lane d) (sym (zero-add k)); done = λ j b. absurd (omega arith) }

-- 0 has none
pub none_of_nothing : (v : ℕ) → v ≡ 0 → 0 ≡ inverse_or_none v
unfolding inverse_or_none
none_of_nothing v e = simp (eq-eqb v 0 e)

pub some_inverse : (v r : ℕ) → (v ≡ 0 → ⊥) → r ≡ inverse v → r ≡ inverse_or_none v
unfolding inverse_or_none
some_inverse v r d e = simp (ne_eqb v 0 d) e

inverse_below : (c u : ℕ) → c ≡ inverse_or_none u → c < 64
unfolding inverse_or_none
inverse_below c u e =
    subst (λ (n : ℕ). n < 64) (sym e)
    (⊎_elim (λ (z : u ≡ 0). simp (eq-eqb u 0 z) (omega arith)) (λ (d : u ≡ 0 → ⊥). simp (ne_eqb u 0 d) (Laws.inverse_lt u)) (same_or_not u 0))

pub inverse_fits : (c u : ℕ) → c ≡ inverse_or_none u → c * 16777216 < 18446744073709551616
inverse_fits c u e = omega (arith, inverse_below c u e)

pub inverses_fit : (d r q i c : ℕ) → InversesTo d r q i → c ≡ inverse_or_none (q % 64) → r / 64 + c * 16777216 < 18446744073709551616
inverses_fit d r q i c a e = let b = a.below in omega (arith, inverse_below c (q % 64) e)

pub inverses_again : (d r q i v c : ℕ) → i < 5 → InversesTo d r q i → v ≡ inverse_or_none (q % 64) → c ≡ v → InversesTo d (r / 64 + c * 16777216) (q / 64) (i + 1)
inverses_again d r q i v c h a ev ec =
    let e : c ≡ inverse_or_none (q % 64) = ec ∙ ev in
    let small : c < 64 = inverse_below c (q % 64) e in
    record {
      most = omega arith;
      below = pushed_below r c a.below small;
      after = λ k. sym (lane_suc q k) ∙ a.after (suc k) ∙ ap (lane d) (omega arith);
      done =
          pushed_more r c a.below small i (λ j. inverse_or_none (lane d j)) h a.done
          (e ∙ ap inverse_or_none (sym (lane_zero q) ∙ a.after 0 ∙ ap (lane d) (omega arith)));
    }

pub inverses_all : (d r q i : ℕ) → 5 ≤ i → InversesTo d r q i → InversesIn d r
inverses_all d r q i h a = record { at = λ j b. ap (lane r) (let m = a.most in omega arith) ∙ a.done j (omega arith) }

-- ---- both_at

-- the coefficients from m on are in
pub record BothTo (f x y r m : ℕ) : Type 0 where
  pub most : m ≤ 5
  pub small : x < 64 ^ 5
  pub twice : y ≡ x + x * 1073741824
  pub above : (j : ℕ) → j < 5 → lane r j ≡ evaluated (5 - m) m (lane f) (lane x j)
  pub under : (j : ℕ) → j < 5 → lane r (5 + j) ≡ evaluated (5 - m) m (λ k. lane f (5 + k)) (lane x j)

pub both_none : (f x : ℕ) → x < 1073741824 → BothTo f x (x + x * 1073741824) 0 5
unfolding poly_at listed
both_none f x h = record { most = omega arith; small = h; twice = refl; above = λ j l. lane_none j; under = λ j l. lane_none (5 + j) }

evaluated_more : (m v u x : ℕ) (g : ℕ → ℕ) → m < 5 → u ≡ evaluated (5 - suc m) (suc m) g x → v ≡ g m → sum (product x u) v ≡ evaluated (5 - m) m g x
unfolding poly_at listed
evaluated_more m v u x g l e q =
    let d : 5 - m ≡ suc (5 - suc m) = omega arith in
    Laws.sum_comm (product x u) v ∙ ap₂ (λ (a b : ℕ). sum a (product x b)) q e ∙ sym (ap (λ (n : ℕ). evaluated n m g x) d)

pub both_again : (f x y r m t c : ℕ) → 0 < m → BothTo f x y r m → t ≡ pack 10 (λ k. product (lane y k) (lane r k)) → Spread f (m - 1) c
    → BothTo f x y (bit_xor t c) (m - 1)
both_again f x y r zero t c h a e s = absurd (omega arith)
both_again f x y r (suc m) t c h a e s =
    subst (λ (n : ℕ). Spread f n c → BothTo f x y (bit_xor t c) n) (one m)
    (λ s.
    record {
      most = (let b = a.most in omega arith);
      small = a.small;
      twice = a.twice;
      above = λ j l.
          lane_xor t c j
          ∙ ap₂ sum (products_lane y r t j e (omega arith) ∙ ap₂ product (ap (λ (n : ℕ). lane n j) a.twice ∙ joined_low x x a.small j l) (a.above j l)) (s.above j l)
          ∙ evaluated_more m (lane f m) (evaluated (5 - suc m) (suc m) (lane f) (lane x j)) (lane x j) (lane f) (let b = a.most in omega arith) refl refl;
      under = λ j l.
          lane_xor t c (5 + j)
          ∙ ap₂ sum (products_lane y r t (5 + j) e (omega arith) ∙ ap₂ product (ap (λ (n : ℕ). lane n (5 + j)) a.twice ∙ joined_high x x a.small j) (a.under j l)) (s.under j l)
          ∙ evaluated_more m (lane f (5 + m)) (evaluated (5 - suc m) (suc m) (λ k. lane f (5 + k)) (lane x j)) (lane x j) (λ k. lane f (5 + k)) (let b = a.most in omega arith) refl refl;
    })
    s
  where
    one : (m : ℕ) → m ≡ suc m - 1
    one m = omega arith

pub both_all : (f x y r m : ℕ) → m ≤ 0 → BothTo f x y r m → BothAt f x r
unfolding numerator_at denominator_at
both_all f x y r m h a =
    let z : m ≡ 0 = omega arith in
    record {
      above = λ j l. a.above j l ∙ ap (λ (n : ℕ). evaluated (5 - n) n (lane f) (lane x j)) z;
      under = λ j l. a.under j l ∙ ap (λ (n : ℕ). evaluated (5 - n) n (λ k. lane f (5 + k)) (lane x j)) z;
    }

-- ---- raised

-- k - n factors are in
pub record RaisedTo (v x n r k : ℕ) : Type 0 where
  pub least : n ≤ k
  pub most : k ≤ 5
  pub done : (j : ℕ) → j < 5 → lane r j ≡ product (power (lane x j) (k - n)) (lane v j)

pub raised_none : (v x n : ℕ) → n ≤ 5 → RaisedTo v x n v n
unfolding power
raised_none v x n h =
    record {
      least = omega arith;
      most = h;
      done = λ j l. sym (ap (λ (m : ℕ). product (power (lane x j) m) (lane v j)) (none n) ∙ Laws.one_product (lane v j) (lane_lt v j));
    }
  where
    none : (n : ℕ) → n - n ≡ 0
    none n = omega arith

pub raised_again : (v x n r k t : ℕ) → k < 5 → RaisedTo v x n r k → t ≡ pack 10 (λ i. product (lane x i) (lane r i)) → RaisedTo v x n t (k + 1)
unfolding power
raised_again v x n r k t h a e =
    record {
      least = (let b = a.least in omega arith);
      most = omega arith;
      done = λ j l.
          products_lane x r t j e (omega arith) ∙ ap (product (lane x j)) (a.done j l)
          ∙ sym (Laws.product_assoc (lane x j) (power (lane x j) (k - n)) (lane v j))
          ∙ ap (λ (m : ℕ). product (power (lane x j) m) (lane v j)) (more a.least);
    }
  where
    more : n ≤ k → suc (k - n) ≡ k + 1 - n
    more b = omega arith

pub raised_all : (v x n r k : ℕ) → 5 ≤ k → RaisedTo v x n r k → Raised v x n r
raised_all v x n r k h a =
    let e : k ≡ 5 = (let m = a.most in omega arith) in
    record { at = λ j l. a.done j l ∙ ap (λ (i : ℕ). product (power (lane x j) (i - n)) (lane v j)) e }

-- ---- numerator

-- the sums from k on are in
pub record NumeratorTo (q : ℕ) (s : List ℕ) (n c k : ℕ) : Type 0 where
  pub most : k ≤ 5
  pub at : (m : ℕ) → m < 5 + k → lane c m ≡ total (5 - k) (λ i. product (lane q (suc (m + i))) (get_or s (n + (k + i)) 0))

pub numerator_none : (q : ℕ) (s : List ℕ) (n : ℕ) → NumeratorTo q s n 0 5
unfolding total
numerator_none q s n = record { most = omega arith; at = λ m l. lane_none m }

pub numerator_again : (q : ℕ) (s : List ℕ) (n c k t : ℕ) → 0 < k → NumeratorTo q s n c k → t ≡ pack 10 (λ i. product (lane q i) (get_or s (n + (k - 1)) 0))
    → NumeratorTo q s n (bit_xor c t / 64) (k - 1)
numerator_again q s n c zero t h a e = absurd (omega arith)
numerator_again q s n c (suc k) t h a e =
    subst (λ (i : ℕ). t ≡ pack 10 (λ l. product (lane q l) (get_or s (n + i) 0)) → NumeratorTo q s n (bit_xor c t / 64) i) (one k)
    (λ e.
    record {
      most = (let b = a.most in omega arith);
      at = λ m l.
          let d : 5 - k ≡ suc (5 - suc k) = (let b = a.most in omega arith) in
          sym (lane_suc (bit_xor c t) m) ∙ lane_xor c t (suc m)
          ∙ ap₂ sum (a.at (suc m) (omega arith)) (scale_lane q (get_or s (n + k) 0) t (suc m) e (let b = a.most in omega arith))
          ∙ Laws.sum_comm (total (5 - suc k) (λ i. product (lane q (suc (suc m + i))) (get_or s (n + (suc k + i)) 0))) (product (lane q (suc m)) (get_or s (n + k) 0))
          ∙ ap₂ sum (ap₂ (λ (u v : ℕ). product (lane q (suc u)) (get_or s (n + v) 0)) (sym (add-zero m)) (sym (add-zero k)))
          (total_same (5 - suc k) (λ i. product (lane q (suc (suc m + i))) (get_or s (n + (suc k + i)) 0)) (λ i. product (lane q (suc (m + suc i))) (get_or s (n + (k + suc i)) 0))
          (λ i b. ap₂ (λ (u v : ℕ). product (lane q (suc u)) (get_or s (n + v) 0)) (suc-add m i ∙ sym (add-suc m i)) (suc-add k i ∙ sym (add-suc k i))))
          ∙ sym (total_front (5 - suc k) (λ i. product (lane q (suc (m + i))) (get_or s (n + (k + i)) 0)))
          ∙ sym (ap (λ (j : ℕ). total j (λ i. product (lane q (suc (m + i))) (get_or s (n + (k + i)) 0))) d);
    })
    e
  where
    one : (k : ℕ) → k ≡ suc k - 1
    one k = omega arith

-- as the code takes a sum: the lanes from n on, and of these lane k
pub sum_from : (sums n k from v : ℕ) → n ≤ 5 → k < 5 → from ≡ sums / 2 ^ (6 * n) → v ≡ lane from k → v ≡ get_or (lanes_of sums) (n + k) 0
unfolding lanes_of
sum_from sums n k from v h l ef ev =
    ev ∙ ap (λ (p : ℕ). lane p k) (ef ∙ ap (λ (m : ℕ). sums / m) (pow_lane n)) ∙ lane_after sums n k ∙ sym (listed_get (lane sums) 10 (n + k) (omega arith))

pub numerator_inside : (q : ℕ) (s : List ℕ) (n c k : ℕ) → 0 < k → NumeratorTo q s n c k → k - 1 < 10
numerator_inside q s n c k h a = let m = a.most in omega arith

pub numerator_turn : (q sums n c k t from v : ℕ) → n ≤ 5 → 0 < k → from ≡ sums / 2 ^ (6 * n) → NumeratorTo q (lanes_of sums) n c k → v ≡ lane from (k - 1)
    → t ≡ pack 10 (λ i. product (lane q i) v) → NumeratorTo q (lanes_of sums) n (bit_xor c t / 64) (k - 1)
numerator_turn q sums n c k t from v h p ef a ev et =
    numerator_again q (lanes_of sums) n c k t p a
    (et ∙ ap (λ (y : ℕ). pack 10 (λ i. product (lane q i) y)) (sum_from sums n (k - 1) from v h (let m = a.most in omega arith) ef ev))

pub numerator_all : (q : ℕ) (s : List ℕ) (n c k : ℕ) → k ≤ 0 → NumeratorTo q s n c k → NumeratorIn q s n (c % 1073741824)
unfolding numerator_of
numerator_all q s n c k h a =
    let z : k ≡ 0 = omega arith in
    record {
      below = omega arith;
      at = λ m l.
          sym (low_lanes c (c % 1073741824) 5 m (omega arith) refl l) ∙ a.at m (omega arith)
          ∙ ap (λ (j : ℕ). total (5 - j) (λ i. product (lane q (suc (m + i))) (get_or s (n + (j + i)) 0))) z
          ∙ total_same 5 (λ i. product (lane q (suc (m + i))) (get_or s (n + (0 + i)) 0)) (λ i. product (lane q (suc (m + i))) (get_or s (n + i) 0))
          (λ i b. ap (λ (u : ℕ). product (lane q (suc (m + i))) (get_or s (n + u) 0)) (zero-add i));
    }
