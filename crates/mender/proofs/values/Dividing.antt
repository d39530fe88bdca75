-- Numerator by denominator at five roots at once: the fraction and its coefficients in lanes, and the quotients, kept for the roots that come.
use mathlib.Core.Path.{◌≡◌, sym, ap, ap₂, ◌∙◌}
use mathlib.Core.Logic.{⊎_elim}
use mathlib.Core.List.{List}
use Prim.Native.Nat.{ℕ, suc, ◌+◌, ◌-◌, ◌*◌, ◌/◌, ◌%◌, ◌^◌, ◌<◌}
use native.Mathlib.Nat.{add-zero}
use native.Mathlib.Omega.{arith}
use borrow.Author.Tests.{eq-eqb, ne_eqb}
use Rattle.numbers.proofs.Cases.{same_or_not}
use Rattle.field.specs.Field.{product, power}
use Rattle.lanes.specs.Lanes.{pack, lane}
use Rattle.lanes.proofs.Laws.{lane_lt, lane_zero, lane_after, lane_pack}
use Rattle.mender.specs.declared.values.Ahead.{Ahead}
use Rattle.mender.specs.Values.{PlacesFrom, quotient_at, denominator_of, NumeratorIn, DenominatorIn, FractionIn, Spread, BothAt, InversesIn, inverse_or_none, Raised, QuotientsIn, QuotientsAhead, QuotientNext}
use Rattle.mender.proofs.rows.Loops.{pow_lane}
use Rattle.mender.proofs.values.Lanes.{products_lane, joined_low, joined_high, five_lanes}

-- ---- spread

pub spread_is : (f m q : ℕ) → q ≡ f / 2 ^ (6 * m) → Spread f m ((q % 64 + q / 1073741824 % 64 * 1073741824) * 17043521)
spread_is f m q e =
    let a : ℕ = q % 64 in
    let b : ℕ = q / 1073741824 % 64 in
    let both : (a + b * 1073741824) * 17043521 ≡ a * 17043521 + b * 17043521 * 1073741824 = omega arith in
    let after : q ≡ f / 64 ^ m = e ∙ ap (λ (n : ℕ). f / n) (pow_lane m) in
    record {
      above = λ j l.
          ap (λ (n : ℕ). lane n j) both ∙ joined_low (a * 17043521) (b * 17043521) (omega arith) j l ∙ five_lanes a j (omega arith) l
          ∙ sym (lane_zero q) ∙ ap (λ (n : ℕ). lane n 0) after ∙ lane_after f m 0 ∙ ap (lane f) (add-zero m);
      under = λ j l.
          ap (λ (n : ℕ). lane n (5 + j)) both ∙ joined_high (a * 17043521) (b * 17043521) (omega arith) j ∙ five_lanes b j (omega arith) l
          ∙ sym (lane_zero (q / 64 ^ 5)) ∙ lane_after q 5 0 ∙ ap (λ (n : ℕ). lane n 5) after ∙ lane_after f m 5 ∙ ap (lane f) (omega arith);
    }

pub spread_fits : (q : ℕ) → (q % 64 + q / 1073741824 % 64 * 1073741824) * 17043521 < 18446744073709551616
spread_fits q = omega arith

-- ---- quotients

pub quotients_are : (f n x both d t r : ℕ) → BothAt f x both → InversesIn (both / 1073741824) d → t ≡ pack 10 (λ k. product (lane both k) (lane d k)) → Raised t x n r
    → QuotientsIn f n x r
unfolding quotient_at
quotients_are f n x both d t r b i e a =
    record {
      at = λ j l.
          a.at j l
          ∙ ap (product (power (lane x j) (5 - n)))
          (products_lane both d t j e (omega arith) ∙ ap₂ product (b.above j l) (i.at j l ∙ ap inverse_or_none (lane_after both 5 j ∙ b.under j l)));
    }

-- ---- denominator and fraction

denominator_lt : (q m : ℕ) → denominator_of q m < 64
unfolding denominator_of
denominator_lt q m =
    ⊎_elim (λ (e : m % 2 ≡ 0). simp (eq-eqb (m % 2) 0 e) (lane_lt q (suc m))) (λ (d : m % 2 ≡ 0 → ⊥). simp (ne_eqb (m % 2) 0 d) (omega arith)) (same_or_not (m % 2) 0)

denominator_packed : (q : ℕ) → q / 64 % 64 + q / 262144 % 64 * 4096 + q / 1073741824 % 64 * 16777216 ≡ pack 5 (denominator_of q)
unfolding pack denominator_of lane
denominator_packed q = omega arith

pub denominator_is : (q : ℕ) → DenominatorIn q (q / 64 % 64 + q / 262144 % 64 * 4096 + q / 1073741824 % 64 * 16777216)
denominator_is q = record { below = omega arith; at = λ m l. ap (λ (n : ℕ). lane n m) (denominator_packed q) ∙ lane_pack 5 (denominator_of q) (denominator_lt q) m l }

pub fraction_fit : (q : ℕ) (s : List ℕ) (n u v : ℕ) → NumeratorIn q s n u → DenominatorIn q v → u + v * 1073741824 < 18446744073709551616
fraction_fit q s n u v a b = let f = a.below in let g = b.below in omega arith

pub fraction_mul : (q v : ℕ) → DenominatorIn q v → v * 1073741824 < 18446744073709551616
fraction_mul q v b = let g = b.below in omega arith

pub fraction_is : (q : ℕ) (s : List ℕ) (n u v : ℕ) → NumeratorIn q s n u → DenominatorIn q v → FractionIn q s n (u + v * 1073741824)
fraction_is q s n u v a b =
    record {
      above = λ m l. joined_low u v a.below m l ∙ a.at m l;
      under = λ m l. joined_high u v a.below m ∙ b.at m l;
    }

-- ---- looked_ahead

pub ahead_same : (f n roots l : ℕ) (a : Ahead) → 0 < a.left → QuotientsAhead f n roots l a → QuotientNext f n roots l a
ahead_same f n roots l a h q = record { some = h; ahead = q }

pub ahead_new : (f n roots l x r : ℕ) → PlacesFrom roots l x → QuotientsIn f n x r → QuotientNext f n roots l (record { values = r; left = 5 })
ahead_new f n roots l x r p q =
    record {
      some = omega arith;
      ahead = record { few = omega arith; at = λ j b. q.at j b ∙ ap (quotient_at f n) (p.place j b) };
    }

pub places_small : (roots l x : ℕ) → PlacesFrom roots l x → x < 1073741824
places_small roots l x p = p.below
