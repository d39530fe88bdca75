-- The values at five roots at once, in lanes: the places of the roots, and the two polynomials whose quotient at each place is the value.
use Rattle.std.specs.Prelude.{◌≡◌, cond, List, ℕ, zero, suc, min, ◌+◌, ◌-◌, ◌/◌, ◌%◌, ◌^◌, ◌<◌, ◌≤◌, eqb, length, get_or, replicate}
use Rattle.numbers.specs.Total.{total}
use Rattle.field.specs.Field.{product, α, power}
use Rattle.field.specs.Inside.{inverse}
use Rattle.lanes.specs.Lanes.{lane}
use Rattle.polynomial.specs.Sums.{weight}
use Rattle.polynomial.specs.Polynomial.{poly_at}
use Rattle.code.specs.Word.{nowhere, listed}
use Rattle.code.specs.Inside.{Ends}
use Rattle.mender.specs.declared.values.Ahead.{Ahead}
use Rattle.mender.specs.declared.Mended.{Mended}
use Rattle.mender.specs.Inside.{mixed, coef, ValuedFrom}

-- ---- the roots from a place on

-- the first of n bits from l on that is set, or the one after them
unfoldable pub first_set : ℕ → ℕ → ℕ → ℕ
first_set zero roots l = l
first_set (suc n) roots l = cond (eqb (roots / 2 ^ l % 2) 0) (first_set n roots (suc l)) l

-- the root after the place l, or 63
unfoldable pub root_after : ℕ → ℕ → ℕ
root_after roots l = first_set (63 - min (l + 1) 63) roots (min (l + 1) 63)

-- the place j roots after l
unfoldable pub root_at : ℕ → ℕ → ℕ → ℕ
root_at roots l zero = l
root_at roots l (suc j) = root_at roots (root_after roots l) j

-- five places from l on, in lanes
pub record PlacesFrom (roots l r : ℕ) : Type 0 where
  pub below : r < 64 ^ 5
  pub place : (j : ℕ) → j < 5 → lane r j ≡ power α (root_at roots l j)

-- ---- a fraction: two polynomials of five coefficients each, in the ten lanes of one number

-- f m + x (f (m + 1) + x (..)), n terms
abbrev pub evaluated : ℕ → ℕ → (ℕ → ℕ) → ℕ → ℕ
evaluated n m f x = poly_at (listed f m n) x

-- at x, the numerator, in lanes 0 to 4, and the denominator, in the lanes after them
unfoldable pub numerator_at : ℕ → ℕ → ℕ
numerator_at f x = evaluated 5 0 (lane f) x

unfoldable pub denominator_at : ℕ → ℕ → ℕ
denominator_at f x = evaluated 5 0 (λ m. lane f (5 + m)) x

-- the inverse of what is not 0, and 0 for 0
unfoldable pub inverse_or_none : ℕ → ℕ
inverse_or_none v = cond (eqb v 0) 0 (inverse v)

-- their quotient, 0 where the denominator is 0, times what the fifth power of x has more than n factors
unfoldable pub quotient_at : ℕ → ℕ → ℕ → ℕ
quotient_at f n x = product (power x (5 - n)) (product (numerator_at f x) (inverse_or_none (denominator_at f x)))

-- ten lanes as a list
unfoldable pub lanes_of : ℕ → List ℕ
lanes_of p = listed (lane p) 0 10

-- coefficient m of the numerator, for the locator in the lanes of q and the sums from n on
unfoldable pub numerator_of : ℕ → List ℕ → ℕ → ℕ → ℕ
numerator_of q s n m = total 5 (λ k. product (lane q (suc (m + k))) (get_or s (n + k) 0))

-- and of the denominator, the locator's derivative
unfoldable pub denominator_of : ℕ → ℕ → ℕ
denominator_of q m = cond (eqb (m % 2) 0) (lane q (suc m)) 0

pub record NumeratorIn (q : ℕ) (s : List ℕ) (n r : ℕ) : Type 0 where
  pub below : r < 64 ^ 5
  pub at : (m : ℕ) → m < 5 → lane r m ≡ numerator_of q s n m

pub record DenominatorIn (q r : ℕ) : Type 0 where
  pub below : r < 64 ^ 5
  pub at : (m : ℕ) → m < 5 → lane r m ≡ denominator_of q m

pub record FractionIn (q : ℕ) (s : List ℕ) (n r : ℕ) : Type 0 where
  pub above : (m : ℕ) → m < 5 → lane r m ≡ numerator_of q s n m
  pub under : (m : ℕ) → m < 5 → lane r (5 + m) ≡ denominator_of q m

-- coefficient m of the numerator in each of five lanes, and that of the denominator in each of the five after them
pub record Spread (f m r : ℕ) : Type 0 where
  pub above : (j : ℕ) → j < 5 → lane r j ≡ lane f m
  pub under : (j : ℕ) → j < 5 → lane r (5 + j) ≡ lane f (5 + m)

-- both at five places
pub record BothAt (f x r : ℕ) : Type 0 where
  pub above : (j : ℕ) → j < 5 → lane r j ≡ numerator_at f (lane x j)
  pub under : (j : ℕ) → j < 5 → lane r (5 + j) ≡ denominator_at f (lane x j)

pub record InversesIn (d r : ℕ) : Type 0 where
  pub at : (j : ℕ) → j < 5 → lane r j ≡ inverse_or_none (lane d j)

-- each lane times a power of the lane of x
pub record Raised (v x n r : ℕ) : Type 0 where
  pub at : (j : ℕ) → j < 5 → lane r j ≡ product (power (lane x j) (5 - n)) (lane v j)

pub record QuotientsIn (f n x r : ℕ) : Type 0 where
  pub at : (j : ℕ) → j < 5 → lane r j ≡ quotient_at f n (lane x j)

-- the quotients at the next few roots from l on
pub record QuotientsAhead (f n roots l : ℕ) (a : Ahead) : Type 0 where
  pub few : a.left ≤ 5
  pub at : (j : ℕ) → j < a.left → lane a.values j ≡ quotient_at f n (power α (root_at roots l j))

-- and at least one of them
pub record QuotientNext (f n roots l : ℕ) (a : Ahead) : Type 0 where
  pub some : 0 < a.left
  pub ahead : QuotientsAhead f n roots l a

-- the last of some addresses and one before them all
unfoldable pub last_of : ℕ → ℕ → ℕ
last_of last address = cond (eqb last nowhere) address last

-- the quotient at each root, 0 at every other place, how many are not 0, and the first and the last of them
pub record Placed (roots f n : ℕ) (r : Mended) : Type 0 where
  pub long : length r.word ≡ 63
  pub set : (l : ℕ) → l < 63 → roots / 2 ^ l % 2 ≡ 1 → get_or r.word (62 - l) 0 ≡ quotient_at f n (power α l)
  pub clear : (l : ℕ) → l < 63 → roots / 2 ^ l % 2 ≡ 0 → get_or r.word (62 - l) 0 ≡ 0
  pub weighs : r.weight ≡ weight r.word
  pub ends : Ends (replicate 63 0) r.word r.first r.last

-- ---- the locator

-- p combines the first n windows to 0
pub record Kills (p s : List ℕ) (n : ℕ) : Type 0 where
  pub few : n ≤ 5
  pub window : (j : ℕ) → j < n → mixed (coef p) s j ≡ 0

-- the characters are the values at their places, counted, with the first and the last that is not 0
pub record Patterned (p s : List ℕ) (r : Mended) : Type 0 where
  pub valued : ValuedFrom p s r.word 63
  pub weighs : r.weight ≡ weight r.word
  pub ends : Ends (replicate 63 0) r.word r.first r.last
