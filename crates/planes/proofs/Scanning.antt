-- The first bit from a place on that is set: the zeros below the lowest bit of what is left are passed over.
use mathlib.Core.Path.{◌≡◌, refl, sym, ap, ◌∙◌, subst}
use mathlib.Core.Logic.{⊎_elim}
use Prim.Native.Nat.{ℕ, zero, suc, ◌+◌, ◌-◌, ◌*◌, ◌/◌, ◌%◌, ◌^◌, ◌<◌, ◌≤◌}
use native.Mathlib.Nat.{pow-suc, div-one, zero-div}
use native.Mathlib.Omega.{arith}
use lib.Count.{count_trailing_zeros, under, trailing_le}
use lib.Pow.{shr-shr, shr_le, field, mod-mod-pow}
use Rattle.numbers.proofs.Cases.{le_or_lt, pos_of_not_zero}
use Rattle.numbers.proofs.Bits.{halved}
use Rattle.planes.specs.Roots.{FirstFrom}

-- ---- the zeros below the lowest set bit

-- below it every bit is 0, and it is 1
record Lowest (n t : ℕ) : Type 0 where
  pub below : (i : ℕ) → i < t → n / 2 ^ i % 2 ≡ 0
  pub here : n / 2 ^ t % 2 ≡ 1

lowest_even : (n t : ℕ) → n % 2 ≡ 0 → Lowest (n / 2) t → Lowest n (suc t)
lowest_even n t e h =
    record {
      below = λ i l. at i l;
      here = ap (λ (m : ℕ). m % 2) (sym (halved n t)) ∙ h.here;
    }
  where
    at : (i : ℕ) → i < suc t → n / 2 ^ i % 2 ≡ 0
    at zero l = ap (λ (m : ℕ). m % 2) (div-one n) ∙ e
    at (suc i) l = ap (λ (m : ℕ). m % 2) (sym (halved n i)) ∙ h.below i (omega arith)

lowest_odd : (n : ℕ) → n % 2 ≡ 1 → Lowest n 0
lowest_odd n e = record { below = λ i l. absurd (omega arith); here = ap (λ (m : ℕ). m % 2) (div-one n) ∙ e }

-- the lowest digit is 0 or 1
lowest_at : (n d t : ℕ) → d ≡ n % 2 → (n % 2 ≡ 0 → Lowest (n / 2) t) → Lowest n (under d t)
lowest_at n zero t e h = lowest_even n t (sym e) (h (sym e))
lowest_at n (suc zero) t e h = lowest_odd n (sym e)
lowest_at n (suc (suc d)) t e h = absurd (omega arith)

trailing_lowest : (k n : ℕ) → 0 < n → n < 2 ^ k → Lowest n (count_trailing_zeros k n)
unfolding count_trailing_zeros
trailing_lowest zero n p h = absurd (omega arith)
trailing_lowest (suc k) n p h =
    let g : n < 2 ^ k * 2 = subst (λ (m : ℕ). n < m) (pow-suc 2 k) h in
    lowest_at n (n % 2) (count_trailing_zeros k (n / 2)) refl (λ e. trailing_lowest k (n / 2) (omega arith) (omega arith))

-- ---- the first set bit from a place on

pub low_place : (from : ℕ) → from % 64 ≤ 63
low_place from = omega arith

pub trailing_fits : (n : ℕ) → count_trailing_zeros 64 n < 18446744073709551616
trailing_fits n = let h : count_trailing_zeros 64 n ≤ 64 = trailing_le 64 n in omega arith

pub place_fits : (from n : ℕ) → from % 64 + count_trailing_zeros 64 n < 18446744073709551616
place_fits from n = let h : count_trailing_zeros 64 n ≤ 64 = trailing_le 64 n in omega arith

below_63 : (n l : ℕ) → l < 63 → n % 2 ^ 63 / 2 ^ l % 2 ≡ n / 2 ^ l % 2
below_63 n l h =
    let e : 63 ≡ (62 - l) + 1 + l = omega arith in
    ap (λ (m : ℕ). n % 2 ^ m / 2 ^ l % 2) e ∙ ap (λ (m : ℕ). m % 2) (field n (62 - l + 1) l) ∙ mod-mod-pow (n / 2 ^ l) (62 - l) 1

-- the bits, and one after them
module _ (bits from rest : ℕ) (h : from ≤ 63) (e : rest ≡ (bits % 9223372036854775808 + 9223372036854775808) / 2 ^ from) where
  marked : ℕ
  marked = bits % 9223372036854775808 + 9223372036854775808

  whole : marked < 2 ^ 64
  unfolding marked
  whole = omega arith

  at : (i : ℕ) → rest / 2 ^ i ≡ marked / 2 ^ (from + i)
  unfolding marked
  at i = ap (λ (m : ℕ). m / 2 ^ i) e ∙ shr-shr marked from i

  bit : (i : ℕ) → from + i < 63 → rest / 2 ^ i % 2 ≡ bits / 2 ^ (from + i) % 2
  unfolding marked
  bit i l =
      ap (λ (m : ℕ). m % 2) (at i) ∙ sym (below_63 marked (from + i) l)
      ∙ ap (λ (m : ℕ). m / 2 ^ (from + i) % 2) (omega arith) ∙ below_63 bits (from + i) l

  top : rest / 2 ^ (63 - from) % 2 ≡ 1
  unfolding marked
  top =
      let k : from + (63 - from) ≡ 63 = omega arith in
      ap (λ (m : ℕ). m % 2) (at (63 - from)) ∙ ap (λ (k : ℕ). marked / 2 ^ k % 2) k ∙ omega arith

  some : rest ≡ 0 → ⊥
  some z = let t : 0 / 2 ^ (63 - from) % 2 ≡ 1 = subst (λ (n : ℕ). n / 2 ^ (63 - from) % 2 ≡ 1) z top in let n : 0 / 2 ^ (63 - from) ≡ 0 = zero-div (2 ^ (63 - from)) in omega arith

  fits : rest < 2 ^ 64
  unfolding marked
  fits = let l : marked / 2 ^ from ≤ marked = shr_le marked from in let b = whole in omega arith

  low : Lowest rest (count_trailing_zeros 64 rest)
  low = trailing_lowest 64 rest (pos_of_not_zero rest some) fits

  inside : from + count_trailing_zeros 64 rest ≤ 63
  inside =
      ⊎_elim (λ (g : from + count_trailing_zeros 64 rest ≤ 63). g)
      (λ (g : 63 < from + count_trailing_zeros 64 rest).
      absurd (let z : rest / 2 ^ (63 - from) % 2 ≡ 0 = low.below (63 - from) (omega arith) in let o = top in omega arith))
      (le_or_lt (from + count_trailing_zeros 64 rest) 63)

  pub first_bit : FirstFrom bits from (from + count_trailing_zeros 64 rest)
  first_bit =
      let b = inside in
      record {
        least = omega arith;
        most = b;
        none = λ l g c.
            let q : from + (l - from) ≡ l = omega arith in
            ap (λ (m : ℕ). bits / 2 ^ m % 2) (sym q) ∙ sym (bit (l - from) (omega arith)) ∙ low.below (l - from) (omega arith);
        here = λ g. sym (bit (count_trailing_zeros 64 rest) g) ∙ low.here;
      }
