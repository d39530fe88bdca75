-- The power sums of a word packed: the values at the ten points and S_0, as the tables give them and in their order.
use mathlib.Core.Path.{◌≡◌, refl, sym, ap, ap₂, ◌∙◌, subst}
use mathlib.Core.Logic.{⊎_elim}
use mathlib.Core.List.{List}
use Prim.Native.Nat.{ℕ, zero, suc, ◌+◌, ◌-◌, ◌*◌, ◌/◌, ◌%◌, ◌<◌, ◌≤◌}
use native.Mathlib.Nat.{eq-or-lt_of_le, le_of_suc-le-suc, le_of_eq, mod-eq_of_lt}
use native.Mathlib.Omega.{arith}
use lib.ListN.{length, get_or, take}
use lib.Seq.{length-take-le, get_or-take}
use Rattle.numbers.specs.Total.{total}
use Rattle.numbers.proofs.Totals.{total_same}
use Rattle.field.specs.Field.{sum, product, α, power}
use Rattle.field.proofs.Laws
use Rattle.lanes.specs.Lanes.{pack, lane}
use Rattle.lanes.proofs.Laws.{pack_same, lane_pack, lane_after, pack_lanes, pack_last, pack_split}
use Rattle.terms.specs.Terms.{point}
use Rattle.points.specs.Value.{value, values_of}
use Rattle.points.proofs.Steps.{whole_values}
use Rattle.code.specs.Word.{power_sum}
use Rattle.code.specs.Inside.{PowerSums}
use Rattle.code.proofs.Sums.{power_sum_lt, power_sum_same, power_sum_value}
use Rattle.sums.specs.declared.Sums.{Sums}
use Rattle.sums.specs.declared.PackedSums.{PackedSums}
use Rattle.sums.specs.Held.{eleven}
use Rattle.sums.specs.Packed.{Packed, Filled}
use Rattle.sums.proofs.Holding.{eleven_long, eleven_first, eleven_last}

-- ---- the values at the ten points

outer_sum : (w : List ℕ) → length w ≡ 63 → (i : ℕ) → value w i ≡ power_sum (58 + i + i / 5) w
unfolding value point
outer_sum w h i = sym (power_sum_value (58 + i + i / 5) w h)

-- ---- S_0

total_low : (n : ℕ) (f : ℕ → ℕ) → total n f % 64 ≡ total n (λ a. f a % 64)
unfolding total sum
total_low zero f = refl
total_low (suc n) f = Laws.sum_low (total n f) (f n) ∙ ap (λ (t : ℕ). sum t (f n % 64)) (total_low n f)

-- S_0 adds the characters as they are
middle_sum : (w : List ℕ) → total 63 (λ a. get_or w a 0) % 64 ≡ power_sum 63 w
unfolding power_sum power
middle_sum w =
    total_low 63 (λ a. get_or w a 0)
    ∙ total_same 63 (λ a. get_or w a 0 % 64) (λ a. product (get_or w a 0) (power α (63 * (62 - a) % 63)))
    (λ a h.
    sym (Laws.one_product_low (get_or w a 0)) ∙ Laws.product_comm 1 (get_or w a 0)
    ∙ ap (λ (n : ℕ). product (get_or w a 0) (power α n)) (multiple (62 - a)))
  where
    multiple : (n : ℕ) → 0 ≡ 63 * n % 63
    multiple n = omega arith

-- ---- as the tables give them

packed_by : (w : List ℕ) (o x : ℕ) → length w ≡ 63 → o ≡ values_of w → x ≡ total (length w) (λ a. get_or w a 0) → Packed w (record { outer = o; middle = x % 64 })
packed_by w o x l e q =
    record {
      outer = e ∙ whole_values w l ∙ pack_same 10 (value w) (λ k. power_sum (58 + k + k / 5) w) (λ k h. outer_sum w l k);
      middle = ap (λ (n : ℕ). n % 64) (q ∙ ap (λ (n : ℕ). total n (λ a. get_or w a 0)) l) ∙ middle_sum w;
    }

-- what a word lacks is 0 in its sums too
pub packed_filled : (w v : List ℕ) (r : PackedSums) → Filled w v → Packed v r → Packed w r
packed_filled w v r f p =
    record {
      outer = p.outer
          ∙ pack_same 10 (λ k. power_sum (58 + k + k / 5) v) (λ k. power_sum (58 + k + k / 5) w) (λ k h. power_sum_same (58 + k + k / 5) v w f.same);
      middle = p.middle ∙ power_sum_same 63 v w f.same;
    }

-- and then it has 63 characters
pub filled_long : (w v : List ℕ) → Filled w v → 63 ≤ length v
filled_long w v f = le_of_eq (sym f.long)

pub first_long : (w : List ℕ) → 63 ≤ length w → 63 ≡ length (take 63 w)
first_long w h = sym (length-take-le 63 w h)

-- what lies past the first 63 is in no sum
pub packed_first : (w : List ℕ) (o x : ℕ) → 63 ≤ length w → o ≡ values_of (take 63 w) → x ≡ total (length (take 63 w)) (λ a. get_or (take 63 w) a 0)
    → Packed w (record { outer = o; middle = x % 64 })
packed_first w o x h e q =
    let v : List ℕ = take 63 w in
    let long : length v ≡ 63 = sym (first_long w h) in
    packed_filled w v (record { outer = o; middle = x % 64 }) (record { long = long; same = λ a l. get_or-take 63 w a 0 l }) (packed_by v o x long e q)

-- ---- as they are held

-- S_0 set between the other ten, in lanes
module _ (w : List ℕ) (r : PackedSums) (h : Packed w r) where
  f : ℕ → ℕ
  f k = power_sum (58 + k) w

  f_lt : (k : ℕ) → f k < 64
  unfolding f
  f_lt k = power_sum_lt (58 + k) w

  outer-lane : (k : ℕ) → k < 10 → lane r.outer k ≡ power_sum (58 + k + k / 5) w
  outer-lane k l =
      ap (λ (p : ℕ). lane p k) h.outer ∙ lane_pack 10 (λ k. power_sum (58 + k + k / 5) w) (λ k. power_sum_lt (58 + k + k / 5) w) k l

  before : r.outer % 1073741824 ≡ pack 5 f
  unfolding f
  before =
      pack_lanes 5 r.outer
      ∙ pack_same 5 (lane r.outer) (λ k. power_sum (58 + k) w) (λ k l. outer-lane k (omega arith) ∙ ap (λ (j : ℕ). power_sum j w) (omega arith))

  between : r.middle % 64 ≡ f 5
  unfolding f
  between = ap (λ (n : ℕ). n % 64) h.middle ∙ mod-eq_of_lt (power_sum_lt 63 w)

  after : r.outer / 1073741824 % 16777216 ≡ pack 4 (λ k. f (6 + k))
  unfolding f
  after =
      pack_lanes 4 (r.outer / 1073741824)
      ∙ pack_same 4 (lane (r.outer / 1073741824)) (λ k. power_sum (58 + (6 + k)) w)
      (λ k l. lane_after r.outer 5 k ∙ outer-lane (5 + k) (omega arith) ∙ ap (λ (j : ℕ). power_sum j w) (omega arith))

  first-ten : r.outer % 1073741824 + r.middle % 64 * 1073741824 + r.outer / 1073741824 % 16777216 * 68719476736 ≡ pack 10 f
  first-ten =
      ap₂ (λ (a b : ℕ). a + b * 68719476736) (ap₂ (λ (a b : ℕ). a + b * 1073741824) before between ∙ sym (pack_last 5 f)) after
      ∙ sym (pack_split 6 4 f)

  last_one : r.outer / 18014398509481984 % 64 ≡ f 10
  unfolding lane f
  last_one = outer-lane 9 (omega arith)

  pub sums_in_order : PowerSums w (eleven (record {
    first = r.outer % 1073741824 + r.middle % 64 * 1073741824 + r.outer / 1073741824 % 16777216 * 68719476736;
    last = r.outer / 18014398509481984 % 64;
  }))
  unfolding f
  sums_in_order =
      let e : Sums = record {
        first = r.outer % 1073741824 + r.middle % 64 * 1073741824 + r.outer / 1073741824 % 16777216 * 68719476736;
        last = r.outer / 18014398509481984 % 64;
      } in
      record {
        long = eleven_long e;
        sum_at = λ k l.
            ⊎_elim (λ (q : k ≡ 10). subst (λ (i : ℕ). get_or (eleven e) i 0 ≡ power_sum (58 + i) w) (sym q) (eleven_last e ∙ low_twice (r.outer / 18014398509481984) ∙ last_one))
            (λ (m : k < 10). eleven_first e k m ∙ ap (λ (p : ℕ). lane p k) first-ten ∙ lane_pack 10 f f_lt k m) (eq-or-lt_of_le (le_of_suc-le-suc l));
      }
    where
      low_twice : (c : ℕ) → c % 64 % 64 ≡ c % 64
      low_twice c = omega arith
