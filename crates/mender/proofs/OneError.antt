-- One error: where each of the eleven sums is the one before it times x, a single value at the place x has them.
use mathlib.Core.Path.{◌≡◌, refl, sym, ap, ap₂, ◌∙◌, subst}
use mathlib.Core.List.{List, [], ◌∷◌}
use mathlib.Core.Logic.{⊎_elim}
use Prim.Native.Nat.{ℕ, zero, suc, ◌+◌, ◌-◌, ◌*◌, ◌/◌, ◌%◌, ◌<◌}
use native.Mathlib.Nat.{add_comm, mod-eq_of_lt, zero-add, add_assoc, le_of_eq}
use native.Mathlib.Omega.{arith}
use lib.ListN.{length, get_or, replicate, set, length-set}
use lib.Seq.{get_or-set_same, get_or-set_other}
use Rattle.numbers.proofs.Cases.{pos_of_not_zero, same_or_not}
use Rattle.field.specs.Field.{sum, product, α, power}
use Rattle.field.proofs.Laws
use Rattle.numbers.proofs.Totals.{total_none}
use Rattle.lanes.specs.Lanes.{pack, lane}
use Rattle.lanes.proofs.Laws.{lane_suc, pack_same, pack_equal, pack_lanes, pack_last}
use Rattle.places.specs.Logs.{LogOf}
use Rattle.polynomial.specs.Sums.{weight, nonzero}
use Rattle.code.specs.Word.{Characters, power_sum}
use Rattle.sums.specs.declared.Sums.{Sums}
use Rattle.sums.specs.Held.{eleven}
use Rattle.code.proofs.Words.{zero_get}
use Rattle.sums.proofs.Holding.{eleven_first, eleven_last, eleven_characters}
use Rattle.code.proofs.Sums.{power_sum_set}
use Rattle.mender.specs.Mender.{Fits}
use Rattle.mender.specs.Found.{lone, Lone}

-- ---- the word with one character

pub lone_long : (a v : ℕ) → length (lone a v) ≡ 63
unfolding lone
lone_long a v = length-set (replicate 63 0) a v

pub lone_here : (a v : ℕ) → a < 63 → get_or (lone a v) a 0 ≡ v
unfolding lone
lone_here a v h = get_or-set_same (replicate 63 0) a v 0 h

pub lone_other : (a v b : ℕ) → (b ≡ a → ⊥) → get_or (lone a v) b 0 ≡ 0
unfolding lone
lone_other a v b d = get_or-set_other (replicate 63 0) a b v 0 d ∙ zero_get 63 b

lone_characters : (a v : ℕ) → a < 63 → v < 64 → Characters (lone a v)
lone_characters a v h l b =
    ⊎_elim (λ (e : b ≡ a). subst (λ (c : ℕ). get_or (lone a v) c 0 < 64) (sym e) (subst (λ (t : ℕ). t < 64) (sym (lone_here a v h)) l))
    (λ (d : b ≡ a → ⊥). subst (λ (t : ℕ). t < 64) (sym (lone_other a v b d)) (omega arith)) (same_or_not b a)

-- a character set where there was 0 is counted
pub weight_set : (w : List ℕ) (a v : ℕ) → a < length w → get_or w a 0 ≡ 0 → weight (set w a v) ≡ weight w + nonzero v
unfolding weight nonzero
weight_set [] a v h e = absurd (omega arith)
weight_set (c ∷ cs) zero v h e = add_comm (nonzero v) (weight cs) ∙ ap (λ (n : ℕ). n + nonzero v) (sym (ap (λ (d : ℕ). nonzero d + weight cs) e ∙ zero-add (weight cs)))
weight_set (c ∷ cs) (suc a) v h e =
    ap (λ (n : ℕ). nonzero c + n) (weight_set cs a v (omega arith) e) ∙ sym (add_assoc (nonzero c) (weight cs) (nonzero v))

pub weight_nothing : (n : ℕ) → weight (replicate n 0) ≡ 0
unfolding weight nonzero
weight_nothing zero = refl
weight_nothing (suc n) = zero-add (weight (replicate n 0)) ∙ weight_nothing n

pub nonzero_pos : (v : ℕ) → 0 < v → nonzero v ≡ 1
unfolding nonzero
nonzero_pos zero h = absurd (omega arith)
nonzero_pos (suc v) h = refl

pub lone_weight : (a v : ℕ) → a < 63 → 0 < v → weight (lone a v) ≡ 1
unfolding lone
lone_weight a v h p =
    weight_set (replicate 63 0) a v h (zero_get 63 a) ∙ ap₂ (λ (x y : ℕ). x + y) (weight_nothing 63) (nonzero_pos v p)

pub sums_nothing : (j : ℕ) → power_sum j (replicate 63 0) ≡ 0
unfolding power_sum
sums_nothing j =
    total_none 63 (λ a. product (get_or (replicate 63 0) a 0) (power α (j * (62 - a) % 63)))
    (λ a h. ap (λ (c : ℕ). product c (power α (j * (62 - a) % 63))) (zero_get 63 a) ∙ Laws.zero_product (power α (j * (62 - a) % 63)))

-- its sums are the value times the powers of its place
lone_sums : (j l v : ℕ) → l < 63 → power_sum j (lone (62 - l) v) ≡ product v (power (power α l) j)
unfolding lone
lone_sums j l v h =
    let e : 62 - (62 - l) ≡ l = omega arith in
    power_sum_set j (replicate 63 0) (62 - l) v (omega arith) (omega arith)
    ∙ ap₂ sum (sums_nothing j) (ap₂ (λ (c n : ℕ). product (sum c v) (power α (j * n % 63))) (zero_get 63 (62 - l)) e)
    ∙ Laws.zero_sum (product (sum 0 v) (power α (j * l % 63))) ∙ ap (λ (c : ℕ). product c (power α (j * l % 63))) (Laws.zero_sum v)
    ∙ ap (product v) (Laws.power_mod (j * l) ∙ Laws.power_mul α j l)

-- ---- sums that are each the one before times x

module _ (s : List ℕ) (x y l : ℕ) (small : (k : ℕ) → k < 11 → get_or s k 0 < 64) (next : (k : ℕ) → k < 10 → get_or s (suc k) 0 ≡ product (get_or s k 0) x)
    (middle : y ≡ get_or s 5 0) (some : 0 < y) (element : x < 64) (log : LogOf x l) where
  x_pos : 0 < x
  x_pos =
      pos_of_not_zero x
      (λ z. let e : y ≡ 0 = middle ∙ next 4 (omega arith) ∙ ap (product (get_or s 4 0)) z ∙ Laws.product_zero (get_or s 4 0) in omega arith)

  place : power α l ≡ x
  place =
      let e : x % 64 ≡ x = mod-eq_of_lt element in
      log.is (λ z. let p = x_pos in omega arith) ∙ e

  from_first : (k : ℕ) → k < 11 → get_or s k 0 ≡ product (get_or s 0 0) (power x k)
  unfolding power
  from_first zero h = sym (Laws.product_one (get_or s 0 0) (small 0 (omega arith)))
  from_first (suc k) h =
      next k (omega arith) ∙ ap (λ (t : ℕ). product t x) (from_first k (omega arith)) ∙ Laws.product_assoc (get_or s 0 0) (power x k) x
      ∙ ap (product (get_or s 0 0)) (Laws.product_comm (power x k) x)

  first_is : get_or s 0 0 ≡ product y (power x 58)
  first_is =
      sym (Laws.product_one (get_or s 0 0) (small 0 (omega arith))) ∙ ap (product (get_or s 0 0)) (sym (Laws.power_63 x x_pos element) ∙ Laws.power_add x 5 58)
      ∙ sym (Laws.product_assoc (get_or s 0 0) (power x 5) (power x 58)) ∙ ap (λ (t : ℕ). product t (power x 58)) (sym (from_first 5 (omega arith)) ∙ sym middle)

  sum_is : (k : ℕ) → k < 11 → get_or s k 0 ≡ product y (power x (58 + k))
  sum_is k h =
      from_first k h ∙ ap (λ (t : ℕ). product t (power x k)) first_is ∙ Laws.product_assoc y (power x 58) (power x k)
      ∙ ap (product y) (sym (Laws.power_add x 58 k))

  pub one_fits : Fits s 11 1 (lone (62 - l) y)
  one_fits =
      let b : l < 63 = log.below in
      record {
        long = lone_long (62 - l) y;
        characters = lone_characters (62 - l) y (omega arith) (subst (λ (t : ℕ). t < 64) (sym middle) (small 5 (omega arith)));
        light = le_of_eq (lone_weight (62 - l) y (omega arith) some);
        sums = λ k h. sum_is k h ∙ ap (λ (t : ℕ). product y (power t (58 + k))) (sym place) ∙ sym (lone_sums (58 + k) l y b);
      }

-- ---- as the code has them

-- the ten after the first, in lanes
pub after_first : (h : Sums) → h.first / 64 % 18014398509481984 + h.last % 64 * 18014398509481984 ≡ pack 10 (λ k. get_or (eleven h) (suc k) 0)
after_first h =
    ap₂ (λ (a b : ℕ). a + b * 18014398509481984)
    (pack_lanes 9 (h.first / 64)
    ∙ pack_same 9 (lane (h.first / 64)) (λ k. get_or (eleven h) (suc k) 0) (λ k l. sym (eleven_first h (suc k) (omega arith) ∙ lane_suc h.first k)))
    (sym (eleven_last h))
    ∙ sym (pack_last 9 (λ k. get_or (eleven h) (suc k) 0))

-- S_0 that is not 0 may be divided by
pub sum_divides : (a y : ℕ) → y ≡ a % 64 → (y ≡ 0 → ⊥) → 0 < y % 64
sum_divides a y e d = Laws.may_divide y (omega arith) d

pub one_error : (h : Sums) (y z i x p t l a : ℕ) → y ≡ h.first / 1073741824 % 64 → (y ≡ 0 → ⊥) → x ≡ product z i
    → p ≡ pack 10 (λ k. product (lane h.first k) x) → p ≡ h.first / 64 % 18014398509481984 + t * 18014398509481984
    → t ≡ h.last % 64 → LogOf x l → a ≡ l → Lone (eleven h) (record { address = 62 - a; value = y })
unfolding lane
one_error h y z i x p t l a ey d q ep eq et log ea =
    let b : l < 63 = log.below in
    let en : p ≡ h.first / 64 % 18014398509481984 + h.last % 64 * 18014398509481984 =
    eq ∙ ap (λ (n : ℕ). h.first / 64 % 18014398509481984 + n * 18014398509481984) et in
    subst (λ (n : ℕ). Lone (eleven h) (record { address = 62 - n; value = y })) (sym ea)
    (record {
      inside = omega arith;
      some = pos_of_not_zero y d;
      fits =
          one_fits (eleven h) x y l (λ k _. eleven_characters h k)
          (λ k i.
          sym (pack_equal 10 (λ k. product (lane h.first k) x) (λ k. get_or (eleven h) (suc k) 0) (λ k. Laws.product_lt (lane h.first k) x) (λ k. eleven_characters h (suc k)) (sym ep ∙ en ∙ after_first h) k i)
          ∙ ap (λ (t : ℕ). product t x) (sym (eleven_first h k i)))
          (ey ∙ sym (eleven_first h 5 (omega arith))) (pos_of_not_zero y d) (subst (λ (n : ℕ). n < 64) (sym q) (Laws.product_lt z i)) log;
    })
