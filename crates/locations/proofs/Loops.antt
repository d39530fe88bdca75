-- What the loops do, a turn at a time: division by x + r from the highest coefficient down, and the trial of each element.
use mathlib.Core.Path.{◌≡◌, sym, ap, ◌∙◌, subst}
use mathlib.Core.Logic.{⊎_elim}
use mathlib.Core.List.{List}
use Prim.Native.Nat.{ℕ, zero, suc, ◌-◌, ◌<◌, ◌≤◌}
use native.Mathlib.Nat.{eq-or-lt_of_le}
use native.Mathlib.Omega.{arith}
use lib.ListN.{get_or, length, set, drop, length-set, get_or-eq_default}
use lib.Seq.{get_or-set_same, get_or-set_other, ext_get_or}
use lib.Bits.{bit_xor}
use Rattle.std.specs.Prelude.{Option, Some, None, MatchOption}
use Rattle.std.proofs.lemmas.Option.{none-some, same_Some}
use Rattle.field.specs.Field.{sum, product}
use Rattle.polynomial.specs.Polynomial.{poly_at, over}
use Rattle.polynomial.proofs.Division.{over_get, length_over, tail_value, poly_past}
use Rattle.locations.specs.declared.Division.{Division}
use Rattle.locations.specs.Roots.{Divides, Root, Tried}

-- ---- divided

-- the quotient's coefficients from k on are there, and v is the next
pub record DividedTo (p : List ℕ) (r : ℕ) (q : List ℕ) (v k : ℕ) : Type 0 where
  pub whole : length p ≡ 6
  pub long : length q ≡ 6
  pub from : k ≤ 6
  pub value : v ≡ poly_at (drop k p) r
  pub done : (i : ℕ) → k ≤ i → i < 6 → get_or q i 0 ≡ poly_at (drop (suc i) p) r

pub divided_none : (p : List ℕ) (r : ℕ) (q : List ℕ) → length p ≡ 6 → length q ≡ 6 → DividedTo p r q 0 6
divided_none p r q h l =
    record {
      whole = h;
      long = l;
      from = omega arith;
      value = sym (poly_past p r 6 (λ k g. get_or-eq_default p 0 (omega arith)));
      done = λ i g b. absurd (omega arith);
    }

pub divided_again : (p : List ℕ) (r : ℕ) (q : List ℕ) (v k t : ℕ) → 0 < k → t ≡ product r v → DividedTo p r q v k
    → DividedTo p r (set q (k - 1) v) (bit_xor (get_or p (k - 1) 0) t) (k - 1)
unfolding sum
divided_again p r q v zero t l e d = absurd (omega arith)
divided_again p r q v (suc k) t l e d =
    subst (λ (n : ℕ). DividedTo p r (set q n v) (bit_xor (get_or p n 0) t) n) (one k)
    record {
      whole = d.whole;
      long = length-set q k v ∙ d.long;
      from = (let f = d.from in omega arith);
      value = ap (bit_xor (get_or p k 0)) (e ∙ ap (product r) d.value) ∙ sym (tail_value p r k);
      done = λ i g b.
          ⊎_elim
          (λ (same : k ≡ i).
          subst (λ (n : ℕ). get_or (set q k v) n 0 ≡ poly_at (drop (suc n) p) r) same
          (get_or-set_same q k v 0 (let f = d.from in let w = d.long in omega arith) ∙ d.value))
          (λ (above : k < i). get_or-set_other q k i v 0 (λ z. omega arith) ∙ d.done i above b) (eq-or-lt_of_le g);
    }
  where
    one : (k : ℕ) → k ≡ suc k - 1
    one k = omega arith

pub divided_read : (p : List ℕ) (r : ℕ) (q : List ℕ) (v k : ℕ) → 0 < k → DividedTo p r q v k → k - 1 < length p
divided_read p r q v k l d = let f = d.from in let w = d.whole in omega arith

pub divided_write : (p : List ℕ) (r : ℕ) (q : List ℕ) (v k : ℕ) → 0 < k → DividedTo p r q v k → k - 1 < length q
divided_write p r q v k l d = let f = d.from in let w = d.long in omega arith

pub divided_all : (p : List ℕ) (r : ℕ) (q : List ℕ) (v k : ℕ) → k ≤ 0 → DividedTo p r q v k → Divides p r (record { quotient = q; remainder = v })
divided_all p r q v k h d =
    record {
      quotient =
          ext_get_or 0 q (over p r) (d.long ∙ sym (length_over p r ∙ d.whole))
          (λ i b. d.done i (omega arith) (let w = d.long in omega arith) ∙ sym (over_get p r i));
      remainder = d.value ∙ ap (λ (n : ℕ). poly_at (drop n p) r) (none k h);
    }
  where
    none : (k : ℕ) → k ≤ 0 → k ≡ 0
    none k h = omega arith

-- ---- trial

pub root_told : (p : List ℕ) (x : ℕ) (d : Division) → Divides p x d → d.remainder ≡ 0 → poly_at p x ≡ 0
root_told p x d h z = sym h.remainder ∙ z

pub root_denied : (p : List ℕ) (x : ℕ) (d : Division) → Divides p x d → (d.remainder ≡ 0 → ⊥) → poly_at p x ≡ 0 → ⊥
root_denied p x d h n z = n (h.remainder ∙ z)

pub tried_all : (p : List ℕ) (r : Option ℕ)
    → MatchOption r ((k : ℕ) → 1 ≤ k → k < 64 → poly_at p k ≡ 0 → ⊥)
    (λ x. (1 ≤ x) × (x < 64) × (poly_at p x ≡ 0) × ((k : ℕ) → 1 ≤ k → k < x → poly_at p k ≡ 0 → ⊥)) → Tried p r
tried_all p (Some x) h =
    record { found = λ y e. subst (Root p) (same_Some x y e) (record { pos = h.0; small = h.1; zero = h.2 }); none = λ e. absurd (none-some x (sym e)) }
tried_all p None h = record { found = λ y e. absurd (none-some y e); none = λ _ x r. h x r.pos r.small r.zero }
