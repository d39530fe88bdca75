-- The filter in front of listing: where it has a 0 the start is not listed.
use mathlib.Core.Path.{◌≡◌, sym, ap, ap₂, ◌∙◌, subst}
use mathlib.Core.Bool.{Bool, false, cond, not}
use mathlib.Core.Logic.{⊎_elim}
use mathlib.Core.List.{List}
use Prim.Native.Nat.{ℕ, ◌+◌, ◌-◌, ◌/◌, ◌%◌, ◌^◌, ◌<◌, ◌≤◌}
use native.Mathlib.Nat.{mod-eq_of_lt, le_trans}
use native.Mathlib.Omega.{arith}
use lib.Dec.{eqb}
use lib.ListN.{length, get_or}
use borrow.Author.Tests.{lt-ltb, le-ltb, eqb-true, not-false}
use Rattle.numbers.proofs.Cases.{le_or_lt}
use Rattle.refusal.specs.Promise.{Tells}
use Rattle.refusal.proofs.Laws.{tells_no}
use Rattle.field.specs.Field.{sum}
use Rattle.planes.specs.Slices.{bit_at}
use Rattle.regular.specs.Pivots.{element_in, sum_in}
use Rattle.regular.specs.Promises.{NoErrorsWhere}
use Rattle.code.specs.Word.{added, listed}
use Rattle.sums.specs.declared.Sums.{Sums}
use Rattle.sums.specs.Held.{eleven}
use Rattle.sums.proofs.Holding.{eleven_long, eleven_characters}
use Rattle.code.proofs.Words.{listed_get, added_get}
use Rattle.mender.specs.Mender.{Fits}
use Rattle.ring.specs.declared.Undecided.{Undecided}
use Rattle.ring.specs.Inside.{MarkSums, ErrorsFit}
use Rattle.ring.specs.Marks.{MarksIn}
use Rattle.ring.specs.Filter.{undecided_at, MayList, NoErrorsAt, Decides}

-- ---- the masks

module _ (sums here words : List ℕ) (first l : ℕ) (w : List ℕ) (long : length sums ≡ 11) (small : (k : ℕ) → get_or sums k 0 < 64) (h : l < 63) (ms : MarksIn first words)
    (mark : MarkSums (first + l) here) (fits : Fits (added sums here) 11 5 w) where
  -- the sums of a start are those that the filter has at its place
  pub fits_there : Fits (listed (sum_in sums words l) 0 11) 11 5 w
  unfolding sum_in
  fits_there =
      record {
        long = fits.long;
        characters = fits.characters;
        light = fits.light;
        sums = λ k g.
            listed_get (λ k. sum (get_or sums k 0 % 64) (element_in words k l)) 11 k g
            ∙ ap₂ sum (mod-eq_of_lt (small k)) (ms.at l k h g ∙ sym (mark.sum_at k g))
            ∙ sym (added_get sums here (long ∙ sym mark.long) k) ∙ fits.sums k g;
      }

pub undecided_forward : (u : Undecided) (k : ℕ) → k < 63 → bit_at u.forward k ≡ undecided_at u k
unfolding undecided_at
undecided_forward u k h = ap (λ (b : Bool). cond b (bit_at u.forward k) (bit_at u.backward (k - 63))) (sym (lt-ltb k 63 h))

pub undecided_backward : (u : Undecided) (k : ℕ) → 63 ≤ k → bit_at u.backward (k - 63) ≡ undecided_at u k
unfolding undecided_at
undecided_backward u k h = ap (λ (b : Bool). cond b (bit_at u.forward k) (bit_at u.backward (k - 63))) (sym (le-ltb k 63 h))

module _ (h : Sums) (entries fw bw : List ℕ) (u : Undecided) (is : entries ≡ eleven h) (fm : MarksIn 0 fw) (bm : MarksIn 63 bw)
    (fn : NoErrorsWhere entries fw u.forward) (bn : NoErrorsWhere entries bw u.backward) where
  small : (k : ℕ) → get_or entries k 0 < 64
  small k = subst (λ (s : List ℕ). get_or s k 0 < 64) (sym is) (eleven_characters h k)

  long : length entries ≡ 11
  long = ap length is ∙ eleven_long h

  pub decides : Decides (eleven h) u
  decides =
      subst (λ (s : List ℕ). Decides s u) is
      (record {
        decided = λ k here b mark.
            record {
              none = λ z w fits.
                  ⊎_elim
                  (λ (g : 63 ≤ k).
                  bn.none (k - 63) (omega arith) (undecided_backward u k g ∙ z) w
                  (fits_there entries here bw 63 (k - 63) w long small (omega arith) bm (subst (λ (n : ℕ). MarkSums n here) (omega arith) mark) fits))
                  (λ (g : k < 63).
                  fn.none k g (undecided_forward u k g ∙ z) w
                  (fits_there entries here fw 0 k w long small g fm (subst (λ (n : ℕ). MarkSums n here) (omega arith) mark) fits))
                  (le_or_lt 63 k);
            };
      })

-- ---- told by the filter

pub told_not : (u : Undecided) (k : ℕ) (s : List ℕ) (t : ℕ) (b : Bool) → NoErrorsAt u k s → MayList u k b → b ≡ false → Tells (ErrorsFit s t) false
told_not u k s t b n m e =
    tells_no
    (λ x.
    n.none (m.not e) x.0
    (let f = x.1 in record { long = f.long; characters = f.characters; light = le_trans f.light (omega arith); sums = f.sums }))

-- whether a bit is not 0
pub forward_told : (u : Undecided) (k : ℕ) → k < 63 → MayList u k (not (eqb (u.forward / 2 ^ k % 2) 0))
forward_told u k h = record { not = λ e. sym (undecided_forward u k h) ∙ eqb-true (u.forward / 2 ^ k % 2) 0 (not-false (eqb (u.forward / 2 ^ k % 2) 0) e) }

pub backward_told : (u : Undecided) (k : ℕ) → 63 ≤ k → MayList u k (not (eqb (u.backward / 2 ^ (k - 63) % 2) 0))
backward_told u k h =
    record { not = λ e. sym (undecided_backward u k h) ∙ eqb-true (u.backward / 2 ^ (k - 63) % 2) 0 (not-false (eqb (u.backward / 2 ^ (k - 63) % 2) 0) e) }
