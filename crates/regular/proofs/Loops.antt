-- What the code of the filter does, a step at a time, over plain variables.
use mathlib.Core.Path.{◌≡◌, sym, ap, ap₂, ◌∙◌}
use mathlib.Core.List.{List, [], ◌∷◌}
use Prim.Native.Nat.{ℕ, suc, ◌+◌, ◌*◌, ◌/◌, ◌^◌, ◌<◌}
use native.Mathlib.Omega.{arith}
use lib.ListN.{get_or, length}
use Rattle.field.specs.Field.{sum}
use Rattle.field.proofs.Laws
use Rattle.code.specs.Word.{listed}
use Rattle.code.proofs.Words.{listed_get}
use Rattle.planes.specs.declared.Planes.{Planes}
use Rattle.planes.specs.Slices.{bit_at, element_at, Everywhere, Added}
use Rattle.planes.proofs.Bits.{Between, of_same, of_lt}
use Rattle.regular.specs.Pivots.{element_in, sum_in, SumPlanes, PivotsOfSums, ElementsAt, element}
use Rattle.regular.specs.Promises.{NoErrorsWhere}
use Rattle.regular.proofs.Elimination.{no_errors}

-- ---- of two bits none is set where none is set in both together

pub left_none : {x y o : ℕ} → Between x y o → o ≡ 0 → x ≡ 0
left_none h z = omega (arith, h.left)

pub right_none : {x y o : ℕ} → Between x y o → o ≡ 0 → y ≡ 0
right_none h z = omega (arith, h.right)

-- ---- the sums

sum_small : (sums words : List ℕ) (l k : ℕ) → sum_in sums words l k < 64
unfolding sum_in element_in
sum_small sums words l k =
    Laws.sum_lt _ _ (omega arith)
    (of_lt (get_or words (6 * k) 0 / 2 ^ l) (get_or words (6 * k + 1) 0 / 2 ^ l) (get_or words (6 * k + 2) 0 / 2 ^ l) (get_or words (6 * k + 3) 0 / 2 ^ l)
    (get_or words (6 * k + 4) 0 / 2 ^ l) (get_or words (6 * k + 5) 0 / 2 ^ l))

pub sum_planes : (sums words : List ℕ) (k : ℕ) (e a r : Planes) → a.b0 ≡ get_or words (6 * k) 0 → a.b1 ≡ get_or words (6 * k + 1) 0
    → a.b2 ≡ get_or words (6 * k + 2) 0 → a.b3 ≡ get_or words (6 * k + 3) 0 → a.b4 ≡ get_or words (6 * k + 4) 0 → a.b5 ≡ get_or words (6 * k + 5) 0
    → Everywhere (get_or sums k 0) e → Added e a r → SumPlanes sums words k r
unfolding sum_in element_in element_at
sum_planes sums words k e a r h0 h1 h2 h3 h4 h5 ev ad =
    record {
      at = λ l h.
          let at : ℕ → ℕ = λ w. bit_at w l in
          sym (ad.at l ∙ ap₂ sum (ev.at l h) (of_same (ap at h0) (ap at h1) (ap at h2) (ap at h3) (ap at h4) (ap at h5)));
    }

pub elements_from : (s : List Planes) (l : ℕ) (f : ℕ → ℕ) → ((k : ℕ) → k < length s → f k ≡ element s k l) → ElementsAt s l f
elements_from [] l f h = tt
elements_from (p ∷ ps) l f h = (h 0 (omega arith), elements_from ps l (λ k. f (suc k)) (λ k g. h (suc k) (omega arith)))

pub no_errors_where : (sums words : List ℕ) (s : List Planes) (r : ℕ) → length s ≡ 11
    → ((k : ℕ) → k < 11 → SumPlanes sums words k (get_or s k (record { b0 = 0; b1 = 0; b2 = 0; b3 = 0; b4 = 0; b5 = 0 }))) → PivotsOfSums (ElementsAt s) r
    → NoErrorsWhere sums words r
no_errors_where sums words s r long h p =
    record {
      none = λ l b z.
          no_errors (listed (sum_in sums words l) 0 11) (sum_in sums words l) (sum_small sums words l) (λ k g. listed_get (sum_in sums words l) 11 k g)
          (p.pivots l b z (sum_in sums words l) (elements_from s l (sum_in sums words l) (λ k g. (h k (omega arith)).at l b)));
    }
