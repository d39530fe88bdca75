-- The marks at a start: how far they lie from the marks, and their power sums from one start to the next.
use mathlib.Core.Path.{◌≡◌, refl, sym, ap, ◌∙◌, subst}
use mathlib.Core.Logic.{⊎_elim}
use mathlib.Core.List.{List}
use Prim.Native.Nat.{ℕ, zero, suc, ◌+◌, ◌-◌, ◌*◌, ◌%◌, ◌<◌, ◌≤◌}
use native.Mathlib.Nat.{eq-or-lt_of_le}
use native.Mathlib.Omega.{arith}
use lib.Dec.{T, eqb, eqb→eq, leb, leb→le}
use lib.ListN.{length, get_or}
use Rattle.numbers.proofs.Cases.{le_or_lt}
use Rattle.numbers.proofs.Range.{both, both_left, both_right, each, each_at}
use Rattle.field.specs.Field.{product, α, power}
use Rattle.field.proofs.Laws
use Rattle.code.specs.Word.{Characters, power_sum, marks, distance, listed, turned, reversed}
use Rattle.code.specs.Inside.{PowerSums}
use Rattle.code.proofs.Lines.{marks_long, marks_characters}
use Rattle.code.proofs.Turning
use Rattle.ring.specs.Ring.{placed}
use Rattle.ring.specs.FalseStarts.{with_at, mark_distances}
use Rattle.ring.specs.Inside.{seen, marks_at, MarkSums}
use Rattle.ring.proofs.Placing.{kept, placed_forward, placed_backward, placed_again, turned_same, reversed_same, seen_forward, seen_returning}

-- ---- how far the marks at a start lie from the marks

distances_test : T (each 126 (λ k. eqb (distance (placed k marks) marks) (get_or mark_distances k 0)))
unfolding placed turned reversed listed marks distance mark_distances with_at
distances_test = tt

pub mark_distance : (k : ℕ) → k < 126 → distance (placed k marks) marks ≡ get_or mark_distances k 0
mark_distance k h =
    eqb→eq (distance (placed k marks) marks) (get_or mark_distances k 0)
    (each_at 126 (λ k. eqb (distance (placed k marks) marks) (get_or mark_distances k 0)) distances_test k h)

bounds_test : T (each 125 (λ k. both (leb 4 (get_or mark_distances (suc k) 0)) (leb (get_or mark_distances (suc k) 0) 6)))
unfolding mark_distances with_at
bounds_test = tt

first_distance : get_or mark_distances 0 0 ≡ 0
unfolding mark_distances with_at
first_distance = refl

at_least_four : (k : ℕ) → k < 125 → (4 ≤ get_or mark_distances (suc k) 0) × (get_or mark_distances (suc k) 0 ≤ 6)
at_least_four k h =
    let f : ℕ → ℕ = λ k. get_or mark_distances (suc k) 0 in
    let t : T (both (leb 4 (f k)) (leb (f k) 6)) = each_at 125 (λ k. both (leb 4 (f k)) (leb (f k) 6)) bounds_test k h in
    (leb→le 4 (f k) (both_left (leb 4 (f k)) (leb (f k) 6) t), leb→le (f k) 6 (both_right (leb 4 (f k)) (leb (f k) 6) t))

-- at every start but 0 the marks lie 4, 5 or 6 characters from the marks
pub marks_far : (k : ℕ) → k < 126 → distance (placed k marks) marks ≤ 3 → k ≡ 0
marks_far zero h l = refl
marks_far (suc k) h l = let b = at_least_four k (omega arith) in let e = mark_distance (suc k) h in absurd (omega arith)

forward_test : T (each 62 (λ k. leb 5 (get_or mark_distances (suc k) 0)))
unfolding mark_distances with_at
forward_test = tt

-- at every forward start but 0, 5 or 6
pub marks_forward_far : (k : ℕ) → k < 63 → distance (placed k marks) marks ≤ 4 → k ≡ 0
marks_forward_far zero h l = refl
marks_forward_far (suc k) h l =
    let b = leb→le 5 (get_or mark_distances (suc k) 0) (each_at 62 (λ k. leb 5 (get_or mark_distances (suc k) 0)) forward_test k (omega arith)) in
    let e = mark_distance (suc k) (omega arith) in
    absurd (omega arith)

pub marks_most : (k : ℕ) → k < 126 → distance (placed k marks) marks ≤ 6
marks_most zero h = let e : distance (placed 0 marks) marks ≡ 0 = mark_distance 0 h ∙ first_distance in omega arith
marks_most (suc k) h = let b = at_least_four k (omega arith) in let e = mark_distance (suc k) h in omega arith

-- ---- the marks at their ring places

pub marks_at_long : (k : ℕ) → length (marks_at k) ≡ 63
unfolding marks_at
marks_at_long k = (kept (seen k 0)).long marks

pub marks_at_characters : (k : ℕ) → Characters (marks_at k)
unfolding marks_at
marks_at_characters k = (kept (seen k 0)).characters marks marks_characters

pub marks_placed : (k : ℕ) → k < 126 → placed k (marks_at k) ≡ marks
unfolding marks_at
marks_placed k h = placed_again k marks marks_long h

-- ---- from one start to the next

marks_forward : (k : ℕ) → k < 63 → marks_at k ≡ turned (63 - k) marks
unfolding marks_at
marks_forward k h =
    placed_forward (seen k 0) marks (rw (seen_forward k 0 h (omega arith)) (omega arith))
    ∙ turned_same (seen k 0) (63 - k) marks (ap (λ (n : ℕ). n % 63) (seen_forward k 0 h (omega arith)) ∙ omega arith)

marks_backward : (k : ℕ) → 63 ≤ k → marks_at k ≡ reversed (k - 63) marks
unfolding marks_at
marks_backward k h =
    placed_backward (seen k 0) marks (rw (seen_returning k 0 h (omega arith)) (omega arith))
    ∙ reversed_same (seen k 0 - 63) (k - 63) marks (ap (λ (n : ℕ). (n - 63) % 63) (seen_returning k 0 h (omega arith)) ∙ omega arith)

marks_next : (k : ℕ) → (k ≡ 62 → ⊥) → marks_at (k + 1) ≡ turned 62 (marks_at k)
marks_next k d =
    ⊎_elim
    (λ (h : 63 ≤ k).
    marks_backward (k + 1) (omega arith) ∙ reversed_same (k + 1 - 63) (k - 63 + (63 - 62 % 63)) marks (omega arith)
    ∙ sym (Turning.turned_reversed 62 (k - 63) marks) ∙ ap (turned 62) (sym (marks_backward k h)))
    (λ (h : k < 63).
    marks_forward (k + 1) (below k h d) ∙ turned_same (63 - (k + 1)) (63 - k + 62) marks (omega arith)
    ∙ sym (Turning.turned_turned 62 (63 - k) marks) ∙ ap (turned 62) (sym (marks_forward k h)))
    (le_or_lt 63 k)
  where
    below : (k : ℕ) → k < 63 → (k ≡ 62 → ⊥) → k + 1 < 63
    below k h d = ⊎_elim (λ (e : k ≡ 62). absurd (d e)) (λ (l : k < 62). omega arith) (eq-or-lt_of_le (omega arith))

-- ---- their power sums

pub first_marks : (s : List ℕ) → PowerSums marks s → MarkSums 0 s
first_marks s p = subst (λ (w : List ℕ). PowerSums w s) (sym (marks_forward 0 (omega arith) ∙ Turning.turned_round marks marks_long)) p

pub backward_begins : (k : ℕ) (s : List ℕ) → k ≡ 62 → PowerSums (reversed 0 marks) s → MarkSums (k + 1) s
backward_begins k s e p =
    subst (λ (w : List ℕ). PowerSums w s) (sym (ap (λ (n : ℕ). marks_at (n + 1)) e ∙ marks_backward 63 (omega arith))) p

-- each sum S_j times α^-j, which is α^(62 j): the sums of a word turned back by one character
pub record TurnedBack (sums r : List ℕ) : Type 0 where
  pub long : length r ≡ 11
  pub entry : (i : ℕ) → i < 11 → get_or r i 0 ≡ product (get_or sums i 0) (power α ((58 + i) * 62))

pub next_sums : (k : ℕ) (s r : List ℕ) → (k ≡ 62 → ⊥) → MarkSums k s → TurnedBack s r → MarkSums (k + 1) r
next_sums k s r d p t =
    subst (λ (w : List ℕ). PowerSums w r) (sym (marks_next k d))
    (record {
      long = t.long;
      sum_at = λ i h.
          t.entry i h ∙ ap (λ (x : ℕ). product x (power α ((58 + i) * 62))) (p.sum_at i h)
          ∙ Laws.product_comm (power_sum (58 + i) (marks_at k)) (power α ((58 + i) * 62)) ∙ sym (Turning.power_sum_turned (58 + i) 62 (marks_at k));
    })
