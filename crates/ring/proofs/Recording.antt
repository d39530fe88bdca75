-- The recording of a line at a start: it is the one ring whose word there is the line, and a ring differs from it as the ring's word there differs from the line.
use mathlib.Core.Path.{◌≡◌, sym, ap, ◌∙◌, subst}
use mathlib.Core.Bool.{Bool, cond}
use mathlib.Core.Logic.{⊎_elim}
use mathlib.Core.List.{List}
use Prim.Native.Nat.{ℕ, ◌+◌, ◌-◌, ◌%◌, ◌<◌, ◌≤◌}
use native.Mathlib.Omega.{arith}
use lib.Dec.{ltb}
use lib.ListN.{length}
use borrow.Author.Tests.{lt-ltb, le-ltb}
use Rattle.numbers.proofs.Cases.{le_or_lt}
use Rattle.code.specs.Word.{Characters, distance, turned, reversed}
use Rattle.ring.specs.Ring.{placed}
use Rattle.ring.specs.Recording.{recorded}
use Rattle.ring.specs.Inside.{seen}
use Rattle.ring.proofs.Placing.{kept, placed_forward, placed_backward, placed_back, placed_again, turned_same, reversed_same, seen_forward, seen_returning}

module _ (k : ℕ) (l : List ℕ) where
  recorded-by : (b : Bool) → ltb k 63 ≡ b → recorded k l ≡ cond b (turned (63 - k) l) (reversed (k - 63) l)
  unfolding recorded
  recorded-by b e = ap (λ (b : Bool). cond b (turned (63 - k) l) (reversed (k - 63) l)) e

  -- it is the line's word at start 0 as that is counted from k
  pub recorded_placed : recorded k l ≡ placed (seen k 0) l
  recorded_placed =
      ⊎_elim
      (λ (h : 63 ≤ k).
      let j : ℕ = 63 + (k - 0) % 63 in
      recorded-by _ (le-ltb k 63 h) ∙ reversed_same (k - 63) (j - 63) l (omega arith)
      ∙ sym (ap (λ (i : ℕ). placed i l) (seen_returning k 0 h (omega arith)) ∙ placed_backward j l (omega arith)))
      (λ (h : k < 63).
      let j : ℕ = (0 + 63 - k) % 63 in
      recorded-by _ (lt-ltb k 63 h) ∙ turned_same (63 - k) j l (omega arith)
      ∙ sym (ap (λ (i : ℕ). placed i l) (seen_forward k 0 h (omega arith)) ∙ placed_forward j l (omega arith)))
      (le_or_lt 63 k)

  pub recorded_long : length (recorded k l) ≡ 63
  recorded_long = ap length recorded_placed ∙ (kept (seen k 0)).long l

  pub recorded_characters : Characters l → Characters (recorded k l)
  recorded_characters c = subst Characters (sym recorded_placed) ((kept (seen k 0)).characters l c)

  module _ (start : k < 126) where
    pub placed_recorded : length l ≡ 63 → placed k (recorded k l) ≡ l
    placed_recorded long = ap (placed k) recorded_placed ∙ placed_again k l long start

    pub recorded_only : (ring : List ℕ) → length ring ≡ 63 → placed k ring ≡ l → ring ≡ recorded k l
    recorded_only ring long e = sym (placed_back k ring long start) ∙ ap (placed (seen k 0)) e ∙ sym recorded_placed

    pub recorded_apart : (ring : List ℕ) → length l ≡ 63 → length ring ≡ 63 → distance (placed k ring) l ≡ distance ring (recorded k l)
    recorded_apart ring long around =
        ap (distance (placed k ring)) (sym (placed_recorded long)) ∙ (kept k).apart ring (recorded k l) around recorded_long
