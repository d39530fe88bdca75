-- The word at a start, as a map on words: what it keeps, and one start after another.
use mathlib.Core.Path.{◌≡◌, refl, sym, ap, ap₂, ◌∙◌}
use mathlib.Core.Bool.{Bool, true, false, cond}
use mathlib.Core.Logic.{⊎_elim}
use mathlib.Core.List.{List}
use Prim.Native.Nat.{ℕ, ◌+◌, ◌-◌, ◌%◌, ◌<◌, ◌≤◌}
use native.Mathlib.Omega.{arith}
use lib.Dec.{ltb}
use lib.ListN.{length}
use borrow.Author.Tests.{lt-ltb, le-ltb}
use Rattle.numbers.proofs.Cases.{le_or_lt}
use Rattle.polynomial.specs.Sums.{weight}
use Rattle.code.specs.Word.{Characters, Clean, added, distance, turned, reversed}
use Rattle.code.proofs.Turning
use Rattle.ring.specs.Ring.{placed}
use Rattle.ring.specs.Inside.{seen}

-- ---- what every start keeps

pub record Kept (f : List ℕ → List ℕ) : Type 0 where
  pub long : (w : List ℕ) → length (f w) ≡ 63
  pub characters : (w : List ℕ) → Characters w → Characters (f w)
  pub adds : (u v : List ℕ) → length u ≡ length v → f (added u v) ≡ added (f u) (f v)
  pub weighs : (w : List ℕ) → length w ≡ 63 → weight (f w) ≡ weight w
  pub apart : (u v : List ℕ) → length u ≡ 63 → length v ≡ 63 → distance (f u) (f v) ≡ distance u v
  pub cleans : (w : List ℕ) → Clean w → Clean (f w)

turned_kept : (k : ℕ) → Kept (turned k)
turned_kept k =
    record {
      long = Turning.turned_long k;
      characters = Turning.turned_characters k;
      adds = Turning.turned_added k;
      weighs = Turning.weight_turned k;
      apart = Turning.distance_turned k;
      cleans = Turning.clean_turned k;
    }

reversed_kept : (s : ℕ) → Kept (reversed s)
reversed_kept s =
    record {
      long = Turning.reversed_long s;
      characters = Turning.reversed_characters s;
      adds = Turning.reversed_added s;
      weighs = Turning.weight_reversed s;
      apart = Turning.distance_reversed s;
      cleans = Turning.clean_reversed s;
    }

pub kept : (k : ℕ) → Kept (placed k)
unfolding placed
kept k = by (ltb k 63)
  where
    by : (b : Bool) → Kept (λ w. cond b (turned k w) (reversed (k - 63) w))
    by true = turned_kept k
    by false = reversed_kept (k - 63)

-- ---- forward and backward

pub placed_forward : (k : ℕ) (w : List ℕ) → k < 63 → placed k w ≡ turned k w
unfolding placed
placed_forward k w h = ap (λ (b : Bool). cond b (turned k w) (reversed (k - 63) w)) (lt-ltb k 63 h)

pub placed_backward : (k : ℕ) (w : List ℕ) → 63 ≤ k → placed k w ≡ reversed (k - 63) w
unfolding placed
placed_backward k w h = ap (λ (b : Bool). cond b (turned k w) (reversed (k - 63) w)) (le-ltb k 63 h)

pub placed_none : (w : List ℕ) → length w ≡ 63 → placed 0 w ≡ w
placed_none w l = placed_forward 0 w (omega arith) ∙ Turning.turned_none w l

-- starts that are the same modulo 63
pub turned_same : (i j : ℕ) (w : List ℕ) → i % 63 ≡ j % 63 → turned i w ≡ turned j w
turned_same i j w e = sym (Turning.turned_mod i w) ∙ ap (λ (n : ℕ). turned n w) e ∙ Turning.turned_mod j w

pub reversed_same : (i j : ℕ) (w : List ℕ) → i % 63 ≡ j % 63 → reversed i w ≡ reversed j w
reversed_same i j w e = sym (Turning.reversed_mod i w) ∙ ap (λ (n : ℕ). reversed n w) e ∙ Turning.reversed_mod j w

-- ---- start k as it is counted in the word at start m

seen_by : (m k : ℕ) (b c : Bool) → ltb m 63 ≡ b → ltb k 63 ≡ c
    → seen m k ≡ cond b (cond c ((k + 63 - m) % 63) (63 + (k - m) % 63)) (cond c (63 + (m - k) % 63) ((m + 63 - k) % 63))
unfolding seen
seen_by m k b c p q =
    ap₂ (λ (b c : Bool). cond b (cond c ((k + 63 - m) % 63) (63 + (k - m) % 63)) (cond c (63 + (m - k) % 63) ((m + 63 - k) % 63))) p q

forward_again : (m k x y : ℕ) → 63 ≤ m → k < 63 → x ≡ (m - k) % 63 → y ≡ x → (m - 63 + (63 - y)) % 63 ≡ k % 63
forward_again m k x y h l e f = omega arith

backward_again : (m k x y : ℕ) → 63 ≤ m → 63 ≤ k → k < 126 → x ≡ (m + 63 - k) % 63 → y ≡ x → (m - 63 + (63 - y)) % 63 ≡ (k - 63) % 63
backward_again m k x y h l q e f = omega arith

module _ (m k : ℕ) where
  pub seen_forward : m < 63 → k < 63 → seen m k ≡ (k + 63 - m) % 63
  seen_forward h l = seen_by m k true true (lt-ltb m 63 h) (lt-ltb k 63 l)

  pub seen_turning : m < 63 → 63 ≤ k → seen m k ≡ 63 + (k - m) % 63
  seen_turning h l = seen_by m k true false (lt-ltb m 63 h) (le-ltb k 63 l)

  pub seen_returning : 63 ≤ m → k < 63 → seen m k ≡ 63 + (m - k) % 63
  seen_returning h l = seen_by m k false true (le-ltb m 63 h) (lt-ltb k 63 l)

  pub seen_backward : 63 ≤ m → 63 ≤ k → seen m k ≡ (m + 63 - k) % 63
  seen_backward h l = seen_by m k false false (le-ltb m 63 h) (le-ltb k 63 l)

  -- the four cases
  pub seen_cases : (P : ℕ → Type 0) → (m < 63 → k < 63 → P ((k + 63 - m) % 63)) → (m < 63 → 63 ≤ k → P (63 + (k - m) % 63))
      → (63 ≤ m → k < 63 → P (63 + (m - k) % 63)) → (63 ≤ m → 63 ≤ k → P ((m + 63 - k) % 63)) → P (seen m k)
  seen_cases P ff fb bf bb =
      ⊎_elim
      (λ (h : 63 ≤ m).
      ⊎_elim (λ (l : 63 ≤ k). rw (seen_backward h l) (bb h l)) (λ (l : k < 63). rw (seen_returning h l) (bf h l)) (le_or_lt 63 k))
      (λ (h : m < 63).
      ⊎_elim (λ (l : 63 ≤ k). rw (seen_turning h l) (fb h l)) (λ (l : k < 63). rw (seen_forward h l) (ff h l)) (le_or_lt 63 k))
      (le_or_lt 63 m)

  pub seen_lt : seen m k < 126
  seen_lt = seen_cases (λ j. j < 126) (λ h l. omega arith) (λ h l. omega arith) (λ h l. omega arith) (λ h l. omega arith)

  -- only start m itself is start 0 there
  pub seen_zero : m < 126 → k < 126 → seen m k ≡ 0 → k ≡ m
  seen_zero p q =
      seen_cases (λ j. j ≡ 0 → k ≡ m) (λ h l e. omega arith) (λ h l e. omega arith) (λ h l e. omega arith) (λ h l e. omega arith)

  -- one start after another is a start
  pub seen_placed : (w : List ℕ) → m < 126 → k < 126 → placed (seen m k) (placed m w) ≡ placed k w
  seen_placed w p q =
      seen_cases (λ j. placed j (placed m w) ≡ placed k w)
      (λ h l.
      let j : ℕ = (k + 63 - m) % 63 in
      placed_forward j (placed m w) (omega arith) ∙ ap (turned j) (placed_forward m w h) ∙ Turning.turned_turned j m w
      ∙ turned_same (m + j) k w (omega arith) ∙ sym (placed_forward k w l))
      (λ h l.
      let j : ℕ = 63 + (k - m) % 63 in
      placed_backward j (placed m w) (omega arith) ∙ ap (reversed (j - 63)) (placed_forward m w h) ∙ Turning.reversed_turned (j - 63) m w
      ∙ reversed_same (m + (j - 63)) (k - 63) w (omega arith) ∙ sym (placed_backward k w l))
      (λ h l.
      let j : ℕ = 63 + (m - k) % 63 in
      placed_backward j (placed m w) (omega arith) ∙ ap (reversed (j - 63)) (placed_backward m w h) ∙ Turning.reversed_reversed (j - 63) (m - 63) w
      ∙ turned_same (m - 63 + (63 - (j - 63) % 63)) k w (forward_again m k ((m - k) % 63) ((j - 63) % 63) h l refl (omega arith)) ∙ sym (placed_forward k w l))
      (λ h l.
      let j : ℕ = (m + 63 - k) % 63 in
      placed_forward j (placed m w) (omega arith) ∙ ap (turned j) (placed_backward m w h) ∙ Turning.turned_reversed j (m - 63) w
      ∙ reversed_same (m - 63 + (63 - j % 63)) (k - 63) w (backward_again m k j (j % 63) h l q refl (omega arith)) ∙ sym (placed_backward k w l))

-- ---- back again: start 0 as it is counted in the word at k

pub seen_back : (k : ℕ) → k < 126 → seen (seen k 0) 0 ≡ k
seen_back k h =
    ⊎_elim
    (λ (l : 63 ≤ k).
    let e : seen k 0 ≡ 63 + (k - 0) % 63 = seen_returning k 0 l (omega arith) in
    ap (λ (j : ℕ). seen j 0) e ∙ seen_returning (63 + (k - 0) % 63) 0 (omega arith) (omega arith) ∙ omega arith)
    (λ (l : k < 63).
    let e : seen k 0 ≡ (0 + 63 - k) % 63 = seen_forward k 0 l (omega arith) in
    ap (λ (j : ℕ). seen j 0) e ∙ seen_forward ((0 + 63 - k) % 63) 0 (omega arith) (omega arith) ∙ omega arith)
    (le_or_lt 63 k)

pub placed_back : (k : ℕ) (w : List ℕ) → length w ≡ 63 → k < 126 → placed (seen k 0) (placed k w) ≡ w
placed_back k w l h = seen_placed k 0 w h (omega arith) ∙ placed_none w l

pub placed_again : (k : ℕ) (w : List ℕ) → length w ≡ 63 → k < 126 → placed k (placed (seen k 0) w) ≡ w
placed_again k w l h =
    ap (λ (j : ℕ). placed j (placed (seen k 0) w)) (sym (seen_back k h)) ∙ placed_back (seen k 0) w l (seen_lt k 0)
