-- What one pattern of errors decides, in the words of the rules: where a clean word lies near a ring, the errors of the ring against it tell every start, with no more reading; where none lies near, no start is listed; and so a line's recording with few wrong characters has its true start alone.
use mathlib.Core.Path.{◌≡◌, sym, ap, ap₂, ◌∙◌, subst}
use mathlib.Core.Logic.{⊎_elim}
use mathlib.Core.List.{List, [], ◌∷◌}
use Prim.Native.Nat.{ℕ, ◌+◌, ◌<◌, ◌≤◌}
use native.Mathlib.Omega.{arith}
use lib.ListN.{length, get_or}
use Rattle.numbers.proofs.Cases.{le_or_lt, same_or_not}
use Rattle.polynomial.specs.Sums.{weight}
use Rattle.code.specs.Word.{Clean, added, marks, Line, distance}
use Rattle.code.proofs.Words.{length_added, added_comm}
use Rattle.code.proofs.Distances.{distance_weight, distance_comm, distance_both, distance_added, triangle}
use Rattle.code.proofs.Lines.{unmarked, line_long}
use Rattle.code.proofs.Apart.{clean_near}
use Rattle.ring.specs.Ring.{placed, Start, ListOf}
use Rattle.ring.specs.Recording.{recorded}
use Rattle.ring.specs.Inside.{seen, marks_at, place_of, errors_at, gains}
use Rattle.ring.proofs.Placing.{kept, seen_placed, seen_lt, seen_zero}
use Rattle.ring.proofs.Recording.{recorded_placed, recorded_long}
use Rattle.ring.proofs.marks.Marks.{marks_far, marks_at_long, marks_placed}
use Rattle.ring.proofs.Those.{one_of_those}
use Rattle.ring.proofs.OnePattern.{marks_at_weight, marked_back, errors_apart, errors_list, listed_by_pattern, pattern_count, none_without_pattern, mark_hit}

-- ---- a ring of 63 characters, and a clean word near it: the errors are what the two differ by

module _ (ring c : List ℕ) (long : length ring ≡ 63) (clean : Clean c) where
  module _ (t k : ℕ) (start : k < 126) (few : distance ring c + 3 + t ≤ 11) where
    -- the errors, the three marks and the radius are at most 11, as at radius 3 up to five errors are, at 4 four and at 5 three; and two clean words differ in
    -- 12 characters at least: so start k is listed exactly when the errors, with the marks at its places added, are at most as many as the radius
    pub pattern_decides : (Start t ring k → weight (errors_at k ring c) ≤ t) × (weight (errors_at k ring c) ≤ t → Start t ring k)
    pattern_decides = listed_by_pattern ring c t k long clean start few

    -- and where the errors and the marks are more than the radius, as up to radius 2 they are, a start is listed only where an error is at the place of a mark
    pub pattern_hits : t < distance ring c + 3 → Start t ring k → get_or (added ring c) (place_of k 52) 0 ≡ 0 → get_or (added ring c) (place_of k 55) 0 ≡ 0
        → get_or (added ring c) (place_of k 62) 0 ≡ 0 → ⊥
    pattern_hits = mark_hit ring c t k long clean start few

  -- that many they are: those of the ring, and for each mark one more where no error is at its place, and one less where the error there is the mark
  pub pattern_counted : (k : ℕ) → k < 126 → weight (errors_at k ring c) + 3 ≡ distance ring c + gains k (added ring c)
  pattern_counted k start =
      let w : distance ring c ≡ weight (added ring c) = distance_weight ring c in
      let n = pattern_count (added ring c) k (length_added ring c (long ∙ sym clean.long) ∙ long) start in
      omega arith

  -- there is no other clean word so near
  pub one_pattern : (d : List ℕ) → Clean d → distance ring c + distance ring d ≤ 11 → d ≡ c
  one_pattern d other near =
      let a = triangle c ring d (clean.long ∙ sym long) (other.long ∙ sym long) in
      let b = distance_comm c ring in
      sym (clean_near c d clean other (omega arith))

-- a start that is listed for radius t leaves a clean word within t + 3: so where there is none, the list is empty. Up to radius 2 that is within 5, where
-- mending finds it: there one pattern decides every ring
pub no_pattern : (ring : List ℕ) (t : ℕ) → length ring ≡ 63 → ((c : List ℕ) → Clean c → distance ring c ≤ t + 3 → ⊥) → ListOf t ring []
no_pattern = none_without_pattern

-- ---- a line l, a start m, and a ring that differs from the line's recording at m in e places

-- the clean word: the line with the marks taken off, recorded at m
abbrev pub unmarked_at : ℕ → List ℕ → List ℕ
unmarked_at m l = recorded m (added l marks)

module _ (l ring : List ℕ) (m e : ℕ) (line : Line l) (start : m < 126) (long : length ring ≡ 63) (wrong : distance ring (recorded m l) ≡ e) where
  abbrev bare : List ℕ
  bare = unmarked_at m l

  bare-clean : Clean bare
  bare-clean = subst Clean (sym (recorded_placed m (added l marks))) ((kept (seen m 0)).cleans (added l marks) (unmarked l line))

  same : (k : ℕ) → length bare ≡ length (marks_at k)
  same k = recorded_long m (added l marks) ∙ sym (marks_at_long k)

  -- the recording is that word with the marks of start m on it
  bare-marked : added bare (marks_at m) ≡ recorded m l
  bare-marked =
      ap (λ (w : List ℕ). added w (marks_at m)) (recorded_placed m (added l marks)) ∙ marked_back m l (line_long l line) ∙ sym (recorded_placed m l)

  -- the marks at start k lie as far from those at start m as, counted from m, they lie from the marks
  marks-between : (k : ℕ) → k < 126 → distance (marks_at m) (marks_at k) ≡ distance (placed (seen m k) marks) marks
  marks-between k h =
      sym ((kept k).apart (marks_at m) (marks_at k) (marks_at_long m) (marks_at_long k))
      ∙ ap₂ distance (sym (seen_placed m k (marks_at m) start h) ∙ ap (placed (seen m k)) (marks_placed m start)) (marks_placed k h)

  -- it lies within e + 3 of the ring
  pub recorded_pattern : Clean (unmarked_at m l) × (distance ring (unmarked_at m l) ≤ e + 3)
  recorded_pattern =
      let d : distance bare (added bare (marks_at m)) ≡ 3 = distance_added bare (marks_at m) (same m) ∙ marks_at_weight m in
      let f : distance ring (added bare (marks_at m)) ≡ e = ap (distance ring) bare-marked ∙ wrong in
      let full : length (added bare (marks_at m)) ≡ 63 = length_added bare (marks_at m) (same m) ∙ bare-clean.long in
      let t = triangle ring (added bare (marks_at m)) bare (long ∙ sym full) (bare-clean.long ∙ sym full) in
      let s = distance_comm (added bare (marks_at m)) bare in
      (bare-clean, omega arith)

  -- the marks of start m take their errors away, and the e wrong characters are left
  pub errors_there : weight (errors_at m ring (unmarked_at m l)) ≡ e
  errors_there = sym (errors_apart ring m long start bare) ∙ ap (distance ring) bare-marked ∙ wrong

  -- those of another start, which differ from them in 4 characters at least, leave at least 4 - e
  pub errors_elsewhere : (k : ℕ) → k < 126 → (k ≡ m → ⊥) → 4 ≤ e + weight (errors_at k ring (unmarked_at m l))
  errors_elsewhere k h other =
      let there : length (added bare (marks_at m)) ≡ 63 = length_added bare (marks_at m) (same m) ∙ bare-clean.long in
      let here : length (added bare (marks_at k)) ≡ 63 = length_added bare (marks_at k) (same k) ∙ bare-clean.long in
      let both : distance (added bare (marks_at m)) (added bare (marks_at k)) ≡ distance (placed (seen m k) marks) marks =
      ap₂ distance (added_comm bare (marks_at m)) (added_comm bare (marks_at k)) ∙ distance_both (marks_at m) (marks_at k) bare (sym (same m)) (sym (same k))
      ∙ marks-between k h
      in
      let t = triangle (added bare (marks_at m)) ring (added bare (marks_at k)) (there ∙ sym long) (here ∙ sym long) in
      let a : distance (added bare (marks_at m)) ring ≡ e = distance_comm (added bare (marks_at m)) ring ∙ ap (distance ring) bare-marked ∙ wrong in
      let b = errors_apart ring k long h bare in
      ⊎_elim (λ (far : 4 ≤ distance (placed (seen m k) marks) marks). omega arith)
      (λ (near : distance (placed (seen m k) marks) marks < 4). absurd (other (seen_zero m k start h (marks_far (seen m k) (seen_lt m k) (omega arith)))))
      (le_or_lt 4 (distance (placed (seen m k) marks) marks))

  -- so demand 3 holds: where e is at most the radius, and e and the radius at most 3, the start m alone is left at most as many errors as the radius
  pub alone_by_pattern : (t : ℕ) → e ≤ t → e + t ≤ 3 → ListOf t ring (m ∷ [])
  alone_by_pattern t within together =
      one_of_those (Start t ring) 126 0 m
      (record { least = omega arith; most = start; has = errors_list ring m long start bare t bare-clean (let a = errors_there in omega arith) })
      (λ k other.
      let near = recorded_pattern.1 in
      let left = (pattern_decides ring bare long bare-clean t k other.most (omega arith)).0 other.has in
      ⊎_elim (λ (z : k ≡ m). z) (λ (d : k ≡ m → ⊥). let far = errors_elsewhere k other.most d in absurd (omega arith)) (same_or_not k m))
