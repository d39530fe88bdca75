-- Two lines at two starts of a ring: how near they let the marks at one start be to the marks at the other.
use mathlib.Core.Path.{◌≡◌, sym, ap, ap₂, ◌∙◌, subst}
use mathlib.Core.List.{List}
use Prim.Native.Nat.{ℕ, ◌+◌, ◌<◌, ◌≤◌}
use native.Mathlib.Nat.{le_trans, le_of_eq}
use native.Mathlib.Omega.{arith}
use lib.ListN.{length}
use Rattle.polynomial.specs.Sums.{weight}
use Rattle.code.specs.Word.{Clean, added, marks, Line, distance}
use Rattle.code.proofs.Words.{length_added, added_comm, added_four, added_twice, added_zeros}
use Rattle.code.proofs.Distances.{weight_added, distance_weight, distance_comm, distance_self, distance_both, triangle}
use Rattle.code.proofs.Lines.{clean_light, clean_added, clean_line, marks_long, unmarked, line_long}
use Rattle.line.specs.Promises.{Within}
use Rattle.ring.specs.Ring.{placed, Start}
use Rattle.ring.specs.Inside.{seen}
use Rattle.ring.proofs.Placing.{kept, seen_placed, seen_lt, seen_zero}
use Rattle.ring.proofs.marks.Marks.{marks_far, marks_forward_far, marks_most}

-- ---- a word w near a line, and its word at start j near another

module _ (w l m : List ℕ) (j e t : ℕ) (long : length w ≡ 63) (near : Within e w l) (other : Within t (placed j w) m) where
  -- what lies between the two lines, the first at start j, and between the marks there and the marks
  abbrev lines-between : List ℕ
  lines-between = added (placed j l) m

  abbrev marks-between : List ℕ
  marks-between = added (placed j marks) marks

  lines-between-long : length lines-between ≡ 63
  lines-between-long = length_added (placed j l) m ((kept j).long l ∙ sym (line_long m other.line)) ∙ (kept j).long l

  marks-between-long : length marks-between ≡ 63
  marks-between-long = length_added (placed j marks) marks ((kept j).long marks ∙ sym marks_long) ∙ (kept j).long marks

  lines_near : distance (placed j l) m ≤ e + t
  lines_near =
      let there : length (placed j w) ≡ 63 = (kept j).long w in
      let p : distance (placed j l) (placed j w) ≡ distance w l = (kept j).apart l w (line_long l near.line) long ∙ distance_comm l w in
      let q : distance (placed j l) m ≤ distance (placed j l) (placed j w) + distance (placed j w) m =
      triangle (placed j l) (placed j w) m ((kept j).long l ∙ sym there) (line_long m other.line ∙ sym there)
      in
      let x : distance w l ≤ e = near.near in
      let y : distance (placed j w) m ≤ t = other.near in
      omega arith

  -- with the marks taken off, each at its places, both lines are clean
  between-clean : Clean (added lines-between marks-between)
  between-clean =
      subst Clean
      (ap (λ (x : List ℕ). added x (added m marks)) ((kept j).adds l marks (line_long l near.line ∙ sym marks_long))
      ∙ added_four (placed j l) (placed j marks) m marks)
      (clean_added (placed j (added l marks)) (added m marks) ((kept j).cleans (added l marks) (unmarked l near.line)) (unmarked m other.line))

  -- so the marks at start j lie within e + t of the marks, for a clean word of weight under 12 is 0
  pub marks_near : j < 126 → e + t ≤ 5 → distance (placed j marks) marks ≤ e + t
  marks_near h small =
      let p : distance (placed j l) m ≡ weight lines-between = distance_weight (placed j l) m in
      let q : distance (placed j marks) marks ≡ weight marks-between = distance_weight (placed j marks) marks in
      let n : distance (placed j l) m ≤ e + t = lines_near in
      let most : distance (placed j marks) marks ≤ 6 = marks_most j h in
      let s : weight (added lines-between marks-between) ≤ weight lines-between + weight marks-between = weight_added lines-between marks-between in
      let same : lines-between ≡ marks-between =
      added_zeros lines-between marks-between (lines-between-long ∙ sym marks-between-long)
      (clean_light (added lines-between marks-between) between-clean (omega arith))
      in
      le_trans (le_of_eq (q ∙ ap weight (sym same) ∙ sym p)) n

-- ---- two starts of a ring

module _ (ring l n : List ℕ) (m k e t : ℕ) (long : length ring ≡ 63) (hm : m < 126) (hk : k < 126) (near : Within e (placed m ring) l)
    (other : Within t (placed k ring) n) where
  -- start k counted from start m is one at which the marks lie within e + t of the marks
  pub starts_near : e + t ≤ 5 → distance (placed (seen m k) marks) marks ≤ e + t
  starts_near =
      marks_near (placed m ring) l n (seen m k) e t ((kept m).long ring) near
      (subst (λ (w : List ℕ). Within t w n) (sym (seen_placed m k ring hm hk)) other) (seen_lt m k)

  -- and where e + t is at most 3 that is start 0, for at each other start they lie 4 away or more
  pub same_start : e + t ≤ 3 → k ≡ m
  same_start small =
      let d : distance (placed (seen m k) marks) marks ≤ e + t = starts_near (omega arith) in
      seen_zero m k hm hk (marks_far (seen m k) (seen_lt m k) (omega arith))

  -- at most 4 is enough where both go in one direction, for at each other forward start they lie 5 away or more
  pub same_start_one_way : seen m k < 63 → e + t ≤ 4 → k ≡ m
  same_start_one_way forward small =
      let d : distance (placed (seen m k) marks) marks ≤ e + t = starts_near (omega arith) in
      seen_zero m k hm hk (marks_forward_far (seen m k) forward (omega arith))

-- ---- and back: the word of a line at start j lies as far from a line as the marks there from the marks

pub line_at : (l : List ℕ) (j : ℕ) → Line l → Within (distance (placed j marks) marks) (placed j l) (added (placed j (added l marks)) marks)
line_at l j line =
    let same : length l ≡ length marks = line_long l line ∙ sym marks_long in
    let there : placed j l ≡ added (placed j (added l marks)) (placed j marks) =
    ap (placed j) (sym (added_twice l marks same)) ∙ (kept j).adds (added l marks) marks ((unmarked l line).long ∙ sym marks_long)
    in
    record {
      line = clean_line (placed j (added l marks)) ((kept j).cleans (added l marks) (unmarked l line));
      near = le_of_eq (ap (λ (w : List ℕ). distance w (added (placed j (added l marks)) marks)) there ∙ both (placed j (added l marks)) ((kept j).long (added l marks)));
    }
  where
    both : (c : List ℕ) → length c ≡ 63 → distance (added c (placed j marks)) (added c marks) ≡ distance (placed j marks) marks
    both c h =
        ap₂ distance (added_comm c (placed j marks)) (added_comm c marks)
        ∙ distance_both (placed j marks) marks c ((kept j).long marks ∙ sym h) (marks_long ∙ sym h)

-- so where the word at start m is a line, start k is listed exactly where the marks at k, counted from m, lie within the radius of the marks
module _ (ring : List ℕ) (m k t : ℕ) (long : length ring ≡ 63) (hm : m < 126) (hk : k < 126) (line : Line (placed m ring)) where
  pub marks_of_start : t ≤ 5 → Start t ring k → distance (placed (seen m k) marks) marks ≤ t
  marks_of_start small (n, other) =
      let near : distance (placed (seen m k) marks) marks ≤ 0 + t =
      starts_near ring (placed m ring) n m k 0 t long hm hk (record { line = line; near = le_of_eq (distance_self (placed m ring)) }) other (omega arith)
      in
      omega arith

  pub start_of_marks : distance (placed (seen m k) marks) marks ≤ t → Start t ring k
  start_of_marks h =
      let w = line_at (placed m ring) (seen m k) line in (
        added (placed (seen m k) (added (placed m ring) marks)) marks,
        record {
          line = w.line;
          near = le_trans (le_of_eq (ap (λ (x : List ℕ). distance x (added (placed (seen m k) (added (placed m ring) marks)) marks)) (sym (seen_placed m k ring hm hk))))
              (le_trans w.near h);
        },
      )
