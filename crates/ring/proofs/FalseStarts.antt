-- Undamaged rings: starts counted from the true one and back, numbers in rising order, why the starts of such a ring are these and how many they are.
use mathlib.Core.Path.{◌≡◌, refl, sym, ap, ap₂, ◌∙◌, subst}
use mathlib.Core.Bool.{Bool, true, false, not, cond}
use mathlib.Core.Logic.{⊎_elim}
use mathlib.Core.List.{List, [], ◌∷◌, map}
use Prim.Native.Nat.{ℕ, zero, suc, ◌+◌, ◌-◌, ◌%◌, ◌<◌, ◌≤◌}
use native.Mathlib.Nat.{eq-or-lt_of_le}
use native.Mathlib.Omega.{arith}
use lib.Dec.{T, eqb, eqb→eq, ltb, ltb→lt, leb, leb→le, le→leb}
use lib.ListN.{length, get_or}
use borrow.Author.Tests.{lt-ltb, le-ltb, eq-eqb, ne_eqb}
use Rattle.numbers.proofs.Cases.{le_or_lt}
use Rattle.numbers.proofs.Range.{both, both_left, both_right, each, each_at, eq→eqb}
use Rattle.code.specs.Word.{marks, Line, distance}
use Rattle.ring.specs.Ring.{placed, Those, end, included, excluded, ListOf}
use Rattle.ring.specs.Inside.{seen}
use Rattle.ring.specs.FalseStarts.{counted_from, with_at, mark_distances, false_starts, is_in, rising, recorded_starts}
use Rattle.ring.proofs.Placing.{seen_lt, seen_forward, seen_turning, seen_returning, seen_backward, seen_cases}
use Rattle.ring.proofs.marks.Marks.{mark_distance}
use Rattle.ring.proofs.Alone.{marks_of_start, start_of_marks}
use Rattle.ring.proofs.Those.{those_same}

-- ---- a start counted from another, and back

counted_by : (m j : ℕ) (b c : Bool) → ltb m 63 ≡ b → ltb j 63 ≡ c
    → counted_from m j ≡ cond b (cond c ((m + j) % 63) (63 + (m + j) % 63)) (cond c (63 + (m + 63 - j) % 63) ((m + 63 - j) % 63))
unfolding counted_from
counted_by m j b c p q =
    ap₂ (λ (b c : Bool). cond b (cond c ((m + j) % 63) (63 + (m + j) % 63)) (cond c (63 + (m + 63 - j) % 63) ((m + 63 - j) % 63))) p q

module _ (m j : ℕ) where
  counted-cases : (P : ℕ → Type 0) → (m < 63 → j < 63 → P ((m + j) % 63)) → (m < 63 → 63 ≤ j → P (63 + (m + j) % 63))
      → (63 ≤ m → j < 63 → P (63 + (m + 63 - j) % 63)) → (63 ≤ m → 63 ≤ j → P ((m + 63 - j) % 63)) → P (counted_from m j)
  counted-cases P ff fb bf bb =
      ⊎_elim
      (λ (h : 63 ≤ m).
      ⊎_elim (λ (l : 63 ≤ j). rw (counted_by m j false false (le-ltb m 63 h) (le-ltb j 63 l)) (bb h l))
      (λ (l : j < 63). rw (counted_by m j false true (le-ltb m 63 h) (lt-ltb j 63 l)) (bf h l)) (le_or_lt 63 j))
      (λ (h : m < 63).
      ⊎_elim (λ (l : 63 ≤ j). rw (counted_by m j true false (lt-ltb m 63 h) (le-ltb j 63 l)) (fb h l))
      (λ (l : j < 63). rw (counted_by m j true true (lt-ltb m 63 h) (lt-ltb j 63 l)) (ff h l)) (le_or_lt 63 j))
      (le_or_lt 63 m)

  pub counted_lt : counted_from m j < 126
  counted_lt = counted-cases (λ k. k < 126) (λ h l. omega arith) (λ h l. omega arith) (λ h l. omega arith) (λ h l. omega arith)

  pub seen_counted : m < 126 → j < 126 → seen m (counted_from m j) ≡ j
  seen_counted p q =
      counted-cases (λ k. seen m k ≡ j)
      (λ h l. let k : ℕ = (m + j) % 63 in seen_forward m k h (omega arith) ∙ omega arith)
      (λ h l. let k : ℕ = 63 + (m + j) % 63 in seen_turning m k h (omega arith) ∙ omega arith)
      (λ h l. let k : ℕ = 63 + (m + 63 - j) % 63 in seen_backward m k h (omega arith) ∙ omega arith)
      (λ h l. let k : ℕ = (m + 63 - j) % 63 in seen_returning m k h (omega arith) ∙ omega arith)

pub counted_seen : (m k : ℕ) → m < 126 → k < 126 → counted_from m (seen m k) ≡ k
counted_seen m k p q =
    seen_cases m k (λ j. counted_from m j ≡ k)
    (λ h l. let j : ℕ = (k + 63 - m) % 63 in counted_by m j true true (lt-ltb m 63 h) (lt-ltb j 63 (omega arith)) ∙ omega arith)
    (λ h l. let j : ℕ = 63 + (k - m) % 63 in counted_by m j true false (lt-ltb m 63 h) (le-ltb j 63 (omega arith)) ∙ omega arith)
    (λ h l. let j : ℕ = 63 + (m - k) % 63 in counted_by m j false false (le-ltb m 63 h) (le-ltb j 63 (omega arith)) ∙ omega arith)
    (λ h l. let j : ℕ = (m + 63 - k) % 63 in counted_by m j false true (le-ltb m 63 h) (lt-ltb j 63 (omega arith)) ∙ omega arith)

pub counted_zero : (m : ℕ) → m < 126 → counted_from m 0 ≡ m
counted_zero m p =
    ⊎_elim (λ (h : 63 ≤ m). counted_by m 0 false true (le-ltb m 63 h) refl ∙ omega arith)
    (λ (h : m < 63). counted_by m 0 true true (lt-ltb m 63 h) refl ∙ omega arith) (le_or_lt 63 m)

-- ---- numbers in rising order

pub rising_those : (js : List ℕ) (n k : ℕ) → Those (λ j. T (is_in j js)) n k (rising js n k)
unfolding rising
rising_those js zero k = end
rising_those js (suc n) k = by (is_in k js) refl (rising_those js n (suc k))
  where
    by : {ks : List ℕ} (b : Bool) → is_in k js ≡ b → Those (λ j. T (is_in j js)) n (suc k) ks → Those (λ j. T (is_in j js)) (suc n) k (cond b (k ∷ ks) ks)
    by true e s = included (subst T (sym e) tt) s
    by false e s = excluded (λ t. subst T e t) s

one_more : (b : Bool) (k : ℕ) (x y : List ℕ) → length x ≡ suc (length y) → length (cond b (k ∷ x) x) ≡ suc (length (cond b (k ∷ y) y))
one_more true k x y e = ap suc e
one_more false k x y e = e

module _ (j : ℕ) (js : List ℕ) where
  -- a number that is passed makes no difference
  rising-past : (n k : ℕ) → j < k → rising (j ∷ js) n k ≡ rising js n k
  unfolding rising is_in
  rising-past zero k h = refl
  rising-past (suc n) k h =
      ap₂ (λ (b : Bool) (r : List ℕ). cond b (k ∷ r) r) (ap (λ (b : Bool). cond b true (is_in k js)) (ne_eqb k j (λ e. omega arith)))
      (rising-past n (suc k) (omega arith))

  -- and one that is still to come, and does not stand in the rest, is one entry more
  rising-met : (n k : ℕ) → k ≤ j → j < k + n → is_in j js ≡ false → length (rising (j ∷ js) n k) ≡ suc (length (rising js n k))
  unfolding rising is_in
  rising-met zero k h l new = absurd (omega arith)
  rising-met (suc n) k h l new =
      let x : List ℕ = rising (j ∷ js) n (suc k) in
      let y : List ℕ = rising js n (suc k) in
      ⊎_elim
      (λ (e : k ≡ j).
      ap (λ (b : Bool). length (cond (cond b true (is_in k js)) (k ∷ x) x)) (eq-eqb k j e)
      ∙ ap (λ (r : List ℕ). suc (length r)) (rising-past n (suc k) (omega arith))
      ∙ sym (ap (λ (b : Bool). suc (length (cond b (k ∷ y) y))) (ap (λ (i : ℕ). is_in i js) e ∙ new)))
      (λ (g : k < j).
      ap (λ (b : Bool). length (cond (cond b true (is_in k js)) (k ∷ x) x)) (ne_eqb k j (λ e. omega arith))
      ∙ one_more (is_in k js) k x y (rising-met n (suc k) g (omega arith) new))
      (eq-or-lt_of_le h)

rising_none : (n k : ℕ) → length (rising [] n k) ≡ 0
unfolding rising is_in
rising_none zero k = refl
rising_none (suc n) k = rising_none n (suc k)

-- starts no two of which are the same
abbrev differ : List ℕ → Bool
differ [] = true
differ (j ∷ js) = both (ltb j 126) (both (not (is_in j js)) (differ js))

-- are as many in rising order as before
differ_long : (js : List ℕ) → T (differ js) → length (rising js 126 0) ≡ length js
differ_long [] all = rising_none 126 0
differ_long (j ∷ js) all =
    let rest : T (both (not (is_in j js)) (differ js)) = both_right (ltb j 126) (both (not (is_in j js)) (differ js)) all in
    rising-met j js 126 0 (omega arith) (ltb→lt j 126 (both_left (ltb j 126) (both (not (is_in j js)) (differ js)) all))
    (is-not (is_in j js) (both_left (not (is_in j js)) (differ js) rest))
    ∙ ap suc (differ_long js (both_right (not (is_in j js)) (differ js) rest))
  where
    is-not : (b : Bool) → T (not b) → b ≡ false
    is-not true t = absurd t
    is-not false t = refl

-- ---- a list counted from start m: start k stands in it where k, as it is counted from m, stands in the list

same_if : (a b : Bool) → (T a → T b) → (T b → T a) → a ≡ b
same_if true true f g = refl
same_if true false f g = absurd (f tt)
same_if false true f g = absurd (g tt)
same_if false false f g = refl

abbrev all_starts : List ℕ → Bool
all_starts [] = true
all_starts (j ∷ js) = both (ltb j 126) (all_starts js)

counted_in : (m k : ℕ) (js : List ℕ) → m < 126 → k < 126 → T (all_starts js) → is_in k (map (counted_from m) js) ≡ is_in (seen m k) js
unfolding is_in
counted_in m k [] p q all = refl
counted_in m k (j ∷ js) p q all =
    ap₂ (λ (b c : Bool). cond b true c)
    (same_if (eqb k (counted_from m j)) (eqb (seen m k) j)
    (λ t. eq→eqb (seen m k) j (ap (seen m) (eqb→eq k (counted_from m j) t) ∙ seen_counted m j p (ltb→lt j 126 (both_left (ltb j 126) (all_starts js) all))))
    (λ t. eq→eqb k (counted_from m j) (sym (counted_seen m k p q) ∙ ap (counted_from m) (eqb→eq (seen m k) j t))))
    (counted_in m k js p q (both_right (ltb j 126) (all_starts js) all))

-- ---- the table of the marks' distances, read at a radius

abbrev same : Bool → Bool → Bool
same true b = b
same false true = false
same false false = true

same_is : (a b : Bool) → T (same a b) → a ≡ b
same_is true true t = refl
same_is true false t = absurd t
same_is false true t = absurd t
same_is false false t = refl

starts_test : T (each 6 (λ t. all_starts (0 ∷ false_starts t)))
unfolding false_starts
starts_test = tt

near_test : T (each 6 (λ t. each 126 (λ j. same (is_in j (0 ∷ false_starts t)) (leb (get_or mark_distances j 0) t))))
unfolding is_in false_starts mark_distances with_at
near_test = tt

near_is : (t j : ℕ) → t < 6 → j < 126 → is_in j (0 ∷ false_starts t) ≡ leb (get_or mark_distances j 0) t
near_is t j h l =
    same_is (is_in j (0 ∷ false_starts t)) (leb (get_or mark_distances j 0) t)
    (each_at 126 (λ j. same (is_in j (0 ∷ false_starts t)) (leb (get_or mark_distances j 0) t))
    (each_at 6 (λ t. each 126 (λ j. same (is_in j (0 ∷ false_starts t)) (leb (get_or mark_distances j 0) t))) near_test t h) j l)

-- ---- how many

-- computed at every start and radius
differ_test : T (each 126 (λ m. each 6 (λ t. differ (m ∷ map (counted_from m) (false_starts t)))))
unfolding is_in false_starts counted_from
differ_test = tt

map_long : (f : ℕ → ℕ) (js : List ℕ) → length (map f js) ≡ length js
map_long f [] = refl
map_long f (j ∷ js) = ap suc (map_long f js)

pub starts_count : (m t : ℕ) → m < 126 → t ≤ 5 → length (recorded_starts m t) ≡ suc (length (false_starts t))
unfolding recorded_starts
starts_count m t start small =
    differ_long (m ∷ map (counted_from m) (false_starts t))
    (each_at 6 (λ t. differ (m ∷ map (counted_from m) (false_starts t)))
    (each_at 126 (λ m. each 6 (λ t. differ (m ∷ map (counted_from m) (false_starts t)))) differ_test m start) t (omega arith))
    ∙ ap suc (map_long (counted_from m) (false_starts t))

many_test : T (each 6 (λ t. cond (ltb t 4) true (leb 2 (suc (length (false_starts t))))))
unfolding false_starts
many_test = tt

-- from radius 4 on there are two or more
pub starts_many : (m t : ℕ) → m < 126 → 4 ≤ t → t ≤ 5 → 2 ≤ length (recorded_starts m t)
starts_many m t start large small =
    let b : T (leb 2 (suc (length (false_starts t)))) =
    subst (λ (b : Bool). T (cond b true (leb 2 (suc (length (false_starts t)))))) (le-ltb t 4 large)
    (each_at 6 (λ t. cond (ltb t 4) true (leb 2 (suc (length (false_starts t))))) many_test t (omega arith))
    in
    let h = leb→le 2 (suc (length (false_starts t))) b in
    let e = starts_count m t start small in
    omega arith

-- ---- the starts of a ring whose word at start m is a line

module _ (ring : List ℕ) (m t : ℕ) (long : length ring ≡ 63) (start : m < 126) (small : t ≤ 5) where
  -- a start stands among them where the marks there, counted from m, lie within the radius of the marks
  in-these : (k : ℕ) → k < 126 → is_in k (m ∷ map (counted_from m) (false_starts t)) ≡ leb (distance (placed (seen m k) marks) marks) t
  in-these k h =
      ap (λ (i : ℕ). is_in k (i ∷ map (counted_from m) (false_starts t))) (sym (counted_zero m start))
      ∙ counted_in m k (0 ∷ false_starts t) start h (each_at 6 (λ t. all_starts (0 ∷ false_starts t)) starts_test t (omega arith))
      ∙ near_is t (seen m k) (omega arith) (seen_lt m k) ∙ ap (λ (d : ℕ). leb d t) (sym (mark_distance (seen m k) (seen_lt m k)))

  pub these_starts : Line (placed m ring) → ListOf t ring (recorded_starts m t)
  unfolding recorded_starts
  these_starts line =
      those_same
      (λ k h in_List. start_of_marks ring m k t long start h line (leb→le (distance (placed (seen m k) marks) marks) t (subst T (in-these k h) in_List)))
      (λ k h s. subst T (sym (in-these k h)) (le→leb (distance (placed (seen m k) marks) marks) t (marks_of_start ring m k t long start h line small s)))
      (rising_those (m ∷ map (counted_from m) (false_starts t)) 126 0)
