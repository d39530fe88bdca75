-- What is proved of rings, in the words of the rules and of the requests: the word at a start, a line's recording, the list, the true start alone, the false starts of an undamaged ring, a known direction, a dark ring, the marks at the starts, and one result.
use mathlib.Core.Path.{◌≡◌, refl, sym, ap, ap₂, ◌∙◌, subst}
use mathlib.Core.List.{List, [], ◌∷◌, ◌++◌, append_assoc}
use Prim.Native.Nat.{ℕ, suc, ◌+◌, ◌-◌, ◌%◌, ◌<◌, ◌≤◌}
use native.Mathlib.Nat.{le_of_eq}
use native.Mathlib.Omega.{arith}
use lib.ListN.{length, get_or, replicate, drop, length-append}
use Rattle.std.specs.Prelude.{Result, Ok, Err}
use Rattle.refusal.specs.declared.Refusal.{Refusal}
use Rattle.refusal.specs.declared.Refusal.TheVariants.{ManyStarts}
use Rattle.refusal.specs.Number.{number_of}
use Rattle.refusal.proofs.Laws.{one_refusal, refusal_positive, one_answer}
use Rattle.refusal.proofs.Ladder.{◌then◌, met_answer, denied}
use Rattle.refusal.proofs.Theorems.{one_result, same_numbers}
use Rattle.polynomial.specs.Sums.{nonzero, weight}
use Rattle.code.specs.Word.{Characters, marks, Line, number, distance, first_changed, last_changed, listed, reversed}
use Rattle.code.proofs.Words.{listed_long}
use Rattle.code.proofs.Distances.{distance_weight, distance_self, weight_added}
use Rattle.code.proofs.Lines.{line_long, line_characters, marks_weight}
use Rattle.code.proofs.Turning.{turned_get, reversed_get}
use Rattle.code.proofs.Theorems.{zero_line}
use Rattle.line.specs.Promises.{Within, told}
use Rattle.line.proofs.Theorems.{one_within}
use Rattle.ring.specs.declared.RingReading.{RingReading}
use Rattle.ring.specs.Ring.{placed, Start, Those, ListOf, At}
use Rattle.ring.specs.Recording.{recorded}
use Rattle.ring.specs.FalseStarts.{counted_from, mark_distances, false_starts, is_in, rising, recorded_starts}
use Rattle.ring.specs.Promises.{listing_numbers, reading_numbers, line_read, listing_tests, Lists, ListsRing, reading_tests, ReadsAt, ReadsRing}
use Rattle.ring.specs.Inside.{seen}
use Rattle.ring.proofs.Placing.{kept, placed_forward, placed_backward, seen_placed, seen_zero, seen_forward, seen_backward}
use Rattle.ring.proofs.Recording.{recorded_long, recorded_characters, placed_recorded, recorded_only, recorded_apart}
use Rattle.ring.proofs.marks.Marks.{mark_distance}
use Rattle.ring.proofs.Alone.{starts_near, same_start, same_start_one_way, marks_of_start, start_of_marks}
use Rattle.ring.proofs.Those.{one_those, those_entry, those_rise, those_all, one_of_those, all_those, parts}
use Rattle.ring.proofs.Ways.{list_written, refused, read}
use Rattle.ring.proofs.FalseStarts.{counted_lt, seen_counted, counted_seen, starts_count, starts_many, these_starts}

-- ---- the word at a start

-- start k from 0 to 62 is forward: address a is taken from ring place (k + a) mod 63
pub forward_word : (ring : List ℕ) (k a : ℕ) → k < 63 → a < 63 → get_or (placed k ring) a 0 ≡ get_or ring ((k + a) % 63) 0
forward_word ring k a h l = ap (λ (w : List ℕ). get_or w a 0) (placed_forward k ring h) ∙ turned_get k ring a l

-- start 63 + s is backward: address a is taken from place (s - a) mod 63
pub backward_word : (ring : List ℕ) (s a : ℕ) → a < 63 → get_or (placed (63 + s) ring) a 0 ≡ get_or ring ((s + 63 - a) % 63) 0
backward_word ring s a l =
    ap (λ (w : List ℕ). get_or w a 0) (placed_backward (63 + s) ring (omega arith) ∙ ap (λ (n : ℕ). reversed n ring) (omega arith)) ∙ reversed_get s ring a l

-- one start after another is a start: start k of a ring is start `seen m k` of the word at m, which is start 0 for k = m alone
pub start_after_start : (ring : List ℕ) (m k : ℕ) → m < 126 → k < 126 → placed (seen m k) (placed m ring) ≡ placed k ring
start_after_start ring m k = seen_placed m k ring

pub start_itself : (m k : ℕ) → m < 126 → k < 126 → seen m k ≡ 0 → k ≡ m
start_itself = seen_zero

-- ---- the recording of a line at a start

module _ (l : List ℕ) (line : Line l) where
  -- at start k ring place (k + a) mod 63 holds address a
  pub forward_recording : (k a : ℕ) → k < 63 → a < 63 → get_or (recorded k l) ((k + a) % 63) 0 ≡ get_or l a 0
  forward_recording k a h i =
      sym (forward_word (recorded k l) k a h i) ∙ ap (λ (w : List ℕ). get_or w a 0) (placed_recorded k l (omega arith) (line_long l line))

  -- at start 63 + s place (s - a) mod 63 holds it
  pub backward_recording : (s a : ℕ) → s < 63 → a < 63 → get_or (recorded (63 + s) l) ((s + 63 - a) % 63) 0 ≡ get_or l a 0
  backward_recording s a h i =
      sym (backward_word (recorded (63 + s) l) s a i)
      ∙ ap (λ (w : List ℕ). get_or w a 0) (placed_recorded (63 + s) l (omega arith) (line_long l line))

  -- so the word at that start is the line, and the recording is the only ring with that word there
  pub recorded_word : (k : ℕ) → k < 126 → (length (recorded k l) ≡ 63) × (placed k (recorded k l) ≡ l)
  recorded_word k h = (recorded_long k l, placed_recorded k l h (line_long l line))

  pub one_recording : (ring : List ℕ) (k : ℕ) → k < 126 → length ring ≡ 63 → placed k ring ≡ l → ring ≡ recorded k l
  one_recording ring k h long e = recorded_only k l h ring long e

-- ---- the list of a ring, damaged, dark or noise

module _ (ring : List ℕ) (t : ℕ) (starts : List ℕ) (these : ListOf t ring starts) where
  -- each entry is a start that is listed
  pub entry_listed : (i : ℕ) → i < length starts → (get_or starts i 0 < 126) × Start t ring (get_or starts i 0)
  entry_listed i h = let e = those_entry these i h in (e.most, e.has)

  -- each start that is listed is an entry
  pub listed_entry : (k : ℕ) → k < 126 → Start t ring k → At starts k
  listed_entry k h s = those_all these k (record { least = omega arith; most = h; has = s })

  -- the entries rise, so each stands there once
  pub entries_rise : (i j : ℕ) → i < j → j < length starts → get_or starts i 0 < get_or starts j 0
  entries_rise = those_rise these

  -- and there is one such list
  pub one_list : (others : List ℕ) → ListOf t ring others → others ≡ starts
  one_list others o = one_those o these

-- ---- one result

-- the numbers fix the answer
one_ring_listing : (r s : Result ℕ Refusal) → listing_numbers r ≡ listing_numbers s → r ≡ s
one_ring_listing (Ok n) (Ok m) q = ap Ok (ap (λ (l : List ℕ). get_or l 1 0) q)
one_ring_listing (Ok n) (Err s) q = absurd (refusal_positive s (sym (ap (λ (l : List ℕ). get_or l 0 0) q)))
one_ring_listing (Err r) (Ok m) q = absurd (refusal_positive r (ap (λ (l : List ℕ). get_or l 0 0) q))
one_ring_listing (Err r) (Err s) q = ap Err (one_refusal r s (ap (λ (l : List ℕ). get_or l 0 0) q))

one_ring_reading : (r s : Result RingReading Refusal) → reading_numbers r ≡ reading_numbers s → r ≡ s
one_ring_reading (Ok r) (Ok s) q =
    ap (λ (x : ℕ). line_read x r.number r.distance r.first r.last) (ap (λ (l : List ℕ). get_or l 1 0) q)
    ∙ ap₂ (λ (x y : ℕ). line_read s.start x y r.first r.last) (ap (λ (l : List ℕ). get_or l 2 0) q) (ap (λ (l : List ℕ). get_or l 3 0) q)
    ∙ ap₂ (λ (x y : ℕ). line_read s.start s.number s.distance x y) (ap (λ (l : List ℕ). get_or l 4 0) q) (ap (λ (l : List ℕ). get_or l 5 0) q)
one_ring_reading (Ok r) (Err s) q = absurd (refusal_positive s (sym (ap (λ (l : List ℕ). get_or l 0 0) q)))
one_ring_reading (Err r) (Ok s) q = absurd (refusal_positive r (ap (λ (l : List ℕ). get_or l 0 0) q))
one_ring_reading (Err r) (Err s) q = ap Err (one_refusal r s (ap (λ (l : List ℕ). get_or l 0 0) q))

module _ (ring : List ℕ) (t : ℕ) where
  one-listed : (old f g x y : List ℕ) → Lists ring t old f x → Lists ring t old g y → (f ≡ g) × (x ≡ y)
  one-listed old f g x y p q =
      let e : p.starts ≡ q.starts = one_those p.these q.these in
      (p.count ∙ ap (λ (l : List ℕ). length l ∷ []) e ∙ sym q.count, p.output ∙ ap (λ (l : List ℕ). l ++ drop (length l) old) e ∙ sym q.output)

  pub one_read_at : length ring ≡ 63 → t ≤ 5 → (f g x y : List ℕ) → ReadsAt ring t f x → ReadsAt ring t g y → (f ≡ g) × (x ≡ y)
  one_read_at long small f g x y p q =
      let e : p.start ≡ q.start = ap (λ (l : List ℕ). get_or l 0 0) (one_those p.only q.only) in
      let h : x ≡ y = one_within t (placed q.start ring) x y ((kept q.start).long ring) small (rw e at p.within) q.within in
      (p.shows ∙ ap₂ (λ (k : ℕ) (l : List ℕ). k ∷ told (placed k ring) l) e h ∙ sym q.shows, h)

  -- any two results of listing are equal
  pub one_listing : (old : List ℕ) (r s : Result ℕ Refusal) (x y : List ℕ) → ListsRing ring t old (listing_numbers r) x → ListsRing ring t old (listing_numbers s) y
      → (r ≡ s) × (x ≡ y)
  unfolding ListsRing
  one_listing old r s x y p q =
      let e = one_result (listing_tests ring t (length old)) (Lists ring t old) 1 (λ _. one-listed old) old (listing_numbers r) (listing_numbers s) x y p q in
      (one_ring_listing r s e.0, e.1)

  -- any two results of reading are equal
  pub one_reading : (old : List ℕ) (r s : Result RingReading Refusal) (x y : List ℕ) → ReadsRing ring t old (reading_numbers r) x → ReadsRing ring t old (reading_numbers s) y
      → (r ≡ s) × (x ≡ y)
  unfolding ReadsRing
  one_reading old r s x y p q =
      let e = one_result (reading_tests ring t (length old)) (ReadsAt ring t) 5 (λ passed. one_read_at passed.0 passed.1.1.1.0) old
      (reading_numbers r) (reading_numbers s) x y p q in
      (one_ring_reading r s e.0, e.1)

  -- and so are any two answers of reading, whatever lay in outputs of one length
  pub same_reading : (old other : List ℕ) (r s : Result RingReading Refusal) (x y : List ℕ) → length old ≡ length other → ReadsRing ring t old (reading_numbers r) x
      → ReadsRing ring t other (reading_numbers s) y → r ≡ s
  unfolding ReadsRing
  same_reading old other r s x y e p q =
      one_ring_reading r s
      (same_numbers (reading_tests ring t (length old)) (ReadsAt ring t) 5 (λ passed. one_read_at passed.0 passed.1.1.1.0) old other
      (reading_numbers r) (reading_numbers s) x y p (rw (sym e) at q))

-- ---- listing and reading, for a ring of 63 characters and a radius of at most 5

module _ (ring : List ℕ) (t : ℕ) (long : length ring ≡ 63) (characters : Characters ring) (small : t ≤ 5) where
  -- listing yields the list, whatever its length, and leaves the rest of the output
  pub lists_list : (old starts : List ℕ) → length old ≡ 126 → ListOf t ring starts
      → ListsRing ring t old (listing_numbers (Ok (length starts))) (starts ++ drop (length starts) old)
  lists_list old starts room these =
      list_written ring t old (length starts ∷ []) (starts ++ drop (length starts) old) (long then room then characters then small then tt)
      (record { starts = starts; these = these; count = refl; output = refl })

  -- and every result of listing is such a list
  pub listing_lists : (old : List ℕ) → length old ≡ 126 → (r : Result ℕ Refusal) (x : List ℕ) → ListsRing ring t old (listing_numbers r) x
      → (starts : List ℕ) × ListOf t ring starts × (r ≡ Ok (length starts)) × (x ≡ starts ++ drop (length starts) old)
  unfolding ListsRing
  listing_lists old room (Ok n) x p =
      let s = p.1 in (s.starts, s.these, ap (λ (l : List ℕ). Ok (get_or l 0 0)) s.count, s.output)
  listing_lists old room (Err s) x p =
      absurd
      (refusal_positive s
      (one_answer (listing_tests ring t (length old)) (number_of s) 0 p.0
      (met_answer (listing_tests ring t (length old)) (long then room then characters then small then tt))))

  -- reading yields the line at the one start of a list with one entry
  pub reads_only_start : (old l : List ℕ) (k : ℕ) → length old ≡ 63 → ListOf t ring (k ∷ []) → Within t (placed k ring) l
      → ReadsRing ring t old (reading_numbers (line_read k (number l) (distance (placed k ring) l) (first_changed (placed k ring) l) (last_changed (placed k ring) l))) l
  reads_only_start old l k room only within =
      read ring t old (k ∷ told (placed k ring) l) l
      (long then room then characters then small then (k ∷ [], only, omega arith) then (k ∷ [], only, omega arith) then tt)
      (record { start = k; only = only; within = within; shows = refl })

-- ---- the step below demand 3: the word at start k lies at distance e from the line l, e is at most the radius t, and e + t at most 3

module _ (ring l : List ℕ) (k e t : ℕ) (long : length ring ≡ 63) (start : k < 126) (line : Line l) (apart : distance (placed k ring) l ≡ e)
    (within : e ≤ t) (together : e + t ≤ 3) where
  -- the list is that start alone
  pub true_start_alone : ListOf t ring (k ∷ [])
  true_start_alone =
      one_of_those (Start t ring) 126 0 k
      (record { least = omega arith; most = start; has = (l, record { line = line; near = omega arith }) })
      (λ j other.
      same_start ring l other.has.0 k j e t long start other.most (record { line = line; near = le_of_eq apart }) other.has.1 together)

  module _ (characters : Characters ring) (old : List ℕ) where
    -- so every result of listing such a ring is that list
    pub lists_true_start : length old ≡ 126 → (r : Result ℕ Refusal) (x : List ℕ) → ListsRing ring t old (listing_numbers r) x
        → (r ≡ Ok 1) × (x ≡ k ∷ drop 1 old)
    lists_true_start room r x p =
        one_listing ring t old r (Ok 1) x (k ∷ drop 1 old) p (lists_list ring t long characters (omega arith) old (k ∷ []) room true_start_alone)

    -- and every result of reading it is that line and that start
    pub reads_true_start : length old ≡ 63 → (r : Result RingReading Refusal) (x : List ℕ) → ReadsRing ring t old (reading_numbers r) x
        → (r ≡ line_read k (number l) e (first_changed (placed k ring) l) (last_changed (placed k ring) l)) × (x ≡ l)
    reads_true_start room r x p =
        let f : ℕ = first_changed (placed k ring) l in
        let g : ℕ = last_changed (placed k ring) l in
        let q = one_reading ring t old r (line_read k (number l) (distance (placed k ring) l) f g) x l p
        (reads_only_start ring t long characters (omega arith) old l k room true_start_alone (record { line = line; near = omega arith })) in
        (q.0 ∙ ap (λ (d : ℕ). line_read k (number l) d f g) apart, q.1)

-- ---- demand 3: a line l, whatever its text, a start m, and a ring that differs from the line's recording at m in e places, e at most the radius t, and e + t at most 3

module _ (l ring : List ℕ) (m e t : ℕ) (line : Line l) (start : m < 126) (long : length ring ≡ 63) (wrong : distance ring (recorded m l) ≡ e) (within : e ≤ t)
    (together : e + t ≤ 3) where
  apart-there : distance (placed m ring) l ≡ e
  apart-there = recorded_apart m l start ring (line_long l line) long ∙ wrong

  -- the list is m alone
  pub recorded_alone : ListOf t ring (m ∷ [])
  recorded_alone = true_start_alone ring l m e t long start line apart-there within together

  module _ (characters : Characters ring) (old : List ℕ) where
    -- every result of listing is a count of 1, the byte m, and the rest of the output as it was
    pub lists_recorded : length old ≡ 126 → (r : Result ℕ Refusal) (x : List ℕ) → ListsRing ring t old (listing_numbers r) x
        → (r ≡ Ok 1) × (x ≡ m ∷ drop 1 old)
    lists_recorded = lists_true_start ring l m e t long start line apart-there within together characters old

    -- every result of reading is the start m, the line's number, the distance e, the first and the last changed address of the word at m, and the line as
    -- the output
    pub reads_recorded : length old ≡ 63 → (r : Result RingReading Refusal) (x : List ℕ) → ReadsRing ring t old (reading_numbers r) x
        → (r ≡ line_read m (number l) e (first_changed (placed m ring) l) (last_changed (placed m ring) l)) × (x ≡ l)
    reads_recorded = reads_true_start ring l m e t long start line apart-there within together characters old

-- ---- an undamaged ring: a line l, whatever its text and number, a start m, the line's recording at m with no wrong character, and a radius t

-- the start that is j counted from m is start j of the word at m, and every start of the ring is some start counted from m
pub counted_start : (ring : List ℕ) (m j : ℕ) → m < 126 → j < 126 → placed (counted_from m j) ring ≡ placed j (placed m ring)
counted_start ring m j h l =
    sym (seen_placed m (counted_from m j) ring h (counted_lt m j)) ∙ ap (λ (i : ℕ). placed i (placed m ring)) (seen_counted m j h l)

pub counted_back : (m k : ℕ) → m < 126 → k < 126 → counted_from m (seen m k) ≡ k
counted_back = counted_seen

module _ (l : List ℕ) (m : ℕ) (line : Line l) (start : m < 126) where
  module _ (t : ℕ) (small : t ≤ 5) where
    -- the list is m and the false starts counted from it, in rising order
    pub undamaged_list : ListOf t (recorded m l) (recorded_starts m t)
    undamaged_list =
        these_starts (recorded m l) m t (recorded_long m l) start small (subst Line (sym (placed_recorded m l start (line_long l line))) line)

    -- it has an entry for each false start, and one more
    pub undamaged_list_long : length (recorded_starts m t) ≡ suc (length (false_starts t))
    undamaged_list_long = starts_count m t start small

    -- so every result of listing is that count, these starts, and the rest of the output as it was
    pub lists_undamaged : (old : List ℕ) → length old ≡ 126 → (r : Result ℕ Refusal) (x : List ℕ) → ListsRing (recorded m l) t old (listing_numbers r) x
        → (r ≡ Ok (suc (length (false_starts t)))) × (x ≡ recorded_starts m t ++ drop (suc (length (false_starts t))) old)
    lists_undamaged old room r x p =
        let q = one_listing (recorded m l) t old r (Ok (length (recorded_starts m t))) x (recorded_starts m t ++ drop (length (recorded_starts m t)) old) p
        (lists_list (recorded m l) t (recorded_long m l) (recorded_characters m l (line_characters l line)) small old (recorded_starts m t) room undamaged_list) in
        (q.0 ∙ ap Ok undamaged_list_long, q.1 ∙ ap (λ (n : ℕ). recorded_starts m t ++ drop n old) undamaged_list_long)

    -- and from radius 4 on every result of reading is refusal 10
    pub reads_undamaged : 4 ≤ t → (old : List ℕ) → length old ≡ 63 → (r : Result RingReading Refusal) (x : List ℕ) → ReadsRing (recorded m l) t old (reading_numbers r) x
        → (r ≡ Err ManyStarts) × (x ≡ old)
    reads_undamaged large old room r x p =
        one_reading (recorded m l) t old r (Err ManyStarts) x old p
        (let many = starts_many m t start large small in
        refused (recorded m l) t old 5
        (recorded_long m l then room then recorded_characters m l (line_characters l line) then small then (recorded_starts m t, undamaged_list, omega arith) then denied
        (λ (starts, those, few). omega (arith, ap length (one_those those undamaged_list)))))

  module _ (old : List ℕ) (room : length old ≡ 126) (r : Result ℕ Refusal) (x : List ℕ) where
    -- one start at radius 0 to 3
    pub lists_one : (t : ℕ) → t ≤ 3 → ListsRing (recorded m l) t old (listing_numbers r) x → (r ≡ Ok 1) × (x ≡ m ∷ drop 1 old)
    lists_one t small =
        lists_recorded l (recorded m l) m 0 t line start (recorded_long m l) (distance_self (recorded m l)) (omega arith) (omega arith)
        (recorded_characters m l (line_characters l line)) old room r x

    -- seven at radius 4
    pub lists_seven : ListsRing (recorded m l) 4 old (listing_numbers r) x → (r ≡ Ok 7) × (x ≡ recorded_starts m 4 ++ drop 7 old)
    unfolding false_starts
    lists_seven = lists_undamaged 4 (omega arith) old room r x

    -- thirteen at radius 5
    pub lists_thirteen : ListsRing (recorded m l) 5 old (listing_numbers r) x → (r ≡ Ok 13) × (x ≡ recorded_starts m 5 ++ drop 13 old)
    unfolding false_starts
    lists_thirteen = lists_undamaged 5 (omega arith) old room r x

-- for a line recorded at start 0 these are the rows of the bench sheet
pub sheet_starts : (recorded_starts 0 3 ≡ 0 ∷ []) × (recorded_starts 0 4 ≡ 0 ∷ 104 ∷ 107 ∷ 110 ∷ 114 ∷ 117 ∷ 124 ∷ [])
    × (recorded_starts 0 5 ≡ 0 ∷ 3 ∷ 7 ∷ 10 ∷ 53 ∷ 56 ∷ 60 ∷ 104 ∷ 107 ∷ 110 ∷ 114 ∷ 117 ∷ 124 ∷ [])
unfolding recorded_starts rising is_in false_starts counted_from
sheet_starts = (refl, refl, refl)

-- ---- where the direction is known: a line l, a start m, and a ring that differs from the line's recording at m in e places, e at most the radius t, and e + t at most 4

module _ (l ring : List ℕ) (m e t : ℕ) (line : Line l) (start : m < 126) (long : length ring ≡ 63) (wrong : distance ring (recorded m l) ≡ e) (within : e ≤ t)
    (together : e + t ≤ 4) where
  there : Within e (placed m ring) l
  there = record { line = line; near = le_of_eq (recorded_apart m l start ring (line_long l line) long ∙ wrong) }

  -- among the starts of a direction, which are those from the first on
  alone-from : (first : ℕ) → first ≤ m → m < first + 63 → first + 63 ≤ 126 → ((k : ℕ) → first ≤ k → k < first + 63 → seen m k < 63)
      → Those (Start t ring) 63 first (m ∷ [])
  alone-from first least most all one_way =
      let h = there.near in
      one_of_those (Start t ring) 63 first m (record { least = least; most = most; has = (l, record { line = line; near = omega arith }) })
      (λ k other.
      let o = other.most in
      same_start_one_way ring l other.has.0 m k e t long start (omega arith) there other.has.1 (one_way k other.least o) together)

  -- forward: of the starts 0 to 62 m alone is listed
  pub forward_alone : m < 63 → Those (Start t ring) 63 0 (m ∷ [])
  forward_alone forward =
      alone-from 0 (omega arith) (omega arith) (omega arith) (λ k least most. let s = seen_forward m k forward (omega arith) in omega arith)

  -- and backward: of the starts 63 to 125
  pub backward_alone : 63 ≤ m → Those (Start t ring) 63 63 (m ∷ [])
  backward_alone backward =
      alone-from 63 backward (omega arith) (omega arith) (λ k least most. let s = seen_backward m k backward least in omega arith)

  module _ (characters : Characters ring) (old : List ℕ) (room : length old ≡ 126) (r : Result ℕ Refusal) (x : List ℕ) (lists : ListsRing ring t old (listing_numbers r) x) where
    -- so every result of listing has the forward start m first, and then only starts from 63 on
    pub lists_forward : m < 63 → (others : List ℕ) × Those (Start t ring) 63 63 others × (r ≡ Ok (suc (length others)))
        × (x ≡ m ∷ (others ++ drop (suc (length others)) old))
    lists_forward forward =
        let (starts, these, count, output) = listing_lists ring t long characters (omega arith) old room r x lists in
        let p = parts 63 63 refl these in
        let e : starts ≡ m ∷ p.rest = p.is ∙ ap (λ (first : List ℕ). first ++ p.rest) (one_those p.in_first (forward_alone forward)) in
        (p.rest, p.in_rest, count ∙ ap (λ (l : List ℕ). Ok (length l)) e, output ∙ ap (λ (l : List ℕ). l ++ drop (length l) old) e)

    -- and the backward start m last, after only starts to 62
    pub lists_backward : 63 ≤ m → (others : List ℕ) × Those (Start t ring) 63 0 others × (r ≡ Ok (suc (length others)))
        × (x ≡ others ++ (m ∷ drop (suc (length others)) old))
    lists_backward backward =
        let (starts, these, count, output) = listing_lists ring t long characters (omega arith) old room r x lists in
        let p = parts 63 63 refl these in
        let e : starts ≡ p.first ++ (m ∷ []) = p.is ∙ ap (λ (rest : List ℕ). p.first ++ rest) (one_those p.in_rest (backward_alone backward)) in
        let n : length starts ≡ suc (length p.first) = ap length e ∙ length-append p.first (m ∷ []) ∙ omega arith in (
          p.first,
          p.in_first,
          count ∙ ap Ok n,
          output ∙ ap₂ (λ (l : List ℕ) (n : ℕ). l ++ drop n old) e n ∙ append_assoc p.first (m ∷ []) (drop (suc (length p.first)) old),
        )

-- ---- a dark ring: 63 zeros lie three characters from the marks, which are a line, at every start

zeros_weight : weight (replicate 63 0) ≡ 0
unfolding weight nonzero
zeros_weight = refl

pub dark_start : (t k : ℕ) → 3 ≤ t → Start t (replicate 63 0) k
dark_start t k h = (
  marks,
  record {
    line = zero_line;
    near =
        let d = distance_weight (placed k (replicate 63 0)) marks in
        let a = weight_added (placed k (replicate 63 0)) marks in
        let z : weight (placed k (replicate 63 0)) ≡ 0 = (kept k).weighs (replicate 63 0) refl ∙ zeros_weight in
        let m = marks_weight in
        omega arith;
  },
)

-- so from radius 3 on its list is that of all 126 starts
pub dark_ring : (t : ℕ) → 3 ≤ t → ListOf t (replicate 63 0) (listed (λ k. k) 0 126)
dark_ring t h = all_those (Start t (replicate 63 0)) 126 0 (λ k l. dark_start t k h)

pub dark_count : length (listed (λ k. k) 0 126) ≡ 126
dark_count = listed_long (λ k. k) 0 126

-- ---- the marks at the starts, on which all this rests

-- how far the marks at start k lie from the marks: 0 at start 0, 4 at 104 107 110 114 117 124, 5 at 3 7 10 53 56 60, and 6 at the others
pub marks_apart : (k : ℕ) → k < 126 → distance (placed k marks) marks ≡ get_or mark_distances k 0
marks_apart = mark_distance

-- two starts m and k with a line within e of the word at the one, and within t of the word at the other, e + t at most 5:
-- the marks at k, counted from m, lie within e + t of the marks
pub two_starts : (ring l n : List ℕ) (m k e t : ℕ) → length ring ≡ 63 → m < 126 → k < 126 → Within e (placed m ring) l → Within t (placed k ring) n
    → e + t ≤ 5 → distance (placed (seen m k) marks) marks ≤ e + t
two_starts = starts_near

-- and where the word at start m is itself a line, start k is listed exactly when they lie within the radius
pub starts_of_line : (ring : List ℕ) (m k t : ℕ) → length ring ≡ 63 → m < 126 → k < 126 → t ≤ 5 → Line (placed m ring)
    → (Start t ring k → distance (placed (seen m k) marks) marks ≤ t) × (distance (placed (seen m k) marks) marks ≤ t → Start t ring k)
starts_of_line ring m k t long hm hk small line = (marks_of_start ring m k t long hm hk line small, start_of_marks ring m k t long hm hk line)
