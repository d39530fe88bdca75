-- What is proved of reading a line with blots, in the request's words: never a second line, one result, what is told, where it refuses, and an empty map.
use mathlib.Core.Path.{◌≡◌, refl, sym, ap, ap₂, ◌∙◌, subst}
use mathlib.Core.Logic.{inl, inr}
use mathlib.Core.List.{List, [], ◌∷◌}
use Prim.Native.Nat.{ℕ, zero, suc, ◌+◌, ◌<◌, ◌≤◌}
use native.Mathlib.Omega.{arith}
use lib.ListN.{length, get_or, replicate}
use Rattle.std.specs.Prelude.{None, Result}
use Rattle.refusal.specs.declared.Refusal.{Refusal}
use Rattle.refusal.specs.Promise.{Answer}
use Rattle.refusal.proofs.Laws.{passed, Passed}
use Rattle.refusal.proofs.Ladder.{◌then◌, denied}
use Rattle.refusal.proofs.Theorems.{one_result}
use Rattle.field.specs.Field.{α, power}
use Rattle.polynomial.specs.Sums.{weight}
use Rattle.polynomial.proofs.Horner.{horner}
use Rattle.code.specs.Word.{Characters, number, distance, added, nowhere, marks, first_changed, last_changed, listed}
use Rattle.code.specs.Inside.{PowerSums}
use Rattle.code.proofs.Words.{added_zeros, zero_get, length_added, characters_added, characters_below}
use Rattle.code.proofs.Lines.{line_long, clean_light}
use Rattle.code.proofs.Distances.{distance_weight, distance_comm, triangle}
use Rattle.code.proofs.Changes.{First, Last}
use Rattle.code.proofs.Sums.{horner_sums, power_sum_lt}
use Rattle.code.proofs.Theorems.{two_lines_clean}
use Rattle.line.specs.declared.Reading.{Reading}
use Rattle.line.specs.declared.PlainReading.{PlainReading}
use Rattle.line.specs.Promises.{reading_numbers, plain_numbers, Within, reading_tests, told, Reads}
use Rattle.line.specs.Inside.{ErrorSums}
use Rattle.line.proofs.Theorems.{line_told, one_line_reading, one_plain, one_reading, told_first, told_last, told_unchanged}
use Rattle.blots.specs.Promises.{Marked, blots, seen, outside, BlottedLine, Legible, blotted_tests, BlottedAs, ReadsBlotted}
use Rattle.blots.proofs.Seen.{seen_added, seen_all, seen_long, weight_seen, weight_blank}
use Rattle.blots.proofs.Finding.{line_with}
use Rattle.blots.proofs.Reading.{refused, read}
use Rattle.blots.proofs.Eleven.{some_fit}

-- ---- never a second line

-- words differ in no more characters than are seen to differ and blots hide
apart_at_most : (m u v : List ℕ) → length m ≡ 63 → length u ≡ 63 → length v ≡ 63 → distance u v ≤ outside m u v + blots m
apart_at_most m u v lm lu lv =
    let long : length (added u v) ≡ 63 = length_added u v (lu ∙ sym lv) ∙ lu in
    let w = weight_seen m (added u v) (lm ∙ sym long) in
    let d = distance_weight u v in
    let o : outside m u v ≡ weight (seen m (added u v)) = distance_weight (seen m u) (seen m v) ∙ ap weight (sym (seen_added m u v)) in
    omega arith

-- two lines that both differ from a word so little are one
pub one_blotted_line : (m w l k : List ℕ) → length m ≡ 63 → length w ≡ 63 → BlottedLine m w l → BlottedLine m w k → l ≡ k
one_blotted_line m w l k lm lw p q =
    let ll : length l ≡ 63 = line_long l p.line in
    let lk : length k ≡ 63 = line_long k q.line in
    added_zeros l k (ll ∙ sym lk)
    (clean_light (added l k) (two_lines_clean l k p.line q.line)
    (let a = apart_at_most m l k lm ll lk in
    let d = distance_weight l k in
    let t =
    triangle (seen m l) (seen m w) (seen m k) (seen_long m l (lm ∙ sym ll) ∙ ll ∙ sym (seen_long m w (lm ∙ sym lw) ∙ lw)) (seen_long m k (lm ∙ sym lk) ∙ lk ∙ sym (seen_long m w (lm ∙ sym lw) ∙ lw))
    in
    let c : outside m l w ≡ outside m w l = outside-comm l in
    let f = p.near in
    let g = q.near in
    omega arith))
  where
    outside-comm : (l : List ℕ) → distance (seen m l) (seen m w) ≡ distance (seen m w) (seen m l)
    outside-comm l = distance_comm (seen m l) (seen m w)

-- ---- one result

module _ (w m : List ℕ) where
  one-blotted-as : length m ≡ 63 → length w ≡ 63 → (f g x y : List ℕ) → BlottedAs m w f x → BlottedAs m w g y → (f ≡ g) × (x ≡ y)
  one-blotted-as lm lw f g x y p q =
      let e : x ≡ y = one_blotted_line m w x y lm lw p.0 q.0 in
      (p.1 ∙ ap (told w) e ∙ sym q.1, e)

  -- any two results that reading with blots allows are equal: their numbers, and what they leave
  pub same_blotted : (old i j x y : List ℕ) → ReadsBlotted w m old i x → ReadsBlotted w m old j y → (i ≡ j) × (x ≡ y)
  unfolding ReadsBlotted
  same_blotted old = one_result (blotted_tests w m (length old)) (BlottedAs m w) 4 (λ passed. one-blotted-as passed.1.0 passed.0) old

  -- and so any two readings, and plain ones
  pub one_blotted : (old : List ℕ) (r s : Result Reading Refusal) (x y : List ℕ) → ReadsBlotted w m old (reading_numbers r) x → ReadsBlotted w m old (reading_numbers s) y
      → (r ≡ s) × (x ≡ y)
  one_blotted old r s x y p q = let e = same_blotted old (reading_numbers r) (reading_numbers s) x y p q in (one_line_reading r s e.0, e.1)

  pub one_plain_blotted : (old : List ℕ) (r s : PlainReading) (x y : List ℕ) → ReadsBlotted w m old (plain_numbers r) x → ReadsBlotted w m old (plain_numbers s) y
      → (r ≡ s) × (x ≡ y)
  one_plain_blotted old r s x y p q = let e = same_blotted old (plain_numbers r) (plain_numbers s) x y p q in (one_plain r s e.0, e.1)

-- ---- for a word of 63 characters, a map of 63 bytes of 0 and 1, and an output of 63 bytes

module _ (w m old : List ℕ) (long : length w ≡ 63) (wide : length m ≡ 63) (room : length old ≡ 63) (characters : Characters w) (marked : Marked m) where
  -- reading yields the line that differs in e characters outside the f blots, 2 e + f at most 11, with its number, its distance over all addresses, and the
  -- first and the last changed address
  pub reads_blotted : (l : List ℕ) → BlottedLine m w l → ReadsBlotted w m old (reading_numbers (line_told (number l) (distance w l) (first_changed w l) (last_changed w l))) l
  reads_blotted l p = read w m old (told w l) l (long then wide then room then characters then marked then (l, p) then tt) (p, refl)

  -- so where there is one, every result is that
  pub read_blotted : (l : List ℕ) → BlottedLine m w l → (r : Result Reading Refusal) (x : List ℕ) → ReadsBlotted w m old (reading_numbers r) x
      → (r ≡ line_told (number l) (distance w l) (first_changed w l) (last_changed w l)) × (x ≡ l)
  read_blotted l p r x q = one_blotted w m old r (line_told (number l) (distance w l) (first_changed w l) (last_changed w l)) x l q (reads_blotted l p)

  -- and where there is none it refuses, for want of one, and only there
  pub reads_no_line : (Legible m w → ⊥) → ReadsBlotted w m old (6 ∷ 0 ∷ 0 ∷ 0 ∷ 0 ∷ []) old
  reads_no_line none = refused w m old 5 (long then wide then room then characters then marked then denied none)

  pub refused_no_line : (x : List ℕ) → ReadsBlotted w m old (6 ∷ 0 ∷ 0 ∷ 0 ∷ 0 ∷ []) x → Legible m w → ⊥
  refused_no_line x q (l, p) =
      let e = same_blotted w m old (6 ∷ 0 ∷ 0 ∷ 0 ∷ 0 ∷ []) (0 ∷ told w l) x l q (reads_blotted l p) in
      let z : ◌≡◌ {A = ℕ} 6 0 = ap (λ (k : List ℕ). get_or k 0 0) e.0 in
      omega arith

  -- twelve blots always meet it
  pub twelve_blots : 12 ≤ blots m → (numbers x : List ℕ) → ReadsBlotted w m old numbers x → (numbers ≡ 6 ∷ 0 ∷ 0 ∷ 0 ∷ 0 ∷ []) × (x ≡ old)
  twelve_blots h numbers x p = same_blotted w m old numbers (6 ∷ 0 ∷ 0 ∷ 0 ∷ 0 ∷ []) x old p (reads_no_line (λ q. let g = q.1.near in omega arith))

  -- and eleven never do: some line has every character that was seen
  pub eleven_blots : blots m ≡ 11 → (l : List ℕ) × BlottedLine m w l × (outside m w l ≡ 0)
  eleven_blots e =
      let (x, f) = some_fit 11 d m (omega arith) wide e elements in
      let b : BlottedLine m w (added w x) = line_with w m d errors long characters x f in
      (added w x, b, (let g = b.near in omega arith))
    where
      of_word : List ℕ
      of_word = listed (λ k. horner (power α (58 + k)) w 63) 0 11

      of_marks : List ℕ
      of_marks = listed (λ k. horner (power α (58 + k)) marks 63) 0 11

      d : List ℕ
      d = added of_word of_marks

      errors : ErrorSums w d
      errors = record { of_word = of_word; of_marks = of_marks; word_sums = horner_sums w; mark_sums = horner_sums marks; both = refl }

      small : (v s : List ℕ) → PowerSums v s → Characters s
      small v s p = characters_below s 11 (omega (arith, p.long)) (λ k h. subst (λ (n : ℕ). n < 64) (sym (p.sum_at k h)) (power_sum_lt (58 + k) v))

      elements : Characters d
      elements = characters_added of_word of_marks (small w of_word (horner_sums w)) (small marks of_marks (horner_sums marks))

-- ---- the refusals before it

module _ (w m old : List ℕ) (numbers x : List ℕ) (reads : ReadsBlotted w m old numbers x) where
  refused-with : (n : ℕ) → ReadsBlotted w m old (n ∷ 0 ∷ 0 ∷ 0 ∷ 0 ∷ []) old → (numbers ≡ n ∷ 0 ∷ 0 ∷ 0 ∷ 0 ∷ []) × (x ≡ old)
  refused-with n p = same_blotted w m old numbers (n ∷ 0 ∷ 0 ∷ 0 ∷ 0 ∷ []) x old reads p

  -- 1 for a word or a map that is not 63 long, whatever else is wrong
  pub word_length : (length w ≡ 63 → ⊥) → (numbers ≡ 1 ∷ 0 ∷ 0 ∷ 0 ∷ 0 ∷ []) × (x ≡ old)
  word_length d = refused-with 1 (refused w m old 0 (denied d))

  pub map_length : length w ≡ 63 → (length m ≡ 63 → ⊥) → (numbers ≡ 1 ∷ 0 ∷ 0 ∷ 0 ∷ 0 ∷ []) × (x ≡ old)
  map_length l d = refused-with 1 (refused w m old 1 (l then denied d))

  module _ (long : length w ≡ 63) (wide : length m ≡ 63) where
    -- then 5 for the output
    pub room_length : (length old ≡ 63 → ⊥) → (numbers ≡ 5 ∷ 0 ∷ 0 ∷ 0 ∷ 0 ∷ []) × (x ≡ old)
    room_length d = refused-with 5 (refused w m old 2 (long then wide then denied d))

    -- then 2 for a character over 63, at a blot too, or a map byte over 1
    pub character_over : length old ≡ 63 → (Characters w → ⊥) → (numbers ≡ 2 ∷ 0 ∷ 0 ∷ 0 ∷ 0 ∷ []) × (x ≡ old)
    character_over r d = refused-with 2 (refused w m old 3 (long then wide then r then denied d))

    pub map_over : length old ≡ 63 → Characters w → (Marked m → ⊥) → (numbers ≡ 2 ∷ 0 ∷ 0 ∷ 0 ∷ 0 ∷ []) × (x ≡ old)
    map_over r c d = refused-with 2 (refused w m old 4 (long then wide then r then c then denied d))

-- ---- what a success tells, for every word and map and whatever lay in the output

module _ (w m old : List ℕ) (n d f g : ℕ) (x : List ℕ) (reads : ReadsBlotted w m old (reading_numbers (line_told n d f g)) x) where
  met : Passed (blotted_tests w m (length old))
  unfolding ReadsBlotted
  met = passed (blotted_tests w m (length old)) 0 reads.0 refl

  line_read : BlottedAs m w (n ∷ d ∷ f ∷ g ∷ []) x
  unfolding ReadsBlotted
  line_read = reads.1

  -- the distance counts every differing address, blots too, so it may be up to 11
  pub distance_told : d ≡ distance w x
  distance_told = ap (λ (z : List ℕ). get_or z 1 0) line_read.1

  pub at_most_eleven : d ≤ 11
  at_most_eleven =
      let a = apart_at_most m w x met.1.0 met.0 (line_long x line_read.0.line) in
      let e = distance_told in
      let h = line_read.0.near in
      omega arith

  -- the first and the last changed address, as in every reading
  pub blotted_first : (w ≡ x → ⊥) → First w x f
  blotted_first = told_first w x n d f g met.0 line_read.0.line line_read.1

  pub blotted_last : (w ≡ x → ⊥) → Last w x g
  blotted_last = told_last w x n d f g met.0 line_read.0.line line_read.1

  pub blotted_unchanged : w ≡ x → (f ≡ nowhere) × (g ≡ nowhere)
  blotted_unchanged = told_unchanged w x n d f g met.0 line_read.0.line line_read.1

-- ---- an empty map

abbrev pub no_blots : List ℕ
no_blots = replicate 63 0

-- with an empty map it is line reading at radius 5: the same lines, the same tests, and so the same promise
module _ (w : List ℕ) where
  outside-all : (l : List ℕ) → length w ≡ 63 → length l ≡ 63 → outside no_blots w l ≡ distance w l
  outside-all l lw ll =
      ap₂ distance (seen_all no_blots w (sym lw) (λ k _. zero_get 63 k)) (seen_all no_blots l (sym ll) (λ k _. zero_get 63 k))

  no-blots : blots no_blots ≡ 0
  no-blots = weight_blank no_blots (λ k _. zero_get 63 k)

  module _ (long : length w ≡ 63) where
    as-within : (l : List ℕ) → BlottedLine no_blots w l → Within 5 w l
    as-within l p =
        let o = outside-all l long (line_long l p.line) in
        let b = no-blots in
        let h = p.near in
        record { line = p.line; near = omega arith }

    as-blotted : (l : List ℕ) → Within 5 w l → BlottedLine no_blots w l
    as-blotted l p =
        let o = outside-all l long (line_long l p.line) in
        let b = no-blots in
        let h = p.near in
        record { line = p.line; near = omega arith }

  -- the marks of an empty map
  empty-marked : Marked no_blots
  empty-marked k = subst (λ (v : ℕ). v < 2) (sym (zero_get 63 k)) (omega arith)

  module _ (old : List ℕ) where
    five-answer : (n : ℕ) → Answer (blotted_tests w no_blots (length old)) n → Answer (reading_tests w 5 None (length old)) n
    five-answer n (inr a) = inr a
    five-answer n (inl (lw, inr a)) = absurd (a.0 refl)
    five-answer n (inl (lw, inl (lm, inr a))) = inl (lw, inr a)
    five-answer n (inl (lw, inl (lm, inl (r, inr a)))) = inl (lw, inl (r, inr a))
    five-answer n (inl (lw, inl (lm, inl (r, inl (c, inr a))))) = absurd (a.0 empty-marked)
    five-answer n (inl (lw, inl (lm, inl (r, inl (c, inl (k, inr a)))))) =
        inl (lw, inl (r, inl (c, inl (omega arith, inl (tt, inr ((λ p. a.0 (p.0, as-blotted lw p.0 p.1)), a.1))))))
    five-answer n (inl (lw, inl (lm, inl (r, inl (c, inl (k, inl (p, a))))))) =
        let within : Within 5 w p.0 = as-within lw p.0 p.1 in
        inl (lw, inl (r, inl (c, inl (omega arith, inl (tt, inl ((p.0, within), inl ((p.0, within, tt), a)))))))

    empty-answer : (n : ℕ) → Answer (reading_tests w 5 None (length old)) n → Answer (blotted_tests w no_blots (length old)) n
    empty-answer n (inr a) = inr a
    empty-answer n (inl (lw, inr a)) = inl (lw, inl (refl, inr a))
    empty-answer n (inl (lw, inl (r, inr a))) = inl (lw, inl (refl, inl (r, inr a)))
    empty-answer n (inl (lw, inl (r, inl (c, inr a)))) = absurd (a.0 (omega arith))
    empty-answer n (inl (lw, inl (r, inl (c, inl (t, inr a))))) = absurd (a.0 tt)
    empty-answer n (inl (lw, inl (r, inl (c, inl (t, inl (k, inr a)))))) =
        inl (lw, inl (refl, inl (r, inl (c, inl (empty-marked, inr ((λ p. a.0 (p.0, as-within lw p.0 p.1)), a.1))))))
    empty-answer n (inl (lw, inl (r, inl (c, inl (t, inl (k, inl (p, inr a))))))) = absurd (a.0 (p.0, p.1, tt))
    empty-answer n (inl (lw, inl (r, inl (c, inl (t, inl (k, inl (p, inl (q, a)))))))) =
        inl (lw, inl (refl, inl (r, inl (c, inl (empty-marked, inl ((p.0, as-blotted lw p.0 p.1), a))))))

    pub empty_is_five : (numbers x : List ℕ) → ReadsBlotted w no_blots old numbers x → Reads w 5 None old numbers x
    unfolding ReadsBlotted Reads
    empty_is_five [] x p = p
    empty_is_five (zero ∷ fields) x p =
        (five-answer 0 p.0, (as-within (passed (blotted_tests w no_blots (length old)) 0 p.0 refl).0 x p.1.0, p.1.1))
    empty_is_five (suc n ∷ fields) x p = (five-answer (suc n) p.0, p.1)

    pub five_is_empty : (numbers x : List ℕ) → Reads w 5 None old numbers x → ReadsBlotted w no_blots old numbers x
    unfolding ReadsBlotted Reads
    five_is_empty [] x p = p
    five_is_empty (zero ∷ fields) x p =
        (empty-answer 0 p.0, (as-blotted (passed (reading_tests w 5 None (length old)) 0 p.0 refl).0 x p.1.0, p.1.1))
    five_is_empty (suc n ∷ fields) x p = (empty-answer (suc n) p.0, p.1)

    -- so every answer is line reading's, and every byte of the output
    pub empty_as_line : (r s : Result Reading Refusal) (x y : List ℕ) → ReadsBlotted w no_blots old (reading_numbers r) x → Reads w 5 None old (reading_numbers s) y → (r ≡ s) × (x ≡ y)
    empty_as_line r s x y p = one_reading w 5 None old r s x y (empty_is_five (reading_numbers r) x p)
