-- The theorems of line reading: it yields the line within the radius, refuses for want of one exactly when there is none, tells where the word was changed, and allows one result.
use mathlib.Core.Path.{◌≡◌, refl, sym, ap, ap₂, ◌∙◌, subst}
use mathlib.Core.Logic.{⊎_elim}
use mathlib.Core.List.{List, [], ◌∷◌}
use Prim.Native.Nat.{ℕ, min, ◌≤◌}
use native.Mathlib.Omega.{arith}
use lib.ListN.{length, get_or}
use Rattle.std.specs.Prelude.{Option, Some, None, Result, Ok, Err}
use Rattle.numbers.proofs.Cases.{same_or_not}
use Rattle.refusal.specs.declared.Refusal.{Refusal}
use Rattle.refusal.specs.Number.{number_of}
use Rattle.refusal.proofs.Laws.{one_refusal, one_answer, refusal_positive, passed}
use Rattle.refusal.proofs.Ladder.{◌then◌, denied}
use Rattle.refusal.proofs.Theorems.{one_result, same_numbers}
use Rattle.code.specs.Word.{Characters, Line, number, distance, nowhere, first_changed, last_changed, marks, added}
use Rattle.code.proofs.Lines.{line_long}
use Rattle.code.proofs.Changes.{First, Last}
use Rattle.code.proofs.Theorems.{one_line_near, first_changed_lem, last_changed_lem, unchanged, one_list_of_sums}
use Rattle.mender.specs.declared.Mended.{Mended}
use Rattle.mender.proofs.Theorems.{one_nearest}
use Rattle.line.specs.declared.Reading.{Reading}
use Rattle.line.specs.declared.PlainReading.{PlainReading}
use Rattle.line.specs.Promises.{reading_numbers, plain_numbers, Within, Readable, reading_tests, told, ReadAs, Reads}
use Rattle.line.specs.Inside.{Fit, RefusedFirst, NearestLine, ErrorSums, low_number, IsWanted, Writes, Answers}
use Rattle.line.proofs.Ways.{wanted_or_not, refused, read}

-- if a line lies within t it is the only one
pub one_within : (t : ℕ) (w l m : List ℕ) → length w ≡ 63 → t ≤ 5 → Within t w l → Within t w m → l ≡ m
one_within t w l m long small p q = one_line_near w l m t long small p.line q.line p.near q.near

-- a reading with these numbers
abbrev pub line_told : ℕ → ℕ → ℕ → ℕ → Result Reading Refusal
line_told n d f g = Ok (record { number = n; distance = d; first = f; last = g })

-- the numbers fix the reading, and the plain one
pub one_line_reading : (r s : Result Reading Refusal) → reading_numbers r ≡ reading_numbers s → r ≡ s
one_line_reading (Ok r) (Ok s) q = ap (λ (l : List ℕ). line_told (get_or l 1 0) (get_or l 2 0) (get_or l 3 0) (get_or l 4 0)) q
one_line_reading (Ok r) (Err s) q = absurd (refusal_positive s (sym (ap (λ (l : List ℕ). get_or l 0 0) q)))
one_line_reading (Err r) (Ok s) q = absurd (refusal_positive r (ap (λ (l : List ℕ). get_or l 0 0) q))
one_line_reading (Err r) (Err s) q = ap Err (one_refusal r s (ap (λ (l : List ℕ). get_or l 0 0) q))

pub one_plain : (r s : PlainReading) → plain_numbers r ≡ plain_numbers s → r ≡ s
one_plain r s e = ap (λ (l : List ℕ). record { answer = get_or l 0 0; distance = get_or l 2 0; number = get_or l 1 0; first = get_or l 3 0; last = get_or l 4 0 }) e

module _ (w : List ℕ) (t : ℕ) (wanted : Option ℕ) where
  one_read_as : length w ≡ 63 → t ≤ 5 → (f g x y : List ℕ) → ReadAs t w f x → ReadAs t w g y → (f ≡ g) × (x ≡ y)
  one_read_as long small f g x y p q =
      let e : x ≡ y = one_within t w x y long small p.0 q.0 in
      (p.1 ∙ ap (told w) e ∙ sym q.1, e)

  -- any two results that reading allows are equal: their numbers, and what they leave
  pub same_result : (old : List ℕ) (m n : List ℕ) (x y : List ℕ) → Reads w t wanted old m x → Reads w t wanted old n y → (m ≡ n) × (x ≡ y)
  unfolding Reads
  same_result old = one_result (reading_tests w t wanted (length old)) (ReadAs t w) 4 (λ passed. one_read_as passed.0 passed.1.1.1.0) old

  -- and so any two readings
  pub one_reading : (old : List ℕ) (r s : Result Reading Refusal) (x y : List ℕ) → Reads w t wanted old (reading_numbers r) x → Reads w t wanted old (reading_numbers s) y
      → (r ≡ s) × (x ≡ y)
  one_reading old r s x y p q = let e = same_result old (reading_numbers r) (reading_numbers s) x y p q in (one_line_reading r s e.0, e.1)

  -- plain ones too
  pub one_plain_reading : (old : List ℕ) (r s : PlainReading) (x y : List ℕ) → Reads w t wanted old (plain_numbers r) x → Reads w t wanted old (plain_numbers s) y
      → (r ≡ s) × (x ≡ y)
  one_plain_reading old r s x y p q = let e = same_result old (plain_numbers r) (plain_numbers s) x y p q in (one_plain r s e.0, e.1)

  -- and so are any two answers, whatever lay in outputs of one length
  pub same_reading : (old other : List ℕ) (r s : Result Reading Refusal) (x y : List ℕ) → length old ≡ length other → Reads w t wanted old (reading_numbers r) x
      → Reads w t wanted other (reading_numbers s) y → r ≡ s
  unfolding Reads
  same_reading old other r s x y e p q =
      one_line_reading r s
      (same_numbers (reading_tests w t wanted (length old)) (ReadAs t w) 4 (λ passed. one_read_as passed.0 passed.1.1.1.0) old other
      (reading_numbers r) (reading_numbers s) x y p (rw (sym e) at q))

-- ---- demand 2, for a word of 63 characters, an output of 63 bytes, a radius of at most 5, and no wanted number

module _ (w : List ℕ) (t : ℕ) (old : List ℕ) (long : length w ≡ 63) (room : length old ≡ 63) (characters : Characters w) (small : t ≤ 5) where
  -- reading yields the line within t, with its number, its distance, and the first and the last changed address
  pub reads_line : (l : List ℕ) → Within t w l → Reads w t None old (reading_numbers (line_told (number l) (distance w l) (first_changed w l) (last_changed w l))) l
  reads_line l p =
      read w t None old (told w l) l
      (long then room then characters then small then tt then (l, p) then (l, p, tt) then tt) (p, refl)

  -- so where there is one, every result is that
  pub read_within : (l : List ℕ) → Within t w l → (r : Result Reading Refusal) (x : List ℕ) → Reads w t None old (reading_numbers r) x
      → (r ≡ line_told (number l) (distance w l) (first_changed w l) (last_changed w l)) × (x ≡ l)
  read_within l p r x q = one_reading w t None old r (line_told (number l) (distance w l) (first_changed w l) (last_changed w l)) x l q (reads_line l p)

  -- and where there is none it refuses, for want of one, and only there
  pub reads_none : (Readable t w → ⊥) → Reads w t None old (6 ∷ 0 ∷ 0 ∷ 0 ∷ 0 ∷ []) old
  reads_none none = refused w t None old 5 (long then room then characters then small then tt then denied none)

  pub refused_none : (x : List ℕ) → Reads w t None old (6 ∷ 0 ∷ 0 ∷ 0 ∷ 0 ∷ []) x → Readable t w → ⊥
  refused_none x q (l, p) =
      let e = same_result w t None old (6 ∷ 0 ∷ 0 ∷ 0 ∷ 0 ∷ []) (0 ∷ told w l) x l q (reads_line l p) in
      let z : ◌≡◌ {A = ℕ} 6 0 = ap (λ (k : List ℕ). get_or k 0 0) e.0 in
      omega arith

-- ---- where the word was changed

-- what is told of a line l that is read from w: they differ at the first changed address and at the last, and nowhere before the one or after the other;
-- where they do not differ both are 63
module _ (w l : List ℕ) (n d f g : ℕ) (long : length w ≡ 63) (line : Line l) (tells : n ∷ d ∷ f ∷ g ∷ [] ≡ told w l) where
  pub told_first : (w ≡ l → ⊥) → First w l f
  told_first c = subst (First w l) (sym (ap (λ (z : List ℕ). get_or z 2 0) tells)) (first_changed_lem w l long (line_long l line) c)

  pub told_last : (w ≡ l → ⊥) → Last w l g
  told_last c = subst (Last w l) (sym (ap (λ (z : List ℕ). get_or z 3 0) tells)) (last_changed_lem w l long (line_long l line) c)

  pub told_unchanged : w ≡ l → (f ≡ nowhere) × (g ≡ nowhere)
  told_unchanged e =
      let u = unchanged w l long (line_long l line) e in
      (ap (λ (z : List ℕ). get_or z 2 0) tells ∙ u.0, ap (λ (z : List ℕ). get_or z 3 0) tells ∙ u.1)

-- so in every success, for every word, every radius, every wanted number and whatever lay in the output
module _ (w : List ℕ) (t : ℕ) (wanted : Option ℕ) (old : List ℕ) (n d f g : ℕ) (x : List ℕ) (reads : Reads w t wanted old (reading_numbers (line_told n d f g)) x) where
  word_long : length w ≡ 63
  unfolding Reads
  word_long = (passed (reading_tests w t wanted (length old)) 0 reads.0 refl).0

  line_read : ReadAs t w (n ∷ d ∷ f ∷ g ∷ []) x
  unfolding Reads
  line_read = reads.1

  pub read_first : (w ≡ x → ⊥) → First w x f
  read_first = told_first w x n d f g word_long line_read.0.line line_read.1

  pub read_last : (w ≡ x → ⊥) → Last w x g
  read_last = told_last w x n d f g word_long line_read.0.line line_read.1

  pub read_unchanged : w ≡ x → (f ≡ nowhere) × (g ≡ nowhere)
  read_unchanged = told_unchanged w x n d f g word_long line_read.0.line line_read.1

-- any two answers of looking for the nearest line are equal
pub one_nearest_line : (w : List ℕ) (t : ℕ) (m n : Option Mended) → NearestLine w t m → NearestLine w t n → m ≡ n
one_nearest_line w t m n =
    one_nearest Line w (min t 5) m n (λ y u v f g a b. one_line_near w u v (min t 5) y.long (omega arith) f g a b)

-- any two lists of the sums of what a word and a line differ by
pub one_error_sums : (w d e : List ℕ) → ErrorSums w d → ErrorSums w e → d ≡ e
one_error_sums w d e p q =
    p.both ∙ ap₂ added (one_list_of_sums w p.of_word q.of_word p.word_sums q.word_sums) (one_list_of_sums marks p.of_marks q.of_marks p.mark_sums q.mark_sums)
    ∙ sym q.both

-- and any two results of writing a line
pub one_written : (line old x y : List ℕ) → Writes line old x → Writes line old y → x ≡ y
one_written line old x y p q = ⊎_elim (λ e. p.over e ∙ sym (q.over e)) (λ d. p.beside d ∙ sym (q.beside d)) (same_or_not (length old) 63)

-- where a test before reading fails, any two refusals that are told are equal
pub one_first_refusal : (w : List ℕ) (t : ℕ) (wanted : Option ℕ) (room : ℕ) (r s : Refusal) → (Fit w t wanted room → ⊥) → RefusedFirst w t wanted room r → RefusedFirst w t wanted room s
    → r ≡ s
one_first_refusal w t wanted room r s d p q =
    one_refusal r s (one_answer (reading_tests w t wanted room) (number_of r) (number_of s) (p.answer d) (q.answer d))

-- and any two answers for a line that was found or not
pub one_answered : (m : Option Mended) (wanted : Option ℕ) (old f g x y : List ℕ) → Answers m wanted old f x → Answers m wanted old g y → (f ≡ g) × (x ≡ y)
one_answered None wanted old f g x y p q = (p.none.0 ∙ sym q.none.0, p.none.1 ∙ sym q.none.1)
one_answered (Some m) wanted old f g x y p q =
    ⊎_elim
    (λ (i : IsWanted wanted (low_number m.word)).
    ((p.line i).0 ∙ sym (q.line i).0, one_written m.word old x y (p.line i).1 (q.line i).1))
    (λ (d : IsWanted wanted (low_number m.word) → ⊥). ((p.other d).0 ∙ sym (q.other d).0, (p.other d).1 ∙ sym (q.other d).1))
    (wanted_or_not wanted (low_number m.word))
