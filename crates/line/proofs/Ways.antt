-- The ways out of reading a line: the tests before in the paper's order, what is found, and the answer after.
use mathlib.Core.Path.{◌≡◌, refl, sym, ap, ap₂, ◌∙◌, subst}
use mathlib.Core.Bool.{Bool, true, false, not}
use mathlib.Core.Logic.{◌⊎◌, inl, ⊎_elim}
use mathlib.Core.List.{List, [], ◌∷◌, ◌++◌, append-nil}
use Prim.Native.Nat.{ℕ, zero, suc, min, ◌+◌, ◌*◌, ◌%◌, ◌<◌, ◌≤◌}
use native.Mathlib.Nat.{le_of_eq, mod-eq_of_lt}
use native.Mathlib.Omega.{arith}
use lib.ListN.{length, get_or, take, drop, replicate}
use lib.Seq.{ext_get_or, length-take-le, take_all, drop-length}
use borrow.Author.Tests.{not-false}
use Rattle.std.specs.Prelude.{Option, Some, None}
use Rattle.numbers.proofs.Cases.{same_or_not}
use Rattle.refusal.specs.declared.Refusal.{Refusal}
use Rattle.refusal.specs.declared.Refusal.TheVariants.{NumberOver}
use Rattle.refusal.specs.Number.{number_of}
use Rattle.refusal.specs.Promise.{Test, Answer, Tells}
use Rattle.refusal.proofs.Laws.{tells_yes, tells_no, passed}
use Rattle.refusal.proofs.Ladder.{Yes, No, Met, FailsAt, answer_at, ◌then◌, given, denied, fails_answer, refuses, refuses_too, succeeds}
use Rattle.field.specs.Field.{sum}
use Rattle.field.proofs.Laws
use Rattle.code.specs.Word.{Characters, Line, marks, number, distance, nowhere, added}
use Rattle.code.specs.Inside.{PowerSums}
use Rattle.code.proofs.Words.{zero_get, listed_get, length_added, added_get}
use Rattle.code.proofs.Sums.{power_sum_lt}
use Rattle.code.proofs.Lines.{line_long, line_characters, line_sums, sums_line}
use Rattle.code.proofs.Theorems.{one_line_near}
use Rattle.sums.specs.declared.Sums.{Sums}
use Rattle.sums.specs.Held.{eleven, lowered}
use Rattle.sums.proofs.Holding.{eleven_long}
use Rattle.mender.specs.declared.Mended.{Mended}
use Rattle.mender.specs.Mender.{HasSums, Near, NoneNear, Nearest}
use Rattle.mender.specs.Found.{Clear, Repairs, Without}
use Rattle.mender.proofs.Finding.{nearest_as}
use Rattle.mender.proofs.Repairing.{repairs_none, near}
use Rattle.line.specs.Promises.{Within, Readable, Possible, Carries, Fitting, reading_tests, told, ReadAs, Reads}
use Rattle.line.specs.Inside.{Fit, RefusedFirst, ErrorSums, low_number, IsWanted, Writes, AnswersLine, Answers}

-- ---- the nearest line: a line is a word with the power sums of the marks

pub nearest_line_is : (w s : List ℕ) (t : ℕ) (m : Option Mended) → PowerSums marks s → Nearest (HasSums s) w t m → Nearest Line w t m
nearest_line_is w s t m p n =
    nearest_as (HasSums s) Line w t m
    (λ v y. sums_line v y.word.long y.word.characters (λ k h. y.sums k h ∙ p.sum_at k h))
    (λ v l. record { word = record { long = line_long v l; characters = line_characters v l }; sums = λ k h. line_sums v l k h ∙ sym (p.sum_at k h) }) n

-- ---- the sums of the errors

-- the marks' sums are elements, and stay what they are when they are packed
marks_packed : (s : List ℕ) (h : Sums) → PowerSums marks s → eleven h ≡ lowered s → PowerSums marks (eleven h)
unfolding lowered
marks_packed s h p e =
    record {
      long = eleven_long h;
      sum_at = λ k l.
          ap (λ (u : List ℕ). get_or u k 0) e ∙ listed_get (λ i. get_or s i 0 % 64) 11 k l ∙ ap (λ (n : ℕ). n % 64) (p.sum_at k l)
          ∙ mod-eq_of_lt (power_sum_lt (58 + k) marks);
    }

pub errors_are : (w s d : List ℕ) (g h : Sums) → PowerSums w (eleven g) → PowerSums marks s → eleven h ≡ lowered s → d ≡ added (eleven g) (eleven h) → ErrorSums w d
errors_are w s d g h p q e b = record { of_word = eleven g; of_marks = eleven h; word_sums = p; mark_sums = marks_packed s h q e; both = b }

unchanged : (w : List ℕ) → length w ≡ 63 → w ≡ added w (replicate 63 0)
unfolding sum
unchanged w l =
    ext_get_or 0 w (added w (replicate 63 0)) (sym (length_added w (replicate 63 0) l))
    (λ k _. sym (added_get w (replicate 63 0) l k ∙ ap (sum (get_or w k 0)) (zero_get 63 k) ∙ Laws.sum_zero (get_or w k 0)))

module _ (w d : List ℕ) (t : ℕ) (es : ErrorSums w d) (long : length w ≡ 63) (characters : Yes (Characters w)) where
  repaired-line : (m : Option Mended) → Repairs d w (min t 5) m → Nearest Line w (min t 5) m
  repaired-line m r =
      nearest_line_is w es.of_marks (min t 5) m es.mark_sums
      (near w es.of_word es.of_marks d (min t 5) true m long (tells_yes characters.is) refl es.word_sums es.mark_sums.long es.both r)

-- ---- the wanted number

-- a line's number is the one wanted exactly where the line carries it
carries_of : (wanted : Option ℕ) (l : List ℕ) (n : ℕ) → n ≡ number l → IsWanted wanted n → Carries wanted l
carries_of None l n e i = tt
carries_of (Some m) l n e i = sym e ∙ i

wanted_of : (wanted : Option ℕ) (l : List ℕ) (n : ℕ) → n ≡ number l → Carries wanted l → IsWanted wanted n
wanted_of None l n e c = tt
wanted_of (Some m) l n e c = e ∙ c

pub wanted_or_not : (wanted : Option ℕ) (n : ℕ) → IsWanted wanted n ⊎ (IsWanted wanted n → ⊥)
wanted_or_not None n = inl tt
wanted_or_not (Some m) n = same_or_not n m

-- ---- the tests

module _ (w : List ℕ) (t : ℕ) (wanted : Option ℕ) (old : List ℕ) where
  abbrev tests : List Test
  tests = reading_tests w t wanted (length old)

  pub refused : (n : ℕ) → FailsAt n tests → Reads w t wanted old (answer_at n tests ∷ 0 ∷ 0 ∷ 0 ∷ 0 ∷ []) old
  unfolding Reads
  refused = refuses (ReadAs t w) 4 old tests

  pub read : (fields new : List ℕ) → Met tests → ReadAs t w fields new → Reads w t wanted old (0 ∷ fields) new
  unfolding Reads
  read = succeeds (ReadAs t w) 4 old tests

-- whatever reading answers, the output keeps its length
pub reads_long : (w : List ℕ) (t : ℕ) (wanted : Option ℕ) (old numbers new : List ℕ) → Reads w t wanted old numbers new → length new ≡ length old
unfolding Reads
reads_long w t wanted old [] new p = absurd p
reads_long w t wanted old (zero ∷ f) new p = line_long new p.1.0.line ∙ sym (passed (tests w t wanted old) 0 p.0 refl).1.0
reads_long w t wanted old (suc n ∷ f) new p = ap length p.1.1

-- ---- the tests before

module _ (w : List ℕ) (t : ℕ) (wanted : Option ℕ) (room : ℕ) where
  pub unfit_word : (length w ≡ 63 → ⊥) → Tells (Fit w t wanted room) false
  unfit_word d = tells_no (λ f. d f.long)

  pub unfit_room : (room ≡ 63 → ⊥) → Tells (Fit w t wanted room) false
  unfit_room d = tells_no (λ f. d f.enough)

  pub unfit_characters : No (Characters w) → Tells (Fit w t wanted room) false
  unfit_characters d = tells_no (λ f. d.not f.characters)

  pub unfit_radius : 5 < t → Tells (Fit w t wanted room) false
  unfit_radius h = tells_no (λ f. let g = f.near in omega arith)

  module _ (long : length w ≡ 63) (enough : room ≡ 63) (characters : Yes (Characters w)) (near : t ≤ 5) where
    fit : Possible wanted → Fit w t wanted room
    fit p = record { long = long; enough = enough; characters = characters.is; near = near; possible = p }

    pub fit_possible : (b : Bool) → Tells (Possible wanted) b → Tells (Fit w t wanted room) b
    fit_possible b p = record { holds = λ e. fit (p.holds e); fails = λ e f. p.fails e f.possible }

    pub refused_last : RefusedFirst w t wanted room NumberOver
    refused_last =
        record {
          answer = λ d. fails_answer (reading_tests w t wanted room) 4 (long then enough then characters.is then near then denied (λ p. d (fit p)));
        }

  pub refused_at : (n : ℕ) (r : Refusal) → number_of r ≡ answer_at n (reading_tests w t wanted room) → FailsAt n (reading_tests w t wanted room) → RefusedFirst w t wanted room r
  refused_at n r e f =
      record { answer = λ _. subst (Answer (reading_tests w t wanted room)) (sym e) (fails_answer (reading_tests w t wanted room) n f) }

-- a reading refuses as its tests do
pub refused_before : (w : List ℕ) (t : ℕ) (wanted : Option ℕ) (old : List ℕ) (why : Refusal) → No (Fit w t wanted (length old)) → RefusedFirst w t wanted (length old) why
    → Reads w t wanted old (number_of why ∷ 0 ∷ 0 ∷ 0 ∷ 0 ∷ []) old
unfolding Reads
refused_before w t wanted old why d r = refuses_too (ReadAs t w) 4 old (reading_tests w t wanted (length old)) why (r.answer d.not)

-- the lengths, as the code branches on the tests
pub word_long : (w : List ℕ) (t : ℕ) (wanted : Option ℕ) (room : ℕ) (b : Bool) → Tells (Fit w t wanted room) b → not b ≡ false → length w ≡ 63
word_long w t wanted room b f e = (f.holds (not-false b e)).long

pub room_long : (w : List ℕ) (t : ℕ) (wanted : Option ℕ) (room : ℕ) (b : Bool) → Tells (Fit w t wanted room) b → not b ≡ false → room ≡ 63
room_long w t wanted room b f e = (f.holds (not-false b e)).enough

-- ---- what is found: no line, another one than is wanted, or the line

module _ (w : List ℕ) (t : ℕ) (wanted : Option ℕ) (old : List ℕ) (fit : Fit w t wanted (length old)) where
  none : NoneNear Line w (min t 5) → Reads w t wanted old (answer_at 5 (tests w t wanted old) ∷ 0 ∷ 0 ∷ 0 ∷ 0 ∷ []) old
  none nothing =
      refused w t wanted old 5
      (fit.long then fit.enough then fit.characters then fit.near then fit.possible then
      denied (λ (r : Readable t w). let g = r.1.near in let s = fit.near in nothing.none (record { long = fit.long; characters = fit.characters }) r.0 r.1.line (omega arith)))

  module _ (m : Mended) (nearest : Near Line w (min t 5) m) where
    within : Within t w m.word
    within =
        let d = nearest.apart in
        let g = nearest.within in
        record { line = nearest.is; near = omega arith }

    number-here : low_number m.word ≡ number m.word
    number-here =
        let c = line_characters m.word nearest.is in
        ap₂ (λ (x y : ℕ). x * 64 + y) (mod-eq_of_lt (c 50)) (mod-eq_of_lt (c 51))

    told_here : low_number m.word ∷ m.weight ∷ m.first ∷ m.last ∷ [] ≡ told w m.word
    told_here =
        ap₂ (λ (x y : ℕ). x ∷ y ∷ m.first ∷ m.last ∷ []) number-here nearest.apart
        ∙ ap₂ (λ (x y : ℕ). number m.word ∷ distance w m.word ∷ x ∷ y ∷ []) nearest.ends.from nearest.ends.to

    other : (IsWanted wanted (low_number m.word) → ⊥) → Reads w t wanted old (answer_at 6 (tests w t wanted old) ∷ 0 ∷ 0 ∷ 0 ∷ 0 ∷ []) old
    other d =
        refused w t wanted old 6
        (fit.long then fit.enough then fit.characters then fit.near then fit.possible then (m.word, within) then
        denied (λ (r : Fitting t w wanted).
        let same : m.word ≡ r.0 = one_line_near w m.word r.0 t fit.long fit.near within.line r.1.line within.near r.1.near in
        d (wanted_of wanted r.0 (low_number m.word) (number-here ∙ ap number same) r.2)))

    the_line : IsWanted wanted (low_number m.word) → Reads w t wanted old (0 ∷ low_number m.word ∷ m.weight ∷ m.first ∷ m.last ∷ []) m.word
    the_line i =
        read w t wanted old (low_number m.word ∷ m.weight ∷ m.first ∷ m.last ∷ []) m.word
        (fit.long then fit.enough then fit.characters then fit.near then fit.possible then (m.word, within)
        then (m.word, within, carries_of wanted m.word (low_number m.word) number-here i) then tt)
        (within, told_here)

  -- the answer for the nearest line is that of reading
  pub answered_reads : (m : Option Mended) → Nearest Line w (min t 5) m → (numbers new : List ℕ) → Answers m wanted old numbers new → Reads w t wanted old numbers new
  answered_reads m nearest numbers new a = pick m nearest a
    where
      taken : (xs ys : List ℕ) → numbers ≡ xs → new ≡ ys → Reads w t wanted old xs ys → Reads w t wanted old numbers new
      taken xs ys e f r = subst (λ (x : List ℕ). Reads w t wanted old x new) (sym e) (subst (Reads w t wanted old xs) (sym f) r)

      pick : (m : Option Mended) → Nearest Line w (min t 5) m → Answers m wanted old numbers new → Reads w t wanted old numbers new
      pick None n a = taken _ old a.none.0 a.none.1 (none n)
      pick (Some m) n a =
          ⊎_elim
          (λ (i : IsWanted wanted (low_number m.word)). let (e, f) = a.line i in taken _ m.word e (f.over fit.enough) (the_line m n i))
          (λ (d : IsWanted wanted (low_number m.word) → ⊥). let (e, f) = a.other d in taken _ old e f (other m n d))
          (wanted_or_not wanted (low_number m.word))

-- ---- a word that is a line itself, where the sums of its errors are all 0; and one without the errors that have these sums

-- what mending gives where there is nothing to mend
abbrev unmended : List ℕ → Mended
unmended w = record { weight = 0; first = nowhere; last = nowhere; word = w }

pub all_long : (w : List ℕ) → length w ≡ 63 → 63 ≡ length (take 63 w)
all_long w long = sym (length-take-le 63 w (le_of_eq (sym long)))

module _ (w d : List ℕ) (t : ℕ) (wanted : Option ℕ) (old : List ℕ) (fits : Yes (Fit w t wanted (length old))) (es : ErrorSums w d) where
  fit-here : Fit w t wanted (length old)
  fit-here = fits.is

  module _ (b : Bool) (clear : Tells (Clear d) b) (q : b ≡ true) where
    itself : Near Line w (min t 5) (unmended w)
    itself =
        repaired-line w d t es fit-here.long (given fit-here.characters) (Some (unmended w))
        (repairs_none d w w (min t 5) b fit-here.long clear q (unchanged w fit-here.long))

    module _ (n : ℕ) (is : n ≡ low_number w) where
      pub itself_other : No (IsWanted wanted n) → Reads w t wanted old (answer_at 6 (tests w t wanted old) ∷ 0 ∷ 0 ∷ 0 ∷ 0 ∷ []) old
      itself_other d = other w t wanted old fit-here (unmended w) itself (subst (λ (k : ℕ). IsWanted wanted k → ⊥) is d.not)

      pub itself_read : Yes (IsWanted wanted n) → (new : List ℕ) → new ≡ w → Reads w t wanted old (0 ∷ n ∷ 0 ∷ 63 ∷ 63 ∷ []) new
      itself_read i new e =
          subst (Reads w t wanted old (0 ∷ n ∷ 0 ∷ 63 ∷ 63 ∷ [])) (sym e)
          (subst (λ (k : ℕ). Reads w t wanted old (0 ∷ k ∷ 0 ∷ 63 ∷ 63 ∷ []) w) (sym is)
          (the_line w t wanted old fit-here (unmended w) itself (subst (IsWanted wanted) is i.is)))

  pub mended_read : (m : Option Mended) (e : ℕ) → e ≡ t → Without d (take 63 w) e m → (numbers new : List ℕ) → Answers m wanted old numbers new
      → Reads w t wanted old numbers new
  mended_read m e q given-here =
      let r : Without d (take 63 w) t m = subst (λ (k : ℕ). Without d (take 63 w) k m) q given-here in
      let same : take 63 w ≡ w = take_all 63 w (let l = fit-here.long in omega arith) in
      answered_reads w t wanted old fit-here m
      (repaired-line w d t es fit-here.long (given fit-here.characters) m (subst (λ (v : List ℕ). Repairs d v (min t 5) m) same (r.whole (ap length same ∙ fit-here.long))))

  -- the output keeps its length
  pub mended_long : (m : Option Mended) (e : ℕ) → e ≡ t → Without d (take 63 w) e m → (numbers new : List ℕ) → Answers m wanted old numbers new
      → length new ≡ length old
  mended_long m e q r numbers new a = reads_long w t wanted old numbers new (mended_read m e q r numbers new a)

-- ---- the answer after

module _ (found : Option Mended) (wanted : Option ℕ) (old : List ℕ) where
  abbrev GivesAnswer : List ℕ → List ℕ → Type 0
  GivesAnswer numbers new = Answers found wanted old numbers new

  module _ (m : Mended) (here : found ≡ Some m) (n : ℕ) (is : n ≡ low_number m.word) where
    line-answered : (numbers new : List ℕ) → AnswersLine m wanted old numbers new → GivesAnswer numbers new
    line-answered numbers new a = subst (λ (o : Option Mended). Answers o wanted old numbers new) (sym here) a

    pub line_answered : Yes (IsWanted wanted n) → (new : List ℕ) → Writes m.word old new → GivesAnswer (0 ∷ n ∷ m.weight ∷ m.first ∷ m.last ∷ []) new
    line_answered i new p =
        line-answered _ new (record {
          other = λ d. absurd (d (subst (IsWanted wanted) is i.is));
          line = λ _. (ap (λ (k : ℕ). 0 ∷ k ∷ m.weight ∷ m.first ∷ m.last ∷ []) is, p);
        })

-- ---- the output

-- 63 bytes copied over 63
pub copied : (line old new : List ℕ) → length line ≡ 63 → length old ≡ 63 → new ≡ take (length line) line ++ drop (length line) old → new ≡ line
copied line old new l room e =
    e
    ∙ ap₂ (λ (x y : List ℕ). x ++ y) (take_all (length line) line (omega arith)) (ap (λ (k : ℕ). drop k old) (l ∙ sym room) ∙ drop-length old)
    ∙ append-nil line

pub put_over : (line old new : List ℕ) → length line ≡ 63 → length old ≡ 63 → new ≡ take (length line) line ++ drop (length line) old → Writes line old new
put_over line old new l room e = record { over = λ _. copied line old new l room e; beside = λ d. absurd (d room) }

pub left_alone : (line old : List ℕ) → (length old ≡ 63 → ⊥) → Writes line old old
left_alone line old d = record { over = λ e. absurd (d e); beside = λ _. refl }

-- an output of 63 bytes holds the line
pub written : {line old new : List ℕ} → Writes line old new → length old ≡ 63 → new ≡ line
written w room = w.over room

pub written_long : {line old new : List ℕ} → Writes line old new → length line ≡ 63 → length old ≡ 63 → length new ≡ length old
written_long w l room = ap length (w.over room) ∙ l ∙ sym room

pub same_long : (w old new : List ℕ) → length w ≡ 63 → length old ≡ 63 → new ≡ w → length new ≡ length old
same_long w old new l room e = ap length e ∙ l ∙ sym room

-- and so it does where it was copied over other bytes before
module _ (w spare line old new : List ℕ) (l : length w ≡ 63) (k : length spare ≡ 63) (e : line ≡ take (length w) w ++ drop (length w) spare)
    (room : length old ≡ 63) (put : Writes line old new) where
  pub copy_written : new ≡ w
  copy_written = put.over room ∙ copied w spare line l k e

  pub copy_written_long : length new ≡ length old
  copy_written_long = same_long w old new l room copy_written
