-- What is proved of reading a sheet, in the request's words: one result, what 0, 16 and the other refusals tell, when a call is refused, and the promise about damage.
use mathlib.Core.Path.{◌≡◌, refl, sym, ap, ap₂, ◌∙◌, subst}
use mathlib.Core.Logic.{◌⊎◌, inl, inr, ⊎_elim}
use mathlib.Core.List.{List, [], ◌∷◌}
use Prim.Native.Nat.{ℕ, zero, suc, ◌<◌, ◌≤◌}
use native.Mathlib.Omega.{arith}
use lib.ListN.{length, get_or}
use Rattle.std.specs.Prelude.{Result, Ok, Err}
use Rattle.refusal.specs.declared.Refusal.{Refusal}
use Rattle.refusal.specs.declared.Refusal.TheVariants.{ValueOver, OutputLength, ImproperSheet}
use Rattle.refusal.specs.Number.{number_of}
use Rattle.refusal.specs.Promise.{Test, ◌else◌, Answer, Promise}
use Rattle.refusal.proofs.Laws.{one_answer, one_refusal, refusal_positive}
use Rattle.refusal.proofs.Ladder.{met_answer, denied, ◌then◌}
use Rattle.refusal.proofs.Theorems.{one_result}
use Rattle.code.specs.Word.{Characters, distance}
use Rattle.sheet.specs.Sheet.{characters, line_of, Proper, Rounds, most_rounds}
use Rattle.sheet.specs.Damage.{OneOf}
use Rattle.sheet.proofs.Theorems as sheet
use Rattle.sheet.proofs.Reading.{one_run}
use Rattle.sheet.proofs.Forced.{proper_characters}
use Rattle.sheet_reader.specs.declared.SheetReading.{SheetReading}
use Rattle.sheet_reader.specs.declared.SheetReading.TheVariants as S
use Rattle.sheet_reader.specs.Promises.{reading_numbers, reading_tests, Run, ReadsSheet}
use Rattle.sheet_reader.proofs.Ways.{refused}

-- ---- one result

-- the answer tells whether what the rounds left is proper
abbrev told : List ℕ → List Test
told r = (Proper r else ImproperSheet) ∷ []

module _ (s old : List ℕ) where
  abbrev tests : List Test
  tests = reading_tests s (length old)

  abbrev Refuses : List ℕ → List ℕ → Type 0
  Refuses = Promise tests (λ fields written. ⊥) 1 old

  -- a call is not both refused and run
  not_both : (m : List ℕ) (x : List ℕ) → Refuses m x → Answer tests 0 → ⊥
  not_both [] x r a = r
  not_both (zero ∷ f) x r a = r.1
  not_both (suc n ∷ f) x r a = let e : suc n ≡ 0 = one_answer tests (suc n) 0 r.0 a in absurd (omega arith)

  module _ (long : length s ≡ characters) where
    -- rounds leave one sheet, with one count and one answer
    one-run-result : (m n x y : List ℕ) → Run s m x → Run s n y → (m ≡ n) × (x ≡ y)
    one-run-result m n x y a b =
        let e = one_run most_rounds s a.rounds b.rounds x y long a.run b.run in
        let f : a.answer ≡ b.answer =
        one_answer (told y) a.answer b.answer (subst (λ (r : List ℕ). Answer (told r) a.answer) e.1 a.tells) b.tells in
        (a.shows ∙ ap₂ (λ (p q : ℕ). p ∷ q ∷ []) f e.0 ∙ sym b.shows, e.1)

  -- any two results that reading a sheet allows are equal
  pub same_reading : (m n x y : List ℕ) → ReadsSheet s old m x → ReadsSheet s old n y → (m ≡ n) × (x ≡ y)
  unfolding ReadsSheet
  same_reading m n x y (inl p) (inl q) = one_result tests (λ fields written. ⊥) 1 (λ passed f g x y a b. absurd a) old m n x y p q
  same_reading m n x y (inl p) (inr q) = absurd (not_both m x p q.0)
  same_reading m n x y (inr p) (inl q) = absurd (not_both n y q p.0)
  same_reading m n x y (inr p) (inr q) = one-run-result (passed-long p.0) m n x y p.1 q.1
    where
      passed-long : Answer tests 0 → length s ≡ characters
      passed-long (inl a) = a.0
      passed-long (inr a) = absurd (let e = a.1 in omega arith)

  -- ---- what an answer tells

  -- the tests give 1, 5, 2 or none
  few-answers : (n : ℕ) → Answer tests n → (n ≡ 1) ⊎ ((n ≡ 5) ⊎ ((n ≡ 2) ⊎ (n ≡ 0)))
  few-answers n (inr a) = inl a.1
  few-answers n (inl a) = inr (room a.1)
    where
      value : Answer ((Characters s else ValueOver) ∷ []) n → (n ≡ 2) ⊎ (n ≡ 0)
      value (inr a) = inl a.1
      value (inl a) = inr a.1

      room : Answer ((length old ≡ characters else OutputLength) ∷ (Characters s else ValueOver) ∷ []) n → (n ≡ 5) ⊎ ((n ≡ 2) ⊎ (n ≡ 0))
      room (inr a) = inl a.1
      room (inl a) = inr (value a.1)

  -- so 16 is never one of theirs
  never-16 : Answer tests 16 → ⊥
  never-16 a =
      ⊎_elim (λ (e : 16 ≡ 1). omega arith) (⊎_elim (λ (e : 16 ≡ 5). omega arith) (⊎_elim (λ (e : 16 ≡ 2). omega arith) (λ (e : 16 ≡ 0). omega arith)))
      (few-answers 16 a)

  -- the numbers of a run, and what it left
  module _ (n rounds : ℕ) (x : List ℕ) (r : Run s (n ∷ rounds ∷ []) x) where
    run_of : Rounds most_rounds s rounds x
    run_of = subst (λ (k : ℕ). Rounds most_rounds s k x) (sym (ap (λ (l : List ℕ). get_or l 1 0) r.shows)) r.run

    answer-of : Answer (told x) n
    answer-of = subst (Answer (told x)) (sym (ap (λ (l : List ℕ). get_or l 0 0) r.shows)) r.tells

  -- 0: the output is what the rounds leave, and a proper sheet
  pub proper_answer : (rounds : ℕ) (x : List ℕ) → ReadsSheet s old (0 ∷ rounds ∷ []) x → Rounds most_rounds s rounds x × Proper x
  unfolding ReadsSheet
  proper_answer rounds x (inl p) = absurd p.1
  proper_answer rounds x (inr p) = (run_of 0 rounds x p.1, is (answer-of 0 rounds x p.1))
    where
      is : Answer (told x) 0 → Proper x
      is (inl a) = a.0
      is (inr a) = absurd (let e = a.1 in omega arith)

  -- 16: the output is what the rounds leave, too, and no proper sheet
  pub improper_answer : (rounds : ℕ) (x : List ℕ) → ReadsSheet s old (number_of ImproperSheet ∷ rounds ∷ []) x → Rounds most_rounds s rounds x × (Proper x → ⊥)
  unfolding ReadsSheet
  improper_answer rounds x (inl p) = absurd (never-16 p.0)
  improper_answer rounds x (inr p) = (run_of 16 rounds x p.1, is (answer-of 16 rounds x p.1))
    where
      is : Answer (told x) 16 → Proper x → ⊥
      is (inl a) = absurd (let e = a.1 in omega arith)
      is (inr a) = a.0

  -- any other refusal changes nothing, and its rounds are 0: 16 is the one that does
  pub other_answers : (n : ℕ) (fields x : List ℕ) → (n ≡ 0 → ⊥) → (n ≡ number_of ImproperSheet → ⊥) → ReadsSheet s old (n ∷ fields) x → (fields ≡ 0 ∷ []) × (x ≡ old)
  unfolding ReadsSheet
  other_answers zero fields x d e p = absurd (d refl)
  other_answers (suc n) fields x d e (inl p) = p.1
  other_answers (suc n) fields x d e (inr p) = absurd (either p.1.tells)
    where
      is : suc n ≡ p.1.answer
      is = ap (λ (l : List ℕ). get_or l 0 0) p.1.shows

      either : Answer (told x) p.1.answer → ⊥
      either (inl a) = d (is ∙ a.1)
      either (inr a) = e (is ∙ a.1)

  -- ---- when a call is refused

  -- 1 for a sheet of another length, then 5 for an output of another length, then 2 for a character over 63; else rounds are run
  pub length_refused : (length s ≡ characters → ⊥) → (numbers x : List ℕ) → ReadsSheet s old numbers x → (numbers ≡ 1 ∷ 0 ∷ []) × (x ≡ old)
  length_refused d numbers x p = same_reading numbers (1 ∷ 0 ∷ []) x old p (refused s old 0 (denied d))

  pub room_refused : length s ≡ characters → (length old ≡ characters → ⊥) → (numbers x : List ℕ) → ReadsSheet s old numbers x → (numbers ≡ 5 ∷ 0 ∷ []) × (x ≡ old)
  room_refused l d numbers x p = same_reading numbers (5 ∷ 0 ∷ []) x old p (refused s old 1 (l then denied d))

  pub value_refused : length s ≡ characters → length old ≡ characters → (Characters s → ⊥) → (numbers x : List ℕ) → ReadsSheet s old numbers x
      → (numbers ≡ 2 ∷ 0 ∷ []) × (x ≡ old)
  value_refused l r d numbers x p = same_reading numbers (2 ∷ 0 ∷ []) x old p (refused s old 2 (l then r then denied d))

  pub not_refused : length s ≡ characters → length old ≡ characters → Characters s → (numbers x : List ℕ) → ReadsSheet s old numbers x → Run s numbers x
  unfolding ReadsSheet
  not_refused l r c numbers x (inl p) = absurd (not_both numbers x p (met_answer tests (l then r then c then tt)))
  not_refused l r c numbers x (inr p) = p.1

-- any two answers of reading a sheet are equal
pub one_reading : (s old : List ℕ) (a b : Result SheetReading Refusal) (x y : List ℕ) → ReadsSheet s old (reading_numbers a) x → ReadsSheet s old (reading_numbers b) y → (a ≡ b) × (x ≡ y)
one_reading s old a b x y p q =
    let e = same_reading s old (reading_numbers a) (reading_numbers b) x y p q in
    (fixed a b p q (ap (λ (l : List ℕ). get_or l 0 0) e.0) (ap (λ (l : List ℕ). get_or l 1 0) e.0), e.1)
  where
    -- the tests never give 16
    no-sixteen : (r : Refusal) (z : List ℕ) → ReadsSheet s old (number_of r ∷ 0 ∷ []) z → number_of r ≡ number_of ImproperSheet → ⊥
    no-sixteen r z p e =
        let run = (improper_answer s old 0 z (subst (λ (n : ℕ). ReadsSheet s old (n ∷ 0 ∷ []) z) e p)).0 in
        let l = (sheet.one_to_eight s 0 z run).0 in
        omega arith

    fixed : (a b : Result SheetReading Refusal) → ReadsSheet s old (reading_numbers a) x → ReadsSheet s old (reading_numbers b) y
        → get_or (reading_numbers a) 0 0 ≡ get_or (reading_numbers b) 0 0 → get_or (reading_numbers a) 1 0 ≡ get_or (reading_numbers b) 1 0 → a ≡ b
    fixed (Ok (S.Proper m)) (Ok (S.Proper n)) p q e f = ap (λ (k : ℕ). Ok (S.Proper k)) f
    fixed (Ok (S.Proper m)) (Ok (S.Improper n)) p q e f = absurd (omega arith)
    fixed (Ok (S.Proper m)) (Err r) p q e f = absurd (refusal_positive r (sym e))
    fixed (Ok (S.Improper m)) (Ok (S.Proper n)) p q e f = absurd (omega arith)
    fixed (Ok (S.Improper m)) (Ok (S.Improper n)) p q e f = ap (λ (k : ℕ). Ok (S.Improper k)) f
    fixed (Ok (S.Improper m)) (Err r) p q e f = absurd (no-sixteen r y q (sym e))
    fixed (Err r) (Ok (S.Proper n)) p q e f = absurd (refusal_positive r e)
    fixed (Err r) (Ok (S.Improper n)) p q e f = absurd (no-sixteen r x p e)
    fixed (Err r) (Err t) p q e f = ap Err (one_refusal r t e)

-- ---- damage

-- a proper sheet is read as it is, in one round
pub undamaged_read : (p old : List ℕ) → Proper p → length old ≡ characters → (numbers x : List ℕ) → ReadsSheet p old numbers x → (numbers ≡ 0 ∷ 1 ∷ []) × (x ≡ p)
unfolding ReadsSheet
undamaged_read p old proper room numbers x reads =
    same_reading p old numbers (0 ∷ 1 ∷ []) x p reads
    (inr (
      met_answer (reading_tests p (length old)) (proper.long then room then proper_characters p proper then tt),
      record { answer = 0; rounds = 1; shows = refl; run = Rounds.settled (sheet.proper_left p proper); tells = inl (proper, refl) },
    ))

-- five lines at most that are damaged in any way, five characters at most in each other, and all of them 0 to 63: reading answers 0, the sheet, and 2
-- rounds, or 1 where nothing was damaged
pub damaged_read : (p d bad old : List ℕ) → Proper p → length d ≡ characters → Characters d → length bad ≤ 5
    → ((i : ℕ) → i < 63 → OneOf i bad ⊎ (distance (line_of i d) (line_of i p) ≤ 5)) → length old ≡ characters
    → (numbers x : List ℕ) → ReadsSheet d old numbers x
    → (((d ≡ p) × (numbers ≡ 0 ∷ 1 ∷ [])) ⊎ ((d ≡ p → ⊥) × (numbers ≡ 0 ∷ 2 ∷ []))) × (x ≡ p)
damaged_read p d bad old proper long low five others room numbers x reads = (⊎_elim (λ e. inl (e.0, shown e.1)) (λ e. inr (e.0, shown e.1)) restored.0, restored.1)
  where
    r : Run d numbers x
    r = not_refused d old long room low numbers x reads

    restored : (((d ≡ p) × (r.rounds ≡ 1)) ⊎ ((d ≡ p → ⊥) × (r.rounds ≡ 2))) × (x ≡ p)
    restored = sheet.rounds_restore p d bad proper long five others r.rounds x r.run

    answer : Answer (told x) r.answer → r.answer ≡ 0
    answer (inl a) = a.1
    answer (inr a) = absurd (a.0 (subst Proper (sym restored.1) proper))

    shown : {n : ℕ} → r.rounds ≡ n → numbers ≡ 0 ∷ n ∷ []
    shown e = r.shows ∙ ap₂ (λ (p q : ℕ). p ∷ q ∷ []) (answer r.tells) e
