-- What is proved of a spool, in the request's words: one result; each line as if it were read by itself; what a refused line leaves; zeros; no lines; and what is refused.
use mathlib.Core.Path.{◌≡◌, refl, sym, ap, ap₂, ◌∙◌}
use mathlib.Core.Logic.{⊎_elim}
use mathlib.Core.List.{List, [], ◌∷◌}
use Prim.Native.Nat.{ℕ, zero, suc, ◌*◌, ◌<◌, ◌≤◌}
use native.Mathlib.Nat.{div-add-mod'}
use native.Mathlib.Omega.{arith}
use lib.ListN.{length, get_or}
use lib.Seq.{ext_get_or}
use Rattle.numbers.specs.Parts.{part}
use Rattle.numbers.proofs.Cases.{le_or_lt}
use Rattle.numbers.proofs.Parts.{part_long, same_parts}
use Rattle.refusal.specs.declared.Refusal.{Refusal}
use Rattle.refusal.specs.Promise.{Leaves}
use Rattle.refusal.proofs.Laws.{one_answer, one_refusal, refusal_positive, passed, Passed}
use Rattle.refusal.proofs.Ladder.{met_answer, denied, ◌then◌}
use Rattle.refusal.proofs.Theorems.{one_result}
use Rattle.code.specs.Word.{Characters}
use Rattle.std.specs.Prelude.{None, Result, Ok, Err}
use Rattle.line.specs.declared.PlainReading.{PlainReading}
use Rattle.line.specs.declared.Reading.{Reading}
use Rattle.line.specs.Promises.{reading_numbers, plain_numbers, ReadAs, Reads}
use Rattle.line.proofs.Theorems.{same_result, one_plain_reading}
use Rattle.line.proofs.Ways as line
use Rattle.spool.specs.Promises.{spool_numbers, places_of, no_place, no_places, Left, left_of, place, Each, Whole, line_count, spool_tests, SpooledAs, Spools}
use Rattle.spool.proofs.Loops.{none_at}
use Rattle.spool.proofs.Ways.{refused, read}

-- whole lines are as many times 63 characters as there are lines
lines_long : (lines : List ℕ) → Whole (length lines) → length lines ≡ line_count lines * 63
lines_long lines w = let e = w.lines in let f = div-add-mod' (length lines) 63 in omega arith

-- the number and the places fix the answer of a call
one_spool_answer : (a b : Result (List PlainReading) Refusal) → spool_numbers a ≡ spool_numbers b → places_of a ≡ places_of b → a ≡ b
one_spool_answer (Ok p) (Ok q) e f = ap Ok f
one_spool_answer (Ok p) (Err s) e f = absurd (refusal_positive s (sym (ap (λ (l : List ℕ). get_or l 0 0) e)))
one_spool_answer (Err r) (Ok q) e f = absurd (refusal_positive r (ap (λ (l : List ℕ). get_or l 0 0) e))
one_spool_answer (Err r) (Err s) e f = ap Err (one_refusal r s (ap (λ (l : List ℕ). get_or l 0 0) e))

-- what a line that is refused leaves
refused_left : (w : List ℕ) (t : ℕ) (old : List ℕ) (r : PlainReading) (x : List ℕ) → (r.answer ≡ 0 → ⊥) → Reads w t None old (plain_numbers r) x
    → (r ≡ record { answer = r.answer; distance = 0; number = 0; first = 0; last = 0 }) × (x ≡ old)
unfolding Reads
refused_left w t old r x d p = left r.answer d p.1
  where
    left : (n : ℕ) → (n ≡ 0 → ⊥) → Leaves (ReadAs t w) 4 old n (r.number ∷ r.distance ∷ r.first ∷ r.last ∷ []) x
        → (r ≡ record { answer = r.answer; distance = 0; number = 0; first = 0; last = 0 }) × (x ≡ old)
    left zero d l = absurd (d refl)
    left (suc n) d l =
        (ap (λ (f : List ℕ). record { answer = r.answer; distance = get_or f 1 0; number = get_or f 0 0; first = get_or f 2 0; last = get_or f 3 0 }) l.0, l.1)

-- ---- one result

module _ (lines : List ℕ) (t : ℕ) (old : List ℕ) where
  -- reading each line leaves one thing
  one_each : Whole (length lines) → length old ≡ length lines → (x y : Left) → Each lines t old (line_count lines) x → Each lines t old (line_count lines) y → x ≡ y
  one_each whole room x y p q = ap₂ left_of places output
    where
      n : ℕ
      n = line_count lines

      one : (i : ℕ) → i < n → (place i x ≡ place i y) × (part 63 i x.output ≡ part 63 i y.output)
      one i h = one_plain_reading (part 63 i lines) t None (part 63 i old) (place i x) (place i y) (part 63 i x.output) (part 63 i y.output) (p.reads i h) (q.reads i h)

      at : (i : ℕ) → place i x ≡ place i y
      at i = ⊎_elim (λ (h : n ≤ i). p.past i h ∙ sym (q.past i h)) (λ (h : i < n). (one i h).0) (le_or_lt n i)

      places : x.places ≡ y.places
      places = ext_get_or no_place x.places y.places (p.many ∙ sym q.many) (λ i h. at i)

      output : x.output ≡ y.output
      output =
          same_parts 63 n x.output y.output (p.long ∙ room ∙ lines_long lines whole) (q.long ∙ room ∙ lines_long lines whole) (λ i h. (one i h).1)

  -- any two results that reading a spool allows are equal
  pub same_spool : (m n : List ℕ) (x y : Left) → Spools lines t old m x → Spools lines t old n y → (m ≡ n) × (x ≡ y)
  unfolding Spools
  same_spool =
      one_result (spool_tests (length lines) (length old)) (SpooledAs lines t old) 0
      (λ passed f g x y a b. (a.0 ∙ sym b.0, one_each passed.0 passed.1.0 x y a.1 b.1)) (left_of no_places old)

  -- and so are any two answers of the call, and what lies in their outputs
  pub one_spool : (a b : Result (List PlainReading) Refusal) (x y : List ℕ) → Spools lines t old (spool_numbers a) (left_of (places_of a) x)
      → Spools lines t old (spool_numbers b) (left_of (places_of b) y) → (a ≡ b) × (x ≡ y)
  one_spool a b x y p q =
      let e = same_spool (spool_numbers a) (spool_numbers b) (left_of (places_of a) x) (left_of (places_of b) y) p q in
      (one_spool_answer a b e.0 (ap (λ (l : Left). l.places) e.1), ap (λ (l : Left). l.output) e.1)

  -- ---- where the call is not refused

  module _ (left : Left) (spools : Spools lines t old (0 ∷ []) left) where
    met : Passed (spool_tests (length lines) (length old))
    unfolding Spools
    met = passed (spool_tests (length lines) (length old)) 0 spools.0 refl

    each : Each lines t old (line_count lines) left
    unfolding Spools
    each = spools.1.1

    -- each line's answer, and each 63 bytes of output, equal what reading them one by one gives
    pub one_by_one : (i : ℕ) → i < line_count lines → (r : Result Reading Refusal) (x : List ℕ) → Reads (part 63 i lines) t None (part 63 i old) (reading_numbers r) x
        → (plain_numbers (place i left) ≡ reading_numbers r) × (part 63 i left.output ≡ x)
    one_by_one i h r x reads =
        same_result (part 63 i lines) t None (part 63 i old) (plain_numbers (place i left)) (reading_numbers r) (part 63 i left.output) x (each.reads i h) reads

    -- a refused line leaves its own 63 bytes alone, and its place holds nothing but the refusal; every other line is read all the same, as `one_by_one` says
    pub refused_line : (i : ℕ) → i < line_count lines → ((place i left).answer ≡ 0 → ⊥)
        → (place i left ≡ record { answer = (place i left).answer; distance = 0; number = 0; first = 0; last = 0 }) × (part 63 i left.output ≡ part 63 i old)
    refused_line i h d = refused_left (part 63 i lines) t (part 63 i old) (place i left) (part 63 i left.output) d (each.reads i h)

    -- places past the last line hold only zeros
    pub past_last : (i : ℕ) → line_count lines ≤ i → place i left ≡ no_place
    past_last = each.past

    -- 2 and 3 stay with each line: the call answers 0 with a radius over 5, too, and then each line 2 where it has a character over 63, and else 3
    module _ (i : ℕ) (h : i < line_count lines) where
      line_long : length (part 63 i lines) ≡ 63
      line_long = part_long 63 (line_count lines) i lines h (lines_long lines met.0)

      room_long : length (part 63 i old) ≡ 63
      room_long = part_long 63 (line_count lines) i old h (met.1.0 ∙ lines_long lines met.0)

      refused_as : (n : ℕ) (x : List ℕ) → Reads (part 63 i lines) t None (part 63 i old) (n ∷ 0 ∷ 0 ∷ 0 ∷ 0 ∷ []) x → (place i left).answer ≡ n
      refused_as n x reads =
          ap (λ (l : List ℕ). get_or l 0 0)
          (same_result (part 63 i lines) t None (part 63 i old) (plain_numbers (place i left)) (n ∷ 0 ∷ 0 ∷ 0 ∷ 0 ∷ []) (part 63 i left.output) x (each.reads i h) reads).0

      pub value_stays : (Characters (part 63 i lines) → ⊥) → (place i left).answer ≡ 2
      value_stays d = refused_as 2 (part 63 i old) (line.refused (part 63 i lines) t None (part 63 i old) 2 (line_long then room_long then denied d))

      pub radius_stays : Characters (part 63 i lines) → 5 < t → (place i left).answer ≡ 3
      radius_stays c d = refused_as 3 (part 63 i old) (line.refused (part 63 i lines) t None (part 63 i old) 3 (line_long then room_long then c then denied (λ s. omega arith)))

  -- ---- where it is refused

  -- all places hold only zeros, and the output is as it was
  pub refused_call : (n : ℕ) (left : Left) → (n ≡ 0 → ⊥) → Spools lines t old (n ∷ []) left → left ≡ left_of no_places old
  unfolding Spools
  refused_call zero left d p = absurd (d refl)
  refused_call (suc n) left d p = p.1.1

  -- 1 for a length that is no multiple of 63 or over 16,065, then 5 for an output of another length, and nothing else
  pub length_refused : (Whole (length lines) → ⊥) → (numbers : List ℕ) (left : Left) → Spools lines t old numbers left → numbers ≡ 1 ∷ []
  length_refused d numbers left p = (same_spool numbers (1 ∷ []) left (left_of no_places old) p (refused lines t old 0 (denied d))).0

  pub room_refused : Whole (length lines) → (length old ≡ length lines → ⊥) → (numbers : List ℕ) (left : Left) → Spools lines t old numbers left → numbers ≡ 5 ∷ []
  room_refused w d numbers left p = (same_spool numbers (5 ∷ []) left (left_of no_places old) p (refused lines t old 1 (w then denied d))).0

  pub not_refused : Whole (length lines) → length old ≡ length lines → (numbers : List ℕ) (left : Left) → Spools lines t old numbers left → numbers ≡ 0 ∷ []
  unfolding Spools
  not_refused w r [] left p = absurd p
  not_refused w r (zero ∷ f) left p = ap (λ (l : List ℕ). 0 ∷ l) p.1.0
  not_refused w r (suc n ∷ f) left p =
      absurd (let e : suc n ≡ 0 = one_answer (spool_tests (length lines) (length old)) (suc n) 0 p.0 (met_answer (spool_tests (length lines) (length old)) (w then r then tt)) in omega arith)

-- ---- no lines

-- no lines are no refusal: there is nothing to read, and every place holds only zeros
pub no_lines : (t : ℕ) (numbers : List ℕ) (left : Left) → Spools [] t [] numbers left → (numbers ≡ 0 ∷ []) × (left ≡ left_of no_places [])
no_lines t numbers left p = same_spool [] t [] numbers (0 ∷ []) left (left_of no_places []) p (read [] t [] (left_of no_places []) (whole then refl then tt) each)
  where
    whole : Whole 0
    whole = record { lines = refl; few = omega arith }

    each : Each [] t [] 0 (left_of no_places [])
    each = record { many = refl; long = refl; reads = λ i h. absurd (omega arith); past = λ i h. none_at 255 i }
