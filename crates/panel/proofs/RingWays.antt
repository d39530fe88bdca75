-- The ways out of a panel from a ring.
use mathlib.Core.Path.{◌≡◌, refl}
use mathlib.Core.List.{List, [], ◌∷◌}
use Prim.Native.Nat.{ℕ, zero, suc, ◌<◌, ◌≤◌}
use native.Mathlib.Decide.{dec_lt}
use native.Mathlib.Omega.{arith}
use lib.ListN.{length, get_or, take, length-take, get_or-eq_default}
use lib.Seq.{get_or-take}
use Rattle.refusal.specs.declared.Refusal.{Refusal}
use Rattle.refusal.specs.declared.Refusal.TheVariants.{Template, UnknownKind}
use Rattle.refusal.specs.Number.{number_of}
use Rattle.refusal.specs.Promise.{◌else◌, Answer, Leaves}
use Rattle.refusal.proofs.Laws.{passed}
use Rattle.refusal.proofs.Ladder.{FailsAt, answer_at, ◌then◌, refuses, refuses_too}
use Rattle.refusal.proofs.Answers.{first_tests, later_tests, met_first, without_met, refused_first, Alike, same_test, both_hold, alike_answer}
use Rattle.code.specs.Word.{Characters, Line, text}
use Rattle.code.proofs.Lines.{line_long, line_characters}
use Rattle.ring.specs.declared.RingReading.{RingReading}
use Rattle.ring.specs.Promises.{reading_numbers, line_read, reading_tests, ReadsRing}
use Rattle.ring.proofs.Theorems.{one_read_at}
use Rattle.std.specs.Prelude.{Ok, Err}
use Rattle.panel.specs.Promises.{panel_numbers, text_tests, Plain, NoTemplate, Shows, Panels, LineOf, TextHas, ring_tests, ShowsRing, PanelsRing}

-- ---- the text of a line

module _ (l : List ℕ) (line : Line l) where
  pub text_long : length (text l) ≡ 50
  text_long = let long : length l ≡ 63 = line_long l line in omega (arith, length-take 50 l)

  pub text_characters : Characters (text l)
  text_characters a = go (dec_lt a 50)
    where
      go : Dec (a < 50) → get_or (text l) a 0 < 64
      go (yes h) = rw (get_or-take 50 l a 0 h) (line_characters l line a)
      go (no h) = let e : get_or (text l) a 0 ≡ 0 = get_or-eq_default (text l) 0 (omega (arith, text_long)) in omega arith

-- ---- the line of a ring

-- there is one
pub one_line_of : (ring : List ℕ) (t : ℕ) (l m : List ℕ) → length ring ≡ 63 → t ≤ 5 → LineOf ring t l → LineOf ring t m → l ≡ m
one_line_of ring t l m long small (f, p) (g, q) = (one_read_at ring t long small f g l m p q).1

-- a line that reading gives is one
pub read_line_there : (ring : List ℕ) (t : ℕ) (held l : List ℕ) (s n d f g : ℕ) → ReadsRing ring t held (reading_numbers (line_read s n d f g)) l → LineOf ring t l
unfolding ReadsRing
read_line_there ring t held l s n d f g reads = (s ∷ n ∷ d ∷ f ∷ g ∷ [], reads.1)

-- ---- where the ring is read: what is done with the text of its line is done with the ring

module _ (ring : List ℕ) (t : ℕ) (old l : List ℕ) (long : length ring ≡ 63) (wide : 294 ≤ length old) (range : Characters ring) (small : t ≤ 5) (of : LineOf ring t l) where
  -- there is one such line
  pub text_has : (P : List ℕ → Type 0) → TextHas ring t P → P (text l)
  text_has P (m, q, holds) = rw (one_line_of ring t l m long small of q) holds

  of-text : (P : List ℕ → Type 0) (r : Refusal) → Alike (P (text l) else r) (TextHas ring t P else r)
  of-text P r = record { over = λ h. (l, of, h); back = text_has P; refusal = refl }

  answers : (n : ℕ) → Answer (text_tests (text l) (length old)) n → Answer (ring_tests ring t (length old)) n
  answers n a =
      let line : Line l = of.1.within.line in
      let only = of.1.only in
      met_first 6 (ring_tests ring t (length old)) n (long then wide then range then small then (_, only, omega arith) then (_, only, omega arith) then tt)
      (alike_answer (later_tests 3 (text_tests (text l) (length old))) (later_tests 6 (ring_tests ring t (length old))) n
      (of-text NoTemplate Template, (of-text Plain UnknownKind, tt))
      (without_met 3 (text_tests (text l) (length old)) n (text_long l line then wide then text_characters l line then tt) a))

  leaves : (n : ℕ) (fields new : List ℕ) → Leaves (Shows (text l) old) 1 old n fields new → Leaves (ShowsRing ring t old) 1 old n fields new
  leaves zero fields new s = (l, of, s)
  leaves (suc n) fields new s = s

  pub as_text : (numbers new : List ℕ) → Panels (text l) old numbers new → PanelsRing ring t old numbers new
  unfolding Panels PanelsRing
  as_text [] new p = absurd p
  as_text (n ∷ fields) new p = (answers n p.0, leaves n fields new p.1)

-- ---- where it is not: the refusals of reading a ring are this call's

passes_on : (ring : List ℕ) (t room : ℕ) (r : Refusal) → 294 ≤ room → Answer (reading_tests ring t 63) (number_of r) → Answer (ring_tests ring t room) (number_of r)
passes_on ring t room r wide a =
    refused_first 6 (ring_tests ring t room) r
    (alike_answer (reading_tests ring t 63) (first_tests 6 (ring_tests ring t room)) (number_of r)
    (same_test, (both_hold refl wide, (same_test, (same_test, (same_test, (same_test, tt)))))) a)

module _ (ring : List ℕ) (t : ℕ) (old : List ℕ) where
  pub ring_refused : (n : ℕ) → FailsAt n (ring_tests ring t (length old)) → PanelsRing ring t old (answer_at n (ring_tests ring t (length old)) ∷ 0 ∷ []) old
  unfolding PanelsRing
  ring_refused = refuses (ShowsRing ring t old) 1 old (ring_tests ring t (length old))

  module _ (wide : 294 ≤ length old) (held line : List ℕ) (sized : length held ≡ 63) where
    pub reading_refused : (r : Refusal) → ReadsRing ring t held (reading_numbers (Err r)) line → PanelsRing ring t old (panel_numbers (Err r)) old
    unfolding ReadsRing PanelsRing
    reading_refused r p = refuses_too (ShowsRing ring t old) 1 old (ring_tests ring t (length old)) r (passes_on ring t (length old) r wide (rw sized at p.0))

    -- and from one that is a line its text goes on
    pub ring_put : (r : RingReading) → ReadsRing ring t held (reading_numbers (Ok r)) line
        → (numbers new : List ℕ) → Panels (take 50 line) old numbers new → PanelsRing ring t old numbers new
    unfolding ReadsRing
    ring_put r read =
        let q = passed (reading_tests ring t (length held)) 0 read.0 refl in
        as_text ring t old line q.0 wide q.1.1.0 q.1.1.1.0 (read_line_there ring t held line r.start r.number r.distance r.first r.last read)
