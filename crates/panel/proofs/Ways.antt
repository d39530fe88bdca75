-- The ways out of reading a text and of writing it, a test at a time, in order.
use mathlib.Core.Path.{◌≡◌, refl, ap, subst}
use mathlib.Core.List.{List, [], ◌∷◌, ◌++◌}
use Prim.Native.Nat.{ℕ, ◌≤◌}
use native.Mathlib.Omega.{arith}
use lib.ListN.{length, get_or, drop, length-drop}
use Rattle.refusal.specs.declared.Refusal.{Refusal}
use Rattle.refusal.specs.declared.Refusal.TheVariants.{Template, UnknownKind}
use Rattle.refusal.specs.Promise.{Test, ◌else◌}
use Rattle.refusal.proofs.Laws.{Passed, passed}
use Rattle.refusal.proofs.Ladder.{Met, FailsAt, answer_at, ◌then◌, met_answer, fails_answer, refuses, refuses_too, succeeds, denied}
use Rattle.refusal.proofs.Answers.{first_tests, met_first}
use Rattle.code.specs.Word.{Characters}
use Rattle.text.specs.Writing.{Puts}
use Rattle.text.proofs.Writing.{puts_whole}
use Rattle.std.specs.Prelude.{Result, Ok, Err}
use Rattle.panel.specs.Promises.{panel_numbers, text_tests, shown, Shows, Panels}
use Rattle.panel.specs.Inside.{reading_number, Tests, OfKind}
use Rattle.panel.proofs.Escaping.{escaped_long}

-- ---- the kind

abbrev kind_tests : ℕ → List Test
kind_tests k = ((k ≡ 1 → ⊥) else Template) ∷ (k ≡ 0 else UnknownKind) ∷ []

pub plain_kind : (k : ℕ) → k ≡ 0 → OfKind k 0
unfolding OfKind
plain_kind k e = met_answer (kind_tests k) ((λ f. omega arith) then e then tt)

pub template_kind : (k : ℕ) → k ≡ 1 → OfKind k 14
unfolding OfKind
template_kind k e = fails_answer (kind_tests k) 0 (denied (λ f. f e))

pub unknown_kind : (k : ℕ) → (k ≡ 0 → ⊥) → (k ≡ 1 → ⊥) → OfKind k 15
unfolding OfKind
unknown_kind k d f = fails_answer (kind_tests k) 1 (f then denied d)

-- ---- the tests

-- what was read of a text that is plain
pub tested : (v : List ℕ) (room : ℕ) (r : Result Unit Refusal) → Tests v room (reading_number r) → (x : Unit) → r ≡ Ok x → Tests v room 0
tested v room r t x e = subst (λ (q : Result Unit Refusal). Tests v room (reading_number q)) e t

module _ (v : List ℕ) (room : ℕ) where
  pub not_read : (n : ℕ) → FailsAt n (text_tests v room) → Tests v room (answer_at n (text_tests v room))
  unfolding Tests
  not_read = fails_answer (text_tests v room)

  -- the first three hold, and the kind answers
  pub by_kind : Met (first_tests 3 (text_tests v room)) → (n : ℕ) → OfKind (get_or v 0 0) n → Tests v room n
  unfolding Tests OfKind
  by_kind m n = met_first 3 (text_tests v room) n m

-- ---- the ways out

module _ (v old : List ℕ) where
  pub text_refused : (n : ℕ) → FailsAt n (text_tests v (length old)) → Panels v old (answer_at n (text_tests v (length old)) ∷ 0 ∷ []) old
  unfolding Panels
  text_refused = refuses (Shows v old) 1 old (text_tests v (length old))

  pub text_shown : (next : ℕ) (new : List ℕ) → Met (text_tests v (length old)) → Shows v old (next ∷ []) new → Panels v old (panel_numbers (Ok next)) new
  unfolding Panels
  text_shown next = succeeds (Shows v old) 1 old (text_tests v (length old)) (next ∷ [])

  -- a reading that is a refusal is passed on
  pub text_left : (r : Refusal) → Tests v (length old) (reading_number (Err r)) → Panels v old (panel_numbers (Err r)) old
  unfolding Tests Panels
  text_left = refuses_too (Shows v old) 1 old (text_tests v (length old))

  -- ---- plain text goes on

  module _ (told : Tests v (length old) 0) where
    all_hold : Passed (text_tests v (length old))
    unfolding Tests
    all_hold = passed (text_tests v (length old)) 0 told refl

    pub a_kind : 1 ≤ length v
    a_kind = let long : length v ≡ 50 = all_hold.0 in omega arith

    pub characters : Characters v
    characters = all_hold.1.1.0

    shown-long : length (shown v) ≤ 294
    shown-long =
        let long : length v ≡ 50 = all_hold.0 in
        omega (arith, escaped_long (drop 1 v), length-drop 1 v)

    module _ (new : List ℕ) (next : ℕ) (puts : Puts old new 0 next (shown v)) where
      whole : (next ≡ length (shown v)) × (new ≡ shown v ++ drop (length (shown v)) old)
      whole =
          let room : 294 ≤ length old = all_hold.1.0 in
          let few = shown-long in
          puts_whole old new next (shown v) (omega arith) puts

      pub next_few : next ≤ 294
      next_few = omega (arith, whole.0, shown-long)

      pub text_put : Panels v old (0 ∷ next ∷ []) new
      unfolding Tests Panels
      text_put = (told, record { count = ap (λ (n : ℕ). n ∷ []) whole.0; output = whole.1 })
