-- What the inner functions promise: the number of a text's reading, and the tests that it answers.
use Rattle.std.specs.Prelude.{◌≡◌, List, [], ◌∷◌, ℕ, Result, Ok, Err}
use Rattle.refusal.specs.declared.Refusal.{Refusal}
use Rattle.refusal.specs.declared.Refusal.TheVariants.{Template, UnknownKind}
use Rattle.refusal.specs.Number.{number_of}
use Rattle.refusal.specs.Promise.{◌else◌, Answer}
use Rattle.panel.specs.Promises.{text_tests}

abbrev pub reading_number : Result Unit Refusal → ℕ
reading_number (Ok x) = 0
reading_number (Err r) = number_of r

-- the tests of a text, for an output of a given length, answer n
unfoldable pub Tests : List ℕ → ℕ → ℕ → Type 0
Tests v room n = Answer (text_tests v room) n

-- the last two of them, of a text of kind k, answer n
unfoldable pub OfKind : ℕ → ℕ → Type 0
OfKind k n = Answer (((k ≡ 1 → ⊥) else Template) ∷ (k ≡ 0 else UnknownKind) ∷ []) n
