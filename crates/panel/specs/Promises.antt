-- What the two calls promise: the numbers of the answer, the tests in the paper's order, and what a success gives.
use Rattle.std.specs.Prelude.{◌≡◌, List, [], ◌∷◌, ◌++◌, ℕ, ◌≤◌, length, get_or, drop, Result, Ok, Err}
use Rattle.refusal.specs.declared.Refusal.{Refusal}
use Rattle.refusal.specs.declared.Refusal.TheVariants.{InputLength, OutputLength, ValueOver, RadiusOver, NoLine, ManyStarts, Template, UnknownKind}
use Rattle.refusal.specs.Number.{number_of}
use Rattle.refusal.specs.Promise.{Test, ◌else◌, Promise}
use Rattle.code.specs.Word.{Characters, text}
use Rattle.ring.specs.Promises.{ListHas, ReadsAt}
use Rattle.panel.specs.Escaping.{escaped}

-- the numbers of an answer: the answer, and the length written
abbrev pub panel_numbers : Result ℕ Refusal → List ℕ
panel_numbers (Ok length) = 0 ∷ length ∷ []
panel_numbers (Err r) = number_of r ∷ 0 ∷ []

-- the first of a text's characters is its kind: 0 plain, 1 template, others unknown
abbrev pub kind : List ℕ → ℕ
kind v = get_or v 0 0

abbrev pub Plain : List ℕ → Type 0
Plain v = kind v ≡ 0

abbrev pub NoTemplate : List ℕ → Type 0
NoTemplate v = kind v ≡ 1 → ⊥

-- what is shown of a text: the characters after the kind, escaped
abbrev pub shown : List ℕ → List ℕ
shown v = escaped (drop 1 v)

-- a text of 50 characters and an output of at least 294 bytes; the kind is looked at last
abbrev pub text_tests : List ℕ → ℕ → List Test
text_tests v room =
    (length v ≡ 50 else InputLength)
    ∷ (294 ≤ room else OutputLength)
    ∷ (Characters v else ValueOver)
    ∷ (NoTemplate v else Template)
    ∷ (Plain v else UnknownKind)
    ∷ []

-- what is shown stands first in the output, the rest of it is as it was, and the field is the length written
pub record Shows (v old fields new : List ℕ) : Type 0 where
  pub count : fields ≡ length (shown v) ∷ []
  pub output : new ≡ shown v ++ drop (length (shown v)) old

unfoldable pub Panels : List ℕ → List ℕ → List ℕ → List ℕ → Type 0
Panels v old numbers new = Promise (text_tests v (length old)) (Shows v old) 1 old numbers new

-- ---- from a ring

-- l is the line that reading the ring gives
abbrev pub LineOf : List ℕ → ℕ → List ℕ → Type 0
LineOf ring t l = (fields : List ℕ) × ReadsAt ring t fields l

-- the text of that line is such as P says
abbrev pub TextHas : List ℕ → ℕ → (List ℕ → Type 0) → Type 0
TextHas ring t P = (l : List ℕ) × LineOf ring t l × P (text l)

-- the tests of reading a ring, with this call's own output, and then those of the kind
abbrev pub ring_tests : List ℕ → ℕ → ℕ → List Test
ring_tests ring t room =
    (length ring ≡ 63 else InputLength)
    ∷ (294 ≤ room else OutputLength)
    ∷ (Characters ring else ValueOver)
    ∷ (t ≤ 5 else RadiusOver)
    ∷ (ListHas t ring (λ n. 1 ≤ n) else NoLine)
    ∷ (ListHas t ring (λ n. n ≤ 1) else ManyStarts)
    ∷ (TextHas ring t NoTemplate else Template)
    ∷ (TextHas ring t Plain else UnknownKind)
    ∷ []

-- what is shown is the text of the line that was read
abbrev pub ShowsRing : List ℕ → ℕ → List ℕ → List ℕ → List ℕ → Type 0
ShowsRing ring t old fields new = TextHas ring t (λ v. Shows v old fields new)

unfoldable pub PanelsRing : List ℕ → ℕ → List ℕ → List ℕ → List ℕ → Type 0
PanelsRing ring t old numbers new = Promise (ring_tests ring t (length old)) (ShowsRing ring t old) 1 old numbers new
