-- What listing and reading a ring promise: the numbers of each answer, the tests in the paper's order, and what a success gives.
use Rattle.std.specs.Prelude.{◌≡◌, List, [], ◌∷◌, ◌++◌, ℕ, ◌≤◌, length, drop, Result, Ok, Err}
use Rattle.refusal.specs.declared.Refusal.{Refusal}
use Rattle.refusal.specs.declared.Refusal.TheVariants.{InputLength, OutputLength, ValueOver, RadiusOver, NoLine, ManyStarts}
use Rattle.refusal.specs.Number.{number_of}
use Rattle.refusal.specs.Promise.{Test, ◌else◌, Promise}
use Rattle.code.specs.Word.{Characters}
use Rattle.line.specs.Promises.{Within, told}
use Rattle.ring.specs.declared.RingReading.{RingReading}
use Rattle.ring.specs.Ring.{placed, ListOf}

-- the numbers of a listing: the answer, and how many starts are listed
abbrev pub listing_numbers : Result ℕ Refusal → List ℕ
listing_numbers (Ok count) = 0 ∷ count ∷ []
listing_numbers (Err r) = number_of r ∷ 0 ∷ []

-- the numbers of a reading: the answer, the start, the line's number, its distance from the word there, and the first and the last changed address
abbrev pub reading_numbers : Result RingReading Refusal → List ℕ
reading_numbers (Ok r) = 0 ∷ r.start ∷ r.number ∷ r.distance ∷ r.first ∷ r.last ∷ []
reading_numbers (Err r) = number_of r ∷ 0 ∷ 0 ∷ 0 ∷ 0 ∷ 0 ∷ []

-- the answer with a reading's five numbers
abbrev pub line_read : ℕ → ℕ → ℕ → ℕ → ℕ → Result RingReading Refusal
line_read start n d first last = Ok (record { start = start; number = n; distance = d; first = first; last = last })

-- listing asks for a ring of 63 characters, an output of 126 bytes and a radius of at most 5
abbrev pub listing_tests : List ℕ → ℕ → ℕ → List Test
listing_tests ring t room =
    (length ring ≡ 63 else InputLength)
    ∷ (room ≡ 126 else OutputLength)
    ∷ (Characters ring else ValueOver)
    ∷ (t ≤ 5 else RadiusOver)
    ∷ []

-- and gives the listed starts: they stand first in the output, the rest of it is as it was, and the field is their count
pub record Lists (ring : List ℕ) (t : ℕ) (old fields new : List ℕ) : Type 0 where
  pub starts : List ℕ
  pub these : ListOf t ring starts
  pub count : fields ≡ length starts ∷ []
  pub output : new ≡ starts ++ drop (length starts) old

unfoldable pub ListsRing : List ℕ → ℕ → List ℕ → List ℕ → List ℕ → Type 0
ListsRing ring t old numbers new = Promise (listing_tests ring t (length old)) (Lists ring t old) 1 old numbers new

-- the list has a length such as P says
abbrev pub ListHas : ℕ → List ℕ → (ℕ → Type 0) → Type 0
ListHas t ring P = (starts : List ℕ) × ListOf t ring starts × P (length starts)

-- reading asks for the same with an output of 63 bytes, and for a list that is not empty and has no two entries
abbrev pub reading_tests : List ℕ → ℕ → ℕ → List Test
reading_tests ring t room =
    (length ring ≡ 63 else InputLength)
    ∷ (room ≡ 63 else OutputLength)
    ∷ (Characters ring else ValueOver)
    ∷ (t ≤ 5 else RadiusOver)
    ∷ (ListHas t ring (λ n. 1 ≤ n) else NoLine)
    ∷ (ListHas t ring (λ n. n ≤ 1) else ManyStarts)
    ∷ []

-- and gives the line at the one start that is listed: the output gets it, and the fields are the start, and what is told of the line
-- that is read from the word there: changed addresses are the line's, not places on the ring
pub record ReadsAt (ring : List ℕ) (t : ℕ) (fields new : List ℕ) : Type 0 where
  pub start : ℕ
  pub only : ListOf t ring (start ∷ [])
  pub within : Within t (placed start ring) new
  pub shows : fields ≡ start ∷ told (placed start ring) new

unfoldable pub ReadsRing : List ℕ → ℕ → List ℕ → List ℕ → List ℕ → Type 0
ReadsRing ring t old numbers new = Promise (reading_tests ring t (length old)) (ReadsAt ring t) 5 old numbers new
