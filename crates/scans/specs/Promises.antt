-- What choosing between two scans promises: the numbers of the choice, and, where a scan is handed back, whose bytes they are and where they stand.
use Rattle.std.specs.Prelude.{◌≡◌, List, [], ◌∷◌, ℕ, Result, Ok, Err}
use Rattle.std.specs.Borrow.{Bor}
use Rattle.refusal.specs.declared.Refusal.{Refusal}
use Rattle.refusal.specs.Number.{number_of}
use Rattle.line.specs.declared.Reading.{Reading}
use Rattle.scans.specs.declared.Choice.{Choice}
use Rattle.scans.specs.declared.Choice.TheVariants.{First, Second}
use Rattle.scans.specs.Scans.{Answers, choice_of}

-- the answer of a choice
abbrev pub answer_of : Result Choice Refusal → ℕ
answer_of (Ok c) = 0
answer_of (Err why) = number_of why

-- the scan: 1 for the first, 2 for the second, 0 for neither
abbrev pub scan_of : Result Choice Refusal → ℕ
scan_of (Ok First) = 1
scan_of (Ok Second) = 2
scan_of (Err why) = 0

abbrev pub choice_numbers : Result Choice Refusal → List ℕ
choice_numbers c = answer_of c ∷ scan_of c ∷ []

-- the numbers are those of the choice by what reading answers for the one scan and for the other
pub record Chooses (first second : List ℕ) (t : ℕ) (numbers : List ℕ) : Type 0 where
  pub one : Result Reading Refusal
  pub other : Result Reading Refusal
  pub first_answers : Answers first t one
  pub second_answers : Answers second t other
  pub shows : numbers ≡ choice_numbers (choice_of one other)

-- what is handed back by a choice: the caller's own first scan, the same bytes at the same place, or the second; or an empty part at the start of the first
abbrev pub Hands : Result Choice Refusal → Bor (List ℕ) → Bor (List ℕ) → Bor (List ℕ) → Type 0
Hands (Ok First) first second r = r ≡ first
Hands (Ok Second) first second r = r ≡ second
Hands (Err why) first second r = (r.now ≡ []) × (r.ref_ptr ≡ first.ref_ptr)

-- the promise of handing back the better scan r, with the answer n
pub record Better (first second : Bor (List ℕ)) (t : ℕ) (r : Bor (List ℕ)) (n : ℕ) : Type 0 where
  pub choice : Result Choice Refusal
  pub chooses : Chooses first.now second.now t (choice_numbers choice)
  pub hands : Hands choice first second r
  pub answer : n ≡ answer_of choice
