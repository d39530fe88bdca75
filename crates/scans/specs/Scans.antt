-- What reading a scan answers, and which of two scans is kept by the two answers.
use Rattle.std.specs.Prelude.{◌≡◌, cond, List, ℕ, ltb, length, None, Result, Ok, Err}
use Rattle.refusal.specs.declared.Refusal.{Refusal}
use Rattle.line.specs.declared.Reading.{Reading}
use Rattle.line.specs.Promises.{reading_numbers, Reads}
use Rattle.scans.specs.declared.Choice.{Choice}
use Rattle.scans.specs.declared.Choice.TheVariants.{First, Second}

-- r is what line reading answers for a scan, with no wanted number and an output of 63 bytes, whatever lay there
pub record Answers (scan : List ℕ) (t : ℕ) (r : Result Reading Refusal) : Type 0 where
  pub old : List ℕ
  pub new : List ℕ
  pub room : length old ≡ 63
  pub reads : Reads scan t None old (reading_numbers r) new

-- the first was read at distance d: the second where it was read at a smaller one, and else the first
abbrev pub beside_of : ℕ → Result Reading Refusal → Result Choice Refusal
beside_of d (Ok r) = Ok (cond (ltb r.distance d) Second First)
beside_of d (Err r) = Ok First

-- the first was refused: the second where it was read, and else neither, for the first's refusal
abbrev pub instead_of : Refusal → Result Reading Refusal → Result Choice Refusal
instead_of r (Ok s) = Ok Second
instead_of r (Err s) = Err r

abbrev pub choice_of : Result Reading Refusal → Result Reading Refusal → Result Choice Refusal
choice_of (Ok r) other = beside_of r.distance other
choice_of (Err r) other = instead_of r other
