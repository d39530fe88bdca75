-- What the clarity of a scan promises, and the counts of a spool of scans.
use Rattle.std.specs.Prelude.{◌≡◌, List, [], ◌∷◌, ℕ, ◌-◌, ◌/◌, ◌%◌, ◌<◌, ◌≤◌, length, Float, Result, Ok, Err}
use Rattle.clarity.specs.declared.Clarity.{Clarity}
use Rattle.clarity.specs.declared.Clarity.TheVariants.{Ratio, NoSpread}
use Rattle.std.specs.Float.{binary64}
use Rattle.std.specs.Float.Ieee.{of_bits}
use Rattle.numbers.specs.Parts.{part}
use Rattle.refusal.specs.declared.Refusal.{Refusal}
use Rattle.refusal.specs.declared.Refusal.TheVariants.{InputLength, OneSided}
use Rattle.refusal.specs.Number.{number_of}
use Rattle.refusal.specs.Promise.{Test, ◌else◌, Promise, Replies}
use Rattle.clarity.specs.declared.Means.{Means}
use Rattle.clarity.specs.declared.Scan.{Scan}
use Rattle.clarity.specs.declared.Counts.{Counts}
use Rattle.clarity.specs.Scan.{cell_count, dark_side, bright_side, sum_to, count, scan_in, answer_of}

-- ---- one scan

-- the kind of an answer that is no refusal: 0 for a ratio and 1 for no spread
abbrev pub kind_of : Clarity → ℕ
kind_of (Ratio r) = 0
kind_of NoSpread = 1

-- the numbers of an answer: 0 or the refusal, and the kind
abbrev pub clarity_numbers : Result Scan Refusal → List ℕ
clarity_numbers (Ok s) = 0 ∷ kind_of s.clarity ∷ []
clarity_numbers (Err r) = number_of r ∷ 0 ∷ []

-- 0.0: the double whose 64 bits are 0
abbrev pub none : Float
none = of_bits binary64 0

-- the value of an answer: the ratio, and 0.0 where it carries none
abbrev pub ratio_of : Clarity → Float
ratio_of (Ratio r) = r
ratio_of NoSpread = none

-- what a call gives in doubles: that value, and the scan record
pub record Given : Type 0 where
  pub ratio : Float
  pub means : Means

-- a refusal gives 0.0 three times
abbrev pub no_means : Means
no_means = record { dark = none; bright = none }

abbrev pub nothing : Given
nothing = record { ratio = none; means = no_means }

abbrev pub given_of : Result Scan Refusal → Given
given_of (Ok s) = record { ratio = ratio_of s.clarity; means = s.means }
given_of (Err r) = nothing

-- some cell is dark, and some is bright
pub record BothSides (t : ℕ) (cells : List ℕ) : Type 0 where
  pub some_dark : 0 < count dark_side t cells
  pub some_bright : 0 < count bright_side t cells

abbrev pub scan_tests : List ℕ → ℕ → List Test
scan_tests cells t =
    (length cells ≡ cell_count else InputLength)
    ∷ (BothSides t cells else OneSided)
    ∷ []

-- the kind, the ratio and both means are those of the scan
abbrev pub ClearAs : List ℕ → ℕ → List ℕ → Given → Type 0
ClearAs cells t fields given = (0 ∷ fields ≡ clarity_numbers (Ok (scan_in t cells))) × (given ≡ given_of (Ok (scan_in t cells)))

unfoldable pub Clarifies : List ℕ → ℕ → List ℕ → Given → Type 0
Clarifies cells t numbers given = Promise (scan_tests cells t) (ClearAs cells t) 1 nothing numbers given

-- ---- a spool of scans

-- 1 for an answer that is a ratio, no spread, or a refusal, and 0 for another
abbrev pub is_ratio : Result Scan Refusal → ℕ
is_ratio (Ok s) = 1 - kind_of s.clarity
is_ratio (Err r) = 0

abbrev pub is_no_spread : Result Scan Refusal → ℕ
is_no_spread (Ok s) = kind_of s.clarity
is_no_spread (Err r) = 0

abbrev pub is_refused : Result Scan Refusal → ℕ
is_refused (Ok s) = 0
is_refused (Err r) = 1

-- how many of the first n scans answer so
unfoldable pub many : (Result Scan Refusal → ℕ) → List ℕ → ℕ → ℕ → ℕ
many kind cells t n = sum_to n (λ i. kind (answer_of t (part cell_count i cells)))

-- the numbers of the call's answer
abbrev pub count_numbers : Result Counts Refusal → List ℕ
count_numbers (Ok c) = 0 ∷ c.ratios ∷ c.unspread ∷ c.refusals ∷ []
count_numbers (Err r) = number_of r ∷ 0 ∷ 0 ∷ 0 ∷ []

-- whole scans, at most 255
pub record Whole (n : ℕ) : Type 0 where
  pub scans : n % cell_count ≡ 0
  pub few : n ≤ 96390

-- how many they are
abbrev pub scan_count : List ℕ → ℕ
scan_count cells = length cells / cell_count

abbrev pub spool_tests : List ℕ → List Test
spool_tests cells = (Whole (length cells) else InputLength) ∷ []

-- ratios, no spreads and refusals
abbrev pub CountedAs : List ℕ → ℕ → List ℕ → Type 0
CountedAs cells t fields =
    fields ≡ many is_ratio cells t (scan_count cells) ∷ many is_no_spread cells t (scan_count cells) ∷ many is_refused cells t (scan_count cells) ∷ []

unfoldable pub CountsSpool : List ℕ → ℕ → List ℕ → Type 0
CountsSpool cells t numbers = Replies (spool_tests cells) (CountedAs cells t) 3 numbers
