-- What reading a spool promises: each line's answer and each 63 bytes of output are what reading that line by itself gives.
use Rattle.std.specs.Prelude.{◌≡◌, List, [], ◌∷◌, ℕ, ◌/◌, ◌%◌, ◌<◌, ◌≤◌, length, get_or, replicate, None, Result, Ok, Err}
use Rattle.numbers.specs.Parts.{part}
use Rattle.refusal.specs.declared.Refusal.{Refusal}
use Rattle.refusal.specs.declared.Refusal.TheVariants.{InputLength, OutputLength}
use Rattle.refusal.specs.Number.{number_of}
use Rattle.refusal.specs.Promise.{Test, ◌else◌, Promise}
use Rattle.line.specs.declared.PlainReading.{PlainReading}
use Rattle.line.specs.Promises.{plain_numbers, Reads}

-- the number of the call's answer
abbrev pub spool_numbers : Result (List PlainReading) Refusal → List ℕ
spool_numbers (Ok p) = 0 ∷ []
spool_numbers (Err r) = number_of r ∷ []

-- a place that holds only zeros, and 255 of them
abbrev pub no_place : PlainReading
no_place = record { answer = 0; distance = 0; number = 0; first = 0; last = 0 }

abbrev pub no_places : List PlainReading
no_places = replicate 255 no_place

-- the places of an answer: in a refusal they tell nothing
abbrev pub places_of : Result (List PlainReading) Refusal → List PlainReading
places_of (Ok p) = p
places_of (Err r) = no_places

-- what a call leaves: the places and the output
pub record Left : Type 0 where
  pub places : List PlainReading
  pub output : List ℕ

abbrev pub left_of : List PlainReading → List ℕ → Left
left_of p o = record { places = p; output = o }

-- place i
abbrev pub place : ℕ → Left → PlainReading
place i left = get_or left.places i no_place

-- each of n lines is read by itself, with radius t and no wanted number, and the places past the last line hold only zeros
pub record Each (lines : List ℕ) (t : ℕ) (old : List ℕ) (n : ℕ) (left : Left) : Type 0 where
  pub many : length left.places ≡ 255
  pub long : length left.output ≡ length old
  pub reads : (i : ℕ) → i < n → Reads (part 63 i lines) t None (part 63 i old) (plain_numbers (place i left)) (part 63 i left.output)
  pub past : (i : ℕ) → n ≤ i → place i left ≡ no_place

-- whole lines, at most 255
pub record Whole (n : ℕ) : Type 0 where
  pub lines : n % 63 ≡ 0
  pub few : n ≤ 16065

-- how many they are
abbrev pub line_count : List ℕ → ℕ
line_count lines = length lines / 63

abbrev pub spool_tests : ℕ → ℕ → List Test
spool_tests n room =
    (Whole n else InputLength)
    ∷ (room ≡ n else OutputLength)
    ∷ []

-- the call has no other field than its answer; each line is read
abbrev pub SpooledAs : List ℕ → ℕ → List ℕ → List ℕ → Left → Type 0
SpooledAs lines t old fields left = (fields ≡ []) × Each lines t old (line_count lines) left

unfoldable pub Spools : List ℕ → ℕ → List ℕ → List ℕ → Left → Type 0
Spools lines t old numbers left =
    Promise (spool_tests (length lines) (length old)) (SpooledAs lines t old) 0 (left_of no_places old) numbers left
