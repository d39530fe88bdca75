-- How clear a scan is, in 02's words and order: the cells on either side of a threshold with their counts n, sums s and sums of squares q (1 dark, 2 bright);
-- the ratio, both means, and the answer.
use Rattle.std.specs.Prelude.{Bool, true, false, cond, List, ℕ, zero, suc, ◌+◌, ◌-◌, ◌*◌, length, get_or, ltb, eqb, pos, Float, Result, Ok, Err}
use Rattle.clarity.specs.declared.Clarity.{Clarity}
use Rattle.clarity.specs.declared.Clarity.TheVariants.{Ratio, NoSpread}
use Rattle.std.specs.Float.{binary64}
use Rattle.std.specs.Float.Ieee.{div, of_int}
use Rattle.refusal.specs.declared.Refusal.{Refusal}
use Rattle.refusal.specs.declared.Refusal.TheVariants.{InputLength, OneSided}
use Rattle.clarity.specs.declared.Means.{Means}
use Rattle.clarity.specs.declared.Scan.{Scan}

-- the cells of a line: six for each of 63 characters
abbrev pub cell_count : ℕ
cell_count = 378

-- ---- the two sides of a threshold

abbrev pub dark_side : Bool
dark_side = false

abbrev pub bright_side : Bool
bright_side = true

-- 1 for a cell that is on the side, and 0 for one that is on the other: a cell below the threshold is dark, and any other is bright
abbrev pub side_of : Bool → Bool → ℕ
side_of false below = cond below 1 0
side_of true below = cond below 0 1

unfoldable pub on_side : Bool → ℕ → ℕ → ℕ
on_side side t c = side_of side (ltb c t)

-- f 0 + f 1 + .. + f (n - 1)
unfoldable pub sum_to : ℕ → (ℕ → ℕ) → ℕ
sum_to zero f = 0
sum_to (suc n) f = sum_to n f + f n

-- n, how many cells are on a side; s, their sum; and q, the sum of their squares
unfoldable pub count : Bool → ℕ → List ℕ → ℕ
count side t cells = sum_to (length cells) (λ a. on_side side t (get_or cells a 0))

unfoldable pub sum : Bool → ℕ → List ℕ → ℕ
sum side t cells = sum_to (length cells) (λ a. on_side side t (get_or cells a 0) * get_or cells a 0)

unfoldable pub squares : Bool → ℕ → List ℕ → ℕ
squares side t cells = sum_to (length cells) (λ a. on_side side t (get_or cells a 0) * (get_or cells a 0 * get_or cells a 0))

-- ---- the ratio. That neither subtraction is cut off at 0 is `Theorems.never-cut`

abbrev pub numerator : ℕ → ℕ → ℕ → ℕ → ℕ
numerator n1 s1 n2 s2 = (s2 * n1 - s1 * n2) * (s2 * n1 - s1 * n2)

abbrev pub denominator : ℕ → ℕ → ℕ → ℕ → ℕ → ℕ → ℕ
denominator n1 s1 q1 n2 s2 q2 = n2 * n2 * (n1 * q1 - s1 * s1) + n1 * n1 * (n2 * q2 - s2 * s2)

-- both as doubles, and one division. That it is the exact quotient, rounded once, is `Theorems.rounded-once`
abbrev pub quotient : ℕ → ℕ → Float
quotient n d = div binary64 (of_int binary64 (pos n)) (of_int binary64 (pos d))

-- the ratio, or none, for no spread, where the denominator is 0
unfoldable pub clarity_of : ℕ → ℕ → ℕ → ℕ → ℕ → ℕ → Clarity
clarity_of n1 s1 q1 n2 s2 q2 =
    cond (eqb (denominator n1 s1 q1 n2 s2 q2) 0) NoSpread (Ratio (quotient (numerator n1 s1 n2 s2) (denominator n1 s1 q1 n2 s2 q2)))

-- ---- of a scan

unfoldable pub clarity_in : ℕ → List ℕ → Clarity
clarity_in t cells =
    clarity_of (count dark_side t cells) (sum dark_side t cells) (squares dark_side t cells)
    (count bright_side t cells) (sum bright_side t cells) (squares bright_side t cells)

-- both means, s / n
unfoldable pub means_in : ℕ → List ℕ → Means
means_in t cells =
    record {
      dark = quotient (sum dark_side t cells) (count dark_side t cells);
      bright = quotient (sum bright_side t cells) (count bright_side t cells);
    }

-- both together
abbrev pub scan_in : ℕ → List ℕ → Scan
scan_in t cells = record { means = means_in t cells; clarity = clarity_in t cells }

-- the answer: 1 for another length, 20 where no cell is dark or none is bright, and else the means with the ratio or no spread
unfoldable pub answer_of : ℕ → List ℕ → Result Scan Refusal
answer_of t cells =
    cond (eqb (length cells) cell_count)
    (cond (eqb (count dark_side t cells) 0) (Err OneSided)
    (cond (eqb (count bright_side t cells) 0) (Err OneSided) (Ok (scan_in t cells))))
    (Err InputLength)
