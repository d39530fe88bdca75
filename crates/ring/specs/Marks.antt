-- What the tables of the marks hold: their power sums at all starts of a direction, a bit of each start to a word, and at each start, packed.
use Rattle.std.specs.Prelude.{◌≡◌, List, ℕ, ◌+◌, ◌<◌, get_or}
use Rattle.regular.specs.Pivots.{element_in}
use Rattle.code.specs.Word.{power_sum}
use Rattle.sums.specs.Held.{eleven}
use Rattle.ring.specs.Inside.{marks_at, MarkSums}

-- words 6 k to 6 k + 5 hold sum k of the marks at the 63 starts from the first on
pub record MarksIn (first : ℕ) (words : List ℕ) : Type 0 where
  pub at : (l k : ℕ) → l < 63 → k < 11 → element_in words k l ≡ power_sum (58 + k) (marks_at (first + l))

-- the power sums of the marks at a start, and that they are so at all starts
abbrev pub marks_of : List (ℕ × ℕ) → ℕ → List ℕ
marks_of m k = eleven (record { first = (get_or m k (0, 0)).0; last = (get_or m k (0, 0)).1 })

pub record MarksAtAll (m : List (ℕ × ℕ)) : Type 0 where
  pub at : (k : ℕ) → k < 126 → MarkSums k (marks_of m k)
