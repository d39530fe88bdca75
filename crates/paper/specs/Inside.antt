-- What the steps of the paper's way promise each other: the sums, the two systems, the corrected word, and an attempt at n errors.
use Rattle.std.specs.Prelude.{◌≡◌, Option, Some, None, List, [], ℕ, ◌+◌, ◌-◌, ◌<◌, ◌≤◌, length, get_or, drop}
use Rattle.numbers.specs.Total.{total}
use Rattle.field.specs.Field.{sum, product, α, power}
use Rattle.polynomial.specs.Sums.{Fresh}
use Rattle.code.specs.Word.{Characters, power_sum, marks, Line, distance}

-- eleven sums of what w and any line differ by, S_-5 first: a line has the sums of the marks
pub record ErrorsHave (w s : List ℕ) : Type 0 where
  pub sum_at : (k : ℕ) → k < 11 → get_or s k 0 ≡ sum (power_sum (58 + k) w) (power_sum (58 + k) marks)

-- n + 1 sums from number j on
pub record SumRow (s : List ℕ) (j n : ℕ) (row : List ℕ) : Type 0 where
  pub entry : (k : ℕ) → k ≤ n → get_or row k 0 ≡ get_or s (j + k) 0

-- row i is the sums from S_(1 - n + i) to S_(1 + i)
pub record SumRows (s : List ℕ) (n : ℕ) (m : List (List ℕ)) : Type 0 where
  pub row : (i : ℕ) → i < n → SumRow s (6 - n + i) n (get_or m i [])

-- the powers i of the last n of five places, and a sum after them
pub record PowerRow (xs : List ℕ) (s n i : ℕ) (row : List ℕ) : Type 0 where
  pub entry : (k : ℕ) → k < n → get_or row k 0 ≡ power (get_or xs (5 - n + k) 0) i
  pub last : get_or row n 0 ≡ s

-- row i has the powers i, and S_i
pub record PowerRows (xs s : List ℕ) (n : ℕ) (m : List (List ℕ)) : Type 0 where
  pub row : (i : ℕ) → i < n → PowerRow xs (get_or s (5 + i) 0) n i (get_or m i [])

-- w with n values vs added at the places xs, the last n of five
pub record Corrects (w xs vs : List ℕ) (n : ℕ) (r : List ℕ) : Type 0 where
  pub long : length r ≡ 63
  pub characters : Characters r
  pub near : distance w r ≤ n
  pub sums : (j : ℕ) → power_sum j r ≡ sum (power_sum j w) (total n (λ k. product (get_or vs k 0) (power (get_or xs (5 - n + k) 0) j)))
  pub beside : (a : ℕ) → a < 63 → Fresh (power α (62 - a)) (drop (5 - n) xs) → get_or r a 0 ≡ get_or w a 0

-- what is found is a line within n
pub record Attempted (w : List ℕ) (n : ℕ) (l : List ℕ) : Type 0 where
  pub line : Line l
  pub near : distance w l ≤ n

-- no line differs in exactly n characters
pub record NoneApart (w : List ℕ) (n : ℕ) : Type 0 where
  pub none : (l : List ℕ) → Line l → distance w l ≡ n → ⊥

-- a line that differs in exactly n characters is found
abbrev pub Attempts : List ℕ → ℕ → Option (List ℕ) → Type 0
Attempts w n (Some l) = Attempted w n l
Attempts w n None = NoneApart w n
