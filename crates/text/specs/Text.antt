-- Text as ASCII bytes: decimal numbers with no leading zeros, and a line of a word and numbers, with single spaces.
use Rattle.std.specs.Prelude.{cond, List, [], ◌∷◌, ◌++◌, ℕ, zero, suc, ◌+◌, ◌/◌, ◌%◌, ltb}

abbrev pub space : ℕ
space = 32

abbrev pub line_end : ℕ
line_end = 10

-- the byte of a digit, 0 to 9
abbrev pub digit : ℕ → ℕ
digit n = 48 + n

-- a number of at most f decimal digits, the highest first, with no zero in front
unfoldable pub digits_in : ℕ → ℕ → List ℕ
digits_in zero n = []
digits_in (suc f) n = cond (ltb n 10) (digit n ∷ []) (digits_in f (n / 10) ++ (digit (n % 10) ∷ []))

-- a number in decimal: it has at most n + 1 digits
unfoldable pub decimal : ℕ → List ℕ
decimal n = digits_in (suc n) n

-- numbers, each after a space
unfoldable pub fields : List ℕ → List ℕ
fields [] = []
fields (n ∷ ns) = (space ∷ decimal n) ++ fields ns

-- a line: a word, numbers, and the line end
unfoldable pub line : List ℕ → List ℕ → List ℕ
line word ns = word ++ (fields ns ++ (line_end ∷ []))
