-- Words of 63 characters: power sums, clean words, marks, lines, their text and number, distance, first and last changed address, turning and reversing.
use Rattle.std.specs.Prelude.{◌≡◌, Bool, true, false, cond, List, [], ◌∷◌, ℕ, zero, suc, ◌+◌, ◌-◌, ◌*◌, ◌%◌, ◌<◌, eqb, length, get_or, replicate, set, take}
use Rattle.numbers.specs.Below.{AllBelow}
use Rattle.numbers.specs.Total.{total}
use Rattle.field.specs.Field.{sum, product, α, power}

-- a character is a number from 0 to 63
abbrev pub Characters : List ℕ → Type 0
Characters = AllBelow 64

-- the power sum S_j of 63 characters: the sum over addresses a of c_a · α^(j(62-a)), exponents taken modulo 63
unfoldable pub power_sum : ℕ → List ℕ → ℕ
power_sum j w = total 63 (λ a. product (get_or w a 0) (power α (j * (62 - a) % 63)))

-- 63 characters whose eleven sums S_j are 0, j from -5 to 5: modulo 63 that is j from 58 to 68
pub record Clean (w : List ℕ) : Type 0 where
  pub long : length w ≡ 63
  pub characters : Characters w
  pub sums : (k : ℕ) → k < 11 → power_sum (58 + k) w ≡ 0

-- two words added, character by character
unfoldable pub added : List ℕ → List ℕ → List ℕ
added [] ds = []
added (c ∷ cs) [] = []
added (c ∷ cs) (d ∷ ds) = sum c d ∷ added cs ds

-- the three marks: 32 at address 52, 8 at 55, 1 at 62
unfoldable pub marks : List ℕ
marks = set (set (set (replicate 63 0) 52 32) 55 8) 62 1

-- a line is a clean word with the marks added
pub record Line (l : List ℕ) : Type 0 where
  pub word : List ℕ
  pub clean : Clean word
  pub marked : l ≡ added word marks

-- addresses 0 to 49 hold text
abbrev pub text : List ℕ → List ℕ
text l = take 50 l

-- address 50 holds the high six bits of the line number, 51 the low six
abbrev pub number : List ℕ → ℕ
number l = get_or l 50 0 * 64 + get_or l 51 0

abbrev pub differs : Bool → ℕ
differs true = 0
differs false = 1

-- the count of addresses where two words differ
unfoldable pub distance : List ℕ → List ℕ → ℕ
distance [] ds = 0
distance (c ∷ cs) [] = 0
distance (c ∷ cs) (d ∷ ds) = differs (eqb c d) + distance cs ds

-- what stands for an address where there is none: the one after the last
abbrev pub nowhere : ℕ
nowhere = 63

-- the first address at which two words differ, the addresses counted from a
unfoldable pub first_from : ℕ → List ℕ → List ℕ → ℕ
first_from a [] ds = nowhere
first_from a (c ∷ cs) [] = nowhere
first_from a (c ∷ cs) (d ∷ ds) = cond (eqb c d) (first_from (suc a) cs ds) a

-- and the last, b being the last before a
unfoldable pub last_from : ℕ → ℕ → List ℕ → List ℕ → ℕ
last_from a b [] ds = b
last_from a b (c ∷ cs) [] = b
last_from a b (c ∷ cs) (d ∷ ds) = last_from (suc a) (cond (eqb c d) b a) cs ds

-- the first and the last address at which a word w was changed where l was read for it
abbrev pub first_changed : List ℕ → List ℕ → ℕ
first_changed w l = first_from 0 w l

abbrev pub last_changed : List ℕ → List ℕ → ℕ
last_changed w l = last_from 0 nowhere w l

-- f a, f (a + 1), .., n of them
unfoldable pub listed : (ℕ → ℕ) → ℕ → ℕ → List ℕ
listed f a zero = []
listed f a (suc n) = f a ∷ listed f (suc a) n

-- a word turned by k characters: address a is taken from place (k + a) mod 63
unfoldable pub turned : ℕ → List ℕ → List ℕ
turned k w = listed (λ a. get_or w ((k + a) % 63) 0) 0 63

-- a word read backward from place s, s from 0 to 62: address a is taken from place (s - a) mod 63
unfoldable pub reversed : ℕ → List ℕ → List ℕ
reversed s w = listed (λ a. get_or w ((s + 63 - a) % 63) 0) 0 63
