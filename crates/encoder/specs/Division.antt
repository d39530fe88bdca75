-- Polynomials over the field, the highest coefficient first: the generator, long division by it, and the remainder of x^11 times a polynomial.
use Rattle.std.specs.Prelude.{◌≡◌, List, [], ◌∷◌, ◌++◌, ℕ, zero, suc, ◌-◌, ◌%◌, length, drop, replicate}
use Rattle.field.specs.Field.{sum, product, α, power}

-- the sum of two polynomials written from the same highest power; where one ends, the other goes on alone
unfoldable pub plus : List ℕ → List ℕ → List ℕ
plus [] qs = qs
plus (p ∷ ps) [] = p ∷ ps
plus (p ∷ ps) (q ∷ qs) = sum p q ∷ plus ps qs

-- a polynomial times c
unfoldable pub scaled : ℕ → List ℕ → List ℕ
scaled c [] = []
scaled c (p ∷ ps) = product c p ∷ scaled c ps

-- a polynomial times x + r: it times x, and it times r, one power lower
unfoldable pub times_root : ℕ → List ℕ → List ℕ
times_root r ps = plus (ps ++ 0 ∷ []) (0 ∷ scaled r ps)

-- the product of (x + α^j) over the n numbers j from i on, exponents taken modulo 63
unfoldable pub rooted : ℕ → ℕ → List ℕ
rooted i zero = 1 ∷ []
rooted i (suc n) = times_root (power α (i % 63)) (rooted (suc i) n)

-- the generator is the product of (x + α^j), j from -5 to 5: modulo 63 that is j from 58 to 68
unfoldable pub generator : List ℕ
generator = rooted 58 11

-- a step of the long division: the highest coefficient times the generator is taken away, and its place, where now 0 stands, is left out
unfoldable pub divide_once : List ℕ → List ℕ
divide_once [] = []
divide_once (p ∷ ps) = drop 1 (plus (p ∷ ps) (scaled p generator))

-- n steps
unfoldable pub divide : ℕ → List ℕ → List ℕ
divide zero ps = ps
divide (suc n) ps = divide n (divide_once ps)

-- the long division of a polynomial: a step for each power from the highest down to x^11 leaves the remainder, eleven coefficients
unfoldable pub left_of : List ℕ → List ℕ
left_of ps = divide (length ps - 11) ps

-- the remainder of x^11 times a polynomial divided by the generator
unfoldable pub remainder : List ℕ → List ℕ
remainder ps = left_of (ps ++ replicate 11 0)

-- a polynomial times the generator: its highest coefficient times the generator, and the rest, one power lower, times the generator
unfoldable pub times_generator : List ℕ → List ℕ
times_generator [] = replicate 11 0
times_generator (q ∷ qs) = plus (scaled q generator) (0 ∷ times_generator qs)

-- the generator divides a polynomial: it is some polynomial times the generator
pub record GeneratorDivides (ps : List ℕ) : Type 0 where
  pub quotient : List ℕ
  pub is : ps ≡ times_generator quotient

-- r is what is left of x^11 times a polynomial when a multiple of the generator is taken away
pub record Remains (ps r : List ℕ) : Type 0 where
  pub quotient : List ℕ
  pub long : length r ≡ 11
  pub is : plus (times_generator quotient) (replicate (length ps) 0 ++ r) ≡ ps ++ replicate 11 0
