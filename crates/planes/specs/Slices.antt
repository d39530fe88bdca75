-- Elements at 64 places, a word for each of their six bits, and what the functions on them promise at each place.
use Rattle.std.specs.Prelude.{◌≡◌, ℕ, ◌+◌, ◌*◌, ◌/◌, ◌%◌, ◌^◌, ◌<◌}
use Rattle.field.specs.Field.{sum, times_x, product, α, power}
use Rattle.planes.specs.declared.Planes.{Planes}

-- bit l of a word
abbrev pub bit_at : ℕ → ℕ → ℕ
bit_at w l = w / 2 ^ l % 2

-- the number of six bits, the lowest first
abbrev pub of_bits : ℕ → ℕ → ℕ → ℕ → ℕ → ℕ → ℕ
of_bits a b c d e f = ((((f * 2 + e) * 2 + d) * 2 + c) * 2 + b) * 2 + a

-- the element at l
unfoldable pub element_at : Planes → ℕ → ℕ
element_at v l = of_bits (bit_at v.b0 l) (bit_at v.b1 l) (bit_at v.b2 l) (bit_at v.b3 l) (bit_at v.b4 l) (bit_at v.b5 l)

pub record BitSpread (c r : ℕ) : Type 0 where
  pub bit : (l : ℕ) → l < 63 → bit_at r l ≡ c % 2

pub record Everywhere (c : ℕ) (r : Planes) : Type 0 where
  pub at : (l : ℕ) → l < 63 → element_at r l ≡ c % 64

pub record Doubled (v r : Planes) : Type 0 where
  pub at : (l : ℕ) → element_at r l ≡ times_x (element_at v l)

pub record Added (s v r : Planes) : Type 0 where
  pub at : (l : ℕ) → element_at r l ≡ sum (element_at s l) (element_at v l)

-- v where k has a 1, and 0 where it has a 0
pub record OnlyAt (k : ℕ) (v r : Planes) : Type 0 where
  pub at : (l : ℕ) → element_at r l ≡ bit_at k l * element_at v l

pub record NextBit (s v : Planes) (k : ℕ) (r : Planes) : Type 0 where
  pub at : (l : ℕ) → element_at r l ≡ sum (times_x (element_at s l)) (bit_at k l * element_at v l)

pub record Multiplied (v w r : Planes) : Type 0 where
  pub at : (l : ℕ) → element_at r l ≡ product (element_at v l) (element_at w l)

pub record PlaceMultiplied (v r : Planes) : Type 0 where
  pub at : (l : ℕ) → l < 63 → element_at r l ≡ product (element_at v l) (power α l)

pub record ZerosOf (v : Planes) (r : ℕ) : Type 0 where
  pub below : r < 2 ^ 63
  pub zero : (l : ℕ) → l < 63 → bit_at r l ≡ 1 → element_at v l ≡ 0
  pub other : (l : ℕ) → l < 63 → bit_at r l ≡ 0 → element_at v l ≡ 0 → ⊥
