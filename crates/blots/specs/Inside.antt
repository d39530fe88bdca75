-- What the inner functions of reading with blots promise each other: errors with given sums, few of them outside the blots, and how a blot's place is cleared.
use Rattle.std.specs.Prelude.{◌≡◌, List, Option, Some, None, ℕ, suc, ◌+◌, ◌-◌, ◌*◌, ◌/◌, ◌%◌, ◌^◌, ◌<◌, ◌≤◌, length, get_or}
use Rattle.field.specs.Field.{sum, product, α, power}
use Rattle.polynomial.specs.Sums.{weight}
use Rattle.code.specs.Word.{Characters, power_sum, added}
use Rattle.mender.specs.Mender.{Fits}
use Rattle.blots.specs.Promises.{seen, BlottedLine, blots}
use Rattle.blots.specs.declared.Errors.{Errors}

-- ---- bytes that are not 0

-- none stands before n
pub record NoneBefore (bs : List ℕ) (n : ℕ) : Type 0 where
  pub zero : (k : ℕ) → k < n → get_or bs k 0 ≡ 0

-- the first of 63 is n
pub record FirstAt (bs : List ℕ) (n : ℕ) : Type 0 where
  pub inside : n < 63
  pub before : (k : ℕ) → k < n → get_or bs k 0 ≡ 0
  pub there : get_or bs n 0 ≡ 0 → ⊥

-- the last is n
pub record LastAt (bs : List ℕ) (n : ℕ) : Type 0 where
  pub inside : n < 63
  pub after : (k : ℕ) → n < k → k < 63 → get_or bs k 0 ≡ 0
  pub there : get_or bs n 0 ≡ 0 → ⊥

-- the first of 63, or there is none
abbrev pub FirstSet : List ℕ → Option ℕ → Type 0
FirstSet bs (Some n) = FirstAt bs n
FirstSet bs None = NoneBefore bs 63

-- and the last
abbrev pub LastSet : List ℕ → Option ℕ → Type 0
LastSet bs (Some n) = LastAt bs n
LastSet bs None = NoneBefore bs 63

-- each of 63 that is not 0 has its bit set
pub record Holds (set : ℕ) (bs : List ℕ) : Type 0 where
  pub clear : (k : ℕ) → k < 63 → set / 2 ^ k % 2 ≡ 0 → get_or bs k 0 ≡ 0

-- ---- errors

-- 63 characters whose first c power sums, from S_-5 on, are s, e of them outside the f blots, with 2 e + f at most c
pub record FitsBlotted (s : List ℕ) (c : ℕ) (m x : List ℕ) : Type 0 where
  pub long : length x ≡ 63
  pub characters : Characters x
  pub few : 2 * weight (seen m x) + blots m ≤ c
  pub sums : (k : ℕ) → k < c → get_or s k 0 ≡ power_sum (58 + k) x

-- those that fit, with a bit set for each that is not 0
pub record Found (s : List ℕ) (c : ℕ) (m : List ℕ) (r : Errors) : Type 0 where
  pub fits : FitsBlotted s c m r.word
  pub holds : Holds r.set r.word

-- none fit
pub record NoneFits (s : List ℕ) (c : ℕ) (m : List ℕ) : Type 0 where
  pub none : (x : List ℕ) → FitsBlotted s c m x → ⊥

-- those that fit, or none do
abbrev pub Finds : List ℕ → ℕ → List ℕ → Option Errors → Type 0
Finds s c m (Some r) = Found s c m r
Finds s c m None = NoneFits s c m

-- the same where there is no blot
pub record FoundWithout (s : List ℕ) (c : ℕ) (r : Errors) : Type 0 where
  pub fits : Fits s c (c / 2) r.word
  pub holds : Holds r.set r.word

pub record NoneWithout (s : List ℕ) (c : ℕ) : Type 0 where
  pub none : (x : List ℕ) → Fits s c (c / 2) x → ⊥

abbrev pub FindsWithout : List ℕ → ℕ → Option Errors → Type 0
FindsWithout s c (Some r) = FoundWithout s c r
FindsWithout s c None = NoneWithout s c

-- errors with which a word of 63 characters is the line
pub record FoundNear (w m : List ℕ) (r : Errors) : Type 0 where
  pub long : length r.word ≡ 63
  pub is : length w ≡ 63 → Characters w → BlottedLine m w (added w r.word)

-- there is no such line
pub record NoneNear (w m : List ℕ) : Type 0 where
  pub none : length w ≡ 63 → Characters w → (l : List ℕ) → BlottedLine m w l → ⊥

abbrev pub FindsNear : List ℕ → List ℕ → Option Errors → Type 0
FindsNear w m (Some r) = FoundNear w m r
FindsNear w m None = NoneNear w m

-- ---- a blot's place

-- the place of an address
unfoldable pub place_of : ℕ → ℕ
place_of a = power α (62 - a)

-- each sum is the next one and y times itself; the last has none after it
pub record Cleared (s : List ℕ) (y : ℕ) (r : List ℕ) : Type 0 where
  pub sum_at : (k : ℕ) → k < 10 → get_or r k 0 ≡ sum (get_or s (suc k) 0) (product (get_or s k 0) y)

-- what a character at an address has of S_-5, as the definition of the power sums says
unfoldable pub share_of : ℕ → ℕ → ℕ
share_of v a = product v (power α (58 * (62 - a) % 63))

-- the character that has so much of it
unfoldable pub value_of : ℕ → ℕ → ℕ
value_of s a = product s (power α (5 * (62 - a) % 63))

-- x times the sum of its place and the blot's is u at each address, and S_-5 of x is given
pub record Restored (u : List ℕ) (blot first : ℕ) (x : List ℕ) : Type 0 where
  pub long : length x ≡ 63
  pub characters : Characters x
  pub times : (a : ℕ) → a < 63 → get_or u a 0 ≡ product (get_or x a 0) (sum (place_of a) (place_of blot))
  pub first_sum : power_sum 58 x ≡ first
