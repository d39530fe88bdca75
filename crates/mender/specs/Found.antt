-- What the mender's functions on packed sums promise: no error and one told from the sums, the repaired word, the sixth window.
use Rattle.std.specs.Prelude.{◌≡◌, Option, Some, None, List, ℕ, min, ◌+◌, ◌<◌, length, get_or, replicate, set}
use Rattle.numbers.specs.Total.{total}
use Rattle.field.specs.Field.{product}
use Rattle.lanes.specs.Lanes.{lane}
use Rattle.polynomial.specs.Sums.{weight}
use Rattle.code.specs.Word.{power_sum, added}
use Rattle.code.specs.Inside.{Ends}
use Rattle.mender.specs.declared.Mended.{Mended}
use Rattle.mender.specs.declared.Single.{Single}
use Rattle.mender.specs.Mender.{Fits, NoneFits}
use Rattle.mender.specs.Inside.{Nothing}

-- 63 zeros with one character set
unfoldable pub lone : ℕ → ℕ → List ℕ
lone a v = set (replicate 63 0) a v

-- one error that has all eleven sums
pub record Lone (s : List ℕ) (o : Single) : Type 0 where
  pub inside : o.address < 63
  pub some : 0 < o.value
  pub fits : Fits s 11 1 (lone o.address o.value)

-- where it is found, one error has all eleven sums; where it is not, nothing is said
abbrev pub OneError : List ℕ → Option Single → Type 0
OneError s (Some o) = Lone s o
OneError s None = Unit {0}

-- the first c of eleven sums are elements
abbrev pub ElementsTo : List ℕ → ℕ → Type 0
ElementsTo s c = (k : ℕ) → k < c → get_or s k 0 < 64

-- they are all 0
abbrev pub ZeroTo : List ℕ → ℕ → Type 0
ZeroTo s c = (k : ℕ) → k < c → get_or s k 0 ≡ 0

-- they are those of w
abbrev pub SumsTo : List ℕ → List ℕ → ℕ → Type 0
SumsTo s w c = (k : ℕ) → k < c → get_or s k 0 ≡ power_sum (58 + k) w

-- eleven sums that are all 0
pub record Clear (s : List ℕ) : Type 0 where
  pub zero : (k : ℕ) → k < 11 → get_or s k 0 ≡ 0

-- the errors x that were taken from w
pub record Repaired (s w : List ℕ) (e : ℕ) (m : Mended) : Type 0 where
  pub errors : List ℕ
  pub fits : Fits s 11 e errors
  pub weighs : m.weight ≡ weight errors
  pub word : m.word ≡ added w errors
  pub ends : Ends w m.word m.first m.last

-- w without the at most e errors that have these eleven sums; or none do
abbrev pub Repairs : List ℕ → List ℕ → ℕ → Option Mended → Type 0
Repairs s w e (Some m) = Repaired s w e m
Repairs s w e None = NoneFits s 11 e

-- the same within five errors at most, of a word of 63 characters; of another nothing is found
pub record Without (s w : List ℕ) (e : ℕ) (m : Option Mended) : Type 0 where
  pub whole : length w ≡ 63 → Repairs s w (min e 5) m
  pub other : (length w ≡ 63 → ⊥) → Nothing m

-- errors added to a word of 63 characters; beside another they stand alone
pub record Corrects (w x r : List ℕ) : Type 0 where
  pub whole : length w ≡ 63 → r ≡ added w x
  pub other : (length w ≡ 63 → ⊥) → r ≡ x

-- the sixth window, combined with the coefficients of a packed row, which stand after five lanes
unfoldable pub sixth : ℕ → List ℕ → ℕ
sixth x s = total 6 (λ k. product (lane x (5 + k)) (get_or s (5 + k) 0))
