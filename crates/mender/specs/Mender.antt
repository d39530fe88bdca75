-- Mending: the errors that have given power sums, and the nearest word with given sums, or with all of them 0.
use Rattle.std.specs.Prelude.{◌≡◌, Option, Some, None, List, ℕ, min, ◌+◌, ◌/◌, ◌<◌, ◌≤◌, length, get_or, replicate}
use Rattle.polynomial.specs.Sums.{weight}
use Rattle.code.specs.Word.{Characters, power_sum, Clean, distance}
use Rattle.code.specs.Inside.{Ends}
use Rattle.mender.specs.declared.Mended.{Mended}

-- 63 characters, at most e of them not 0, whose first c power sums, from S_-5 on, are s
pub record Fits (s : List ℕ) (c e : ℕ) (w : List ℕ) : Type 0 where
  pub long : length w ≡ 63
  pub characters : Characters w
  pub light : weight w ≤ e
  pub sums : (k : ℕ) → k < c → get_or s k 0 ≡ power_sum (58 + k) w

-- there are eleven sums at most
abbrev pub sums_of : ℕ → ℕ
sums_of c = min c 11

-- and they tell at most half as many errors
abbrev pub errors_of : ℕ → ℕ → ℕ
errors_of c e = min e (sums_of c / 2)

-- the word that fits, with its weight and its first and last character that is not 0
pub record Fitting (s : List ℕ) (c e : ℕ) (m : Mended) : Type 0 where
  pub fits : Fits s c e m.word
  pub weighs : m.weight ≡ weight m.word
  pub ends : Ends (replicate 63 0) m.word m.first m.last

-- no word fits
pub record NoneFits (s : List ℕ) (c e : ℕ) : Type 0 where
  pub none : (w : List ℕ) → Fits s c e w → ⊥

-- the word that fits, or none does
abbrev pub MendsTo : List ℕ → ℕ → ℕ → Option Mended → Type 0
MendsTo s c e (Some m) = Fitting s c e m
MendsTo s c e None = NoneFits s c e

-- the promise of mending, from the first c of eleven sums, at most e errors
abbrev pub Mends : List ℕ → ℕ → ℕ → Option Mended → Type 0
Mends s c e m = MendsTo s (sums_of c) (errors_of c e) m

-- 63 characters
pub record Word (w : List ℕ) : Type 0 where
  pub long : length w ≡ 63
  pub characters : Characters w

-- a word with a property within e of w, with its distance and the first and the last address at which it differs
pub record Near (P : List ℕ → Type 0) (w : List ℕ) (e : ℕ) (m : Mended) : Type 0 where
  pub of_word : Word w
  pub is : P m.word
  pub apart : m.weight ≡ distance w m.word
  pub within : m.weight ≤ e
  pub ends : Ends w m.word m.first m.last

-- w is no word, or none with the property lies within e of it
pub record NoneNear (P : List ℕ → Type 0) (w : List ℕ) (e : ℕ) : Type 0 where
  pub none : Word w → (v : List ℕ) → P v → distance w v ≤ e → ⊥

-- the promise of looking for a word with a property within e of w: that word, or there is none
abbrev pub Nearest : (List ℕ → Type 0) → List ℕ → ℕ → Option Mended → Type 0
Nearest P w e (Some m) = Near P w e m
Nearest P w e None = NoneNear P w e

-- a word whose eleven power sums are s
pub record HasSums (s v : List ℕ) : Type 0 where
  pub word : Word v
  pub sums : (k : ℕ) → k < 11 → power_sum (58 + k) v ≡ get_or s k 0

-- the promise of looking for the word with these sums, and of looking for the clean word: within five at most
abbrev pub NearestWith : List ℕ → List ℕ → ℕ → Option Mended → Type 0
NearestWith s w e m = Nearest (HasSums s) w (min e 5) m

abbrev pub NearestClean : List ℕ → ℕ → Option Mended → Type 0
NearestClean w e m = Nearest Clean w (min e 5) m
