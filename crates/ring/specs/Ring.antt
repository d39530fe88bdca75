-- A ring: the word at each of its 126 starts, when a start is listed, and the list of the starts.
use Rattle.std.specs.Prelude.{◌≡◌, cond, List, [], ◌∷◌, ℕ, zero, suc, ◌-◌, ◌<◌, ltb, length, get_or}
use Rattle.code.specs.Word.{turned, reversed}
use Rattle.line.specs.Promises.{Readable}

-- the word at a start. Start k from 0 to 62 is forward: address a is taken from ring place (k + a) mod 63.
-- Start 63 + s, with s from 0 to 62, is backward: address a is taken from place (s - a) mod 63
unfoldable pub placed : ℕ → List ℕ → List ℕ
placed k ring = cond (ltb k 63) (turned k ring) (reversed (k - 63) ring)

-- start k is listed for this ring and radius: some line lies within the radius of the word at k
abbrev pub Start : ℕ → List ℕ → ℕ → Type 0
Start t ring k = Readable t (placed k ring)

-- those of the n numbers k, k + 1, .. that have a property, in rising order
pub data Those (P : ℕ → Type 0) : ℕ → ℕ → List ℕ → Type 0 where
  end : {k : ℕ} → Those P zero k []
  included : {n k : ℕ} {ks : List ℕ} → P k → Those P n (suc k) ks → Those P (suc n) k (k ∷ ks)
  excluded : {n k : ℕ} {ks : List ℕ} → (P k → ⊥) → Those P n (suc k) ks → Those P (suc n) k ks

-- the list of a ring: those of the starts 0 to 125 that are listed
abbrev pub ListOf : ℕ → List ℕ → List ℕ → Type 0
ListOf t ring starts = Those (Start t ring) 126 0 starts

-- a number stands somewhere in a list: the theorem that every start is listed says so
pub record At (ks : List ℕ) (j : ℕ) : Type 0 where
  pub place : ℕ
  pub inside : place < length ks
  pub is : get_or ks place 0 ≡ j
