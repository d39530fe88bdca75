-- What a writer leaves in a lent buffer: as much of its text as fits, from a given place on.
use Rattle.std.specs.Prelude.{◌≡◌, List, ◌++◌, ℕ, ◌+◌, ◌-◌, length, take, drop}

-- as much of a text as a buffer has room for from a place on
abbrev pub fitting : List ℕ → ℕ → List ℕ → List ℕ
fitting buffer at text = take (length buffer - at) text

-- the buffer holds what fits of the text from at on, up to next, and is else as it was
pub record Puts (old new : List ℕ) (at next : ℕ) (text : List ℕ) : Type 0 where
  pub place : next ≡ at + length (fitting old at text)
  pub long : length new ≡ length old
  pub up_to : take next new ≡ take at old ++ fitting old at text
  pub after : drop next new ≡ drop next old
