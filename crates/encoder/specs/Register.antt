-- The recorder's register: empty, one step of the division on what is held, and the checks.
use Rattle.std.specs.Prelude.{List, [], ◌∷◌, ◌++◌, ℕ, ◌+◌, drop, replicate}
use Rattle.code.specs.Word.{added, marks}
use Rattle.encoder.specs.declared.Register.{Register}
use Rattle.encoder.specs.Division.{plus, divide_once}

-- the register that has taken no character
abbrev pub empty : Register
empty = record { held = replicate 11 0; count = 0 }

-- one step of the division on what is held: it is taken times x, the character comes in at x^11, and the highest coefficient times the generator is taken away
unfoldable pub stepped : List ℕ → ℕ → List ℕ
stepped held c = divide_once (plus (held ++ 0 ∷ []) (c ∷ replicate 11 0))

-- the register after one more character
abbrev pub next : Register → ℕ → Register
next r c = record { held = stepped r.held c; count = r.count + 1 }

-- the checks: what is held with the marks of addresses 52 to 62 added
unfoldable pub checks_of : List ℕ → List ℕ
checks_of held = added held (drop 52 marks)
