-- Runs of steps, and what a register holds of the characters that it has taken.
use Rattle.std.specs.Prelude.{◌≡◌, List, [], ◌∷◌, ℕ, length}
use Rattle.encoder.specs.declared.Register.{Register}
use Rattle.encoder.specs.Division.{remainder}
use Rattle.encoder.specs.Promises.{Steps}

-- steps through these characters, from one register to another, each with whatever numbers and register the promise of a step allows
pub data Through : Register → List ℕ → Register → Type 0 where
  none : {r : Register} → Through r [] r
  more : {r q s : Register} {c : ℕ} {cs : List ℕ} (numbers : List ℕ) → Steps r c numbers q → Through q cs s → Through r (c ∷ cs) s

-- the register holds the remainder of x^11 times these characters' polynomial, and their count
pub record HoldsAfter (r : Register) (cs : List ℕ) : Type 0 where
  pub held_is : r.held ≡ remainder cs
  pub count_is : r.count ≡ length cs
