-- What every public call promises: its tests in the paper's order, each with its refusal, and what a success gives.
use Rattle.std.specs.Prelude.{◌≡◌, Bool, true, false, ◌⊎◌, List, [], ◌∷◌, ℕ, zero, suc, replicate, Result, MatchResult}
use Rattle.refusal.specs.declared.Refusal.{Refusal}
use Rattle.refusal.specs.Number.{number_of}

infix 1 ◌else◌
-- what has to hold, and the refusal where it does not
pub record Test : Type 1 where
  pub holds : Type 0
  pub refusal : Refusal

abbrev pub ◌else◌ : Type 0 → Refusal → Test
p else r = record { holds = p; refusal = r }

-- the answer is the number of the first test that fails, and 0 where none does
abbrev pub Answer : List Test → ℕ → Type 0
Answer [] n = n ≡ 0
Answer (t ∷ ts) n = (t.holds × Answer ts n) ⊎ ((t.holds → ⊥) × (n ≡ number_of t.refusal))

-- what a call leaves: on success what is stated of its other fields and its output; on a refusal k zeros, and the output as it was
abbrev pub Leaves : {O : Type 0} → (List ℕ → O → Type 0) → ℕ → O → ℕ → List ℕ → O → Type 0
Leaves Stated k old zero fields new = Stated fields new
Leaves Stated k old (suc n) fields new = (fields ≡ replicate k 0) × (new ≡ old)

-- the promise of a call: of its numbers (the answer, then the other k fields) and of its output
abbrev pub Promise : {O : Type 0} → List Test → (List ℕ → O → Type 0) → ℕ → O → List ℕ → O → Type 0
Promise ts Stated k old [] new = ⊥
Promise ts Stated k old (n ∷ fields) new = Answer ts n × Leaves Stated k old n fields new

-- the promise of a call that has no output
abbrev pub Replies : List Test → (List ℕ → Type 0) → ℕ → List ℕ → Type 0
Replies ts Stated k numbers = Promise {O = Unit} ts (λ fields _. Stated fields) k tt numbers tt

-- what a test in the code answers: whether a fact holds
pub record Tells (P : Type 0) (b : Bool) : Type 0 where
  pub holds : b ≡ true → P
  pub fails : b ≡ false → P → ⊥

-- and what one answers that refuses: Ok where the fact holds, and else the refusal
abbrev pub Checks : Test → Result Unit Refusal → Type 0
Checks t r = MatchResult r (λ _. t.holds) (λ e. (t.holds → ⊥) × (e ≡ t.refusal))
