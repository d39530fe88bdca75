-- A number fixes its refusal, and the tests fix the answer.
use mathlib.Core.Path.{◌≡◌, sym, ◌∙◌, ap}
use mathlib.Core.Bool.{true, false}
use mathlib.Core.Logic.{inl, inr}
use mathlib.Core.List.{List, [], ◌∷◌}
use Prim.Native.Nat.{ℕ}
use native.Mathlib.Omega.{arith}
use Rattle.refusal.specs.declared.Refusal.{Refusal}
use Rattle.refusal.specs.Number.{number_of}
use Rattle.refusal.specs.Promise.{Test, Answer, Tells}
use Rattle.refusal.proofs.Numbered.{refusal_of, numbered}

-- no refusal has the number of a success
pub refusal_positive : (r : Refusal) → number_of r ≡ 0 → ⊥
refusal_positive r e = omega (arith, (numbered r).least)

-- a number fixes its refusal
pub one_refusal : (r s : Refusal) → number_of r ≡ number_of s → r ≡ s
one_refusal r s e = sym (numbered r).named ∙ ap refusal_of e ∙ (numbered s).named

-- the tests fix the answer
pub one_answer : (ts : List Test) (m n : ℕ) → Answer ts m → Answer ts n → m ≡ n
one_answer [] m n p q = p ∙ sym q
one_answer (t ∷ ts) m n (inl p) (inl q) = one_answer ts m n p.1 q.1
one_answer (t ∷ ts) m n (inl p) (inr q) = absurd (q.0 p.0)
one_answer (t ∷ ts) m n (inr p) (inl q) = absurd (p.0 q.0)
one_answer (t ∷ ts) m n (inr p) (inr q) = p.1 ∙ sym q.1

-- every test holds
abbrev pub Passed : List Test → Type 0
Passed [] = Unit
Passed (t ∷ ts) = t.holds × Passed ts

-- where the answer is 0 every test holds
pub passed : (ts : List Test) (n : ℕ) → Answer ts n → n ≡ 0 → Passed ts
passed [] n a e = tt
passed (t ∷ ts) n (inl a) e = (a.0, passed ts n a.1 e)
passed (t ∷ ts) n (inr a) e = absurd (refusal_positive t.refusal (sym a.1 ∙ e))

-- ---- what a test answers

pub tells_yes : {P : Type 0} → P → Tells P true
tells_yes p = record { holds = λ e. p; fails = λ e q. never e }
  where
    never : true ≡ false → ⊥
    never e = let z : ◌≡◌ {A = ℕ} 0 1 = cc in omega arith

pub tells_no : {P : Type 0} → (P → ⊥) → Tells P false
tells_no f = record { holds = λ e. absurd (never e); fails = λ e. f }
  where
    never : false ≡ true → ⊥
    never e = let z : ◌≡◌ {A = ℕ} 0 1 = cc in omega arith
