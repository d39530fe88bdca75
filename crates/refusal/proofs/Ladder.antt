-- The ladder from the verdicts on a call's tests, in their order, to its promise: one law where a test fails, wherever it stands, and one where all hold.
use mathlib.Core.Path.{◌≡◌, refl}
use mathlib.Core.Bool.{Bool, true, false, not}
use mathlib.Core.Logic.{inl, inr}
use mathlib.Core.List.{List, [], ◌∷◌}
use Prim.Native.Nat.{ℕ, zero, suc, ◌<◌, ◌≤◌}
use native.Mathlib.Omega.{arith}
use lib.ListN.{replicate}
use borrow.Author.Tests.{not-true, not-false}
use Rattle.refusal.specs.declared.Refusal.{Refusal}
use Rattle.refusal.specs.Number.{number_of}
use Rattle.refusal.specs.Promise.{Test, Answer, Leaves, Promise, Replies, Tells}
use Rattle.refusal.proofs.Laws.{refusal_positive}

-- the verdicts on a fact: records, since `search` would look into a fact that is a function before it takes the code's verdict on it
pub record Yes (P : Type 0) : Type 0 where
  pub is : P

pub record No (P : Type 0) : Type 0 where
  pub not : P → ⊥

-- every test holds
abbrev pub Met : List Test → Type 0
Met [] = Unit
Met (t ∷ ts) = Yes t.holds × Met ts

-- the first n tests hold and the next one does not
abbrev pub FailsAt : ℕ → List Test → Type 0
FailsAt n [] = ⊥
FailsAt zero (t ∷ ts) = No t.holds
FailsAt (suc n) (t ∷ ts) = Yes t.holds × FailsAt n ts

-- the number of its refusal
abbrev pub answer_at : ℕ → List Test → ℕ
answer_at n [] = 0
answer_at zero (t ∷ ts) = number_of t.refusal
answer_at (suc n) (t ∷ ts) = answer_at n ts

-- a test that holds, and then the others
infixr 1 ◌then◌
pub ◌then◌ : {P Q : Type 0} → P → Q → Yes P × Q
p then q = (record { is = p }, q)

-- ---- the answer

pub met_answer : (ts : List Test) → Met ts → Answer ts 0
met_answer [] m = refl
met_answer (t ∷ ts) m = inl (m.0.is, met_answer ts m.1)

pub fails_answer : (ts : List Test) (n : ℕ) → FailsAt n ts → Answer ts (answer_at n ts)
fails_answer [] n f = absurd f
fails_answer (t ∷ ts) zero f = inr (f.not, refl)
fails_answer (t ∷ ts) (suc n) f = inl (f.0.is, fails_answer ts n f.1)

answer_positive : (ts : List Test) (n : ℕ) → FailsAt n ts → answer_at n ts ≡ 0 → ⊥
answer_positive [] n f = absurd f
answer_positive (t ∷ ts) zero f = refusal_positive t.refusal
answer_positive (t ∷ ts) (suc n) f = answer_positive ts n f.1

-- ---- the promise

module _ {O : Type 0} (Stated : List ℕ → O → Type 0) (k : ℕ) (old : O) where
  leaves-zeros : (n : ℕ) → (n ≡ 0 → ⊥) → Leaves Stated k old n (replicate k 0) old
  leaves-zeros zero d = absurd (d refl)
  leaves-zeros (suc n) d = (refl, refl)

  module _ (ts : List Test) where
    -- a call that refuses at a test
    pub refuses : (n : ℕ) → FailsAt n ts → Promise ts Stated k old (answer_at n ts ∷ replicate k 0) old
    refuses n f = (fails_answer ts n f, leaves-zeros (answer_at n ts) (answer_positive ts n f))

    -- one that refuses as another refused
    pub refuses_too : (r : Refusal) → Answer ts (number_of r) → Promise ts Stated k old (number_of r ∷ replicate k 0) old
    refuses_too r a = (a, leaves-zeros (number_of r) (refusal_positive r))

    -- one that refuses at none
    pub succeeds : (fields : List ℕ) (new : O) → Met ts → Stated fields new → Promise ts Stated k old (0 ∷ fields) new
    succeeds fields new m s = (met_answer ts m, s)

-- and a call that has no output
module _ (Stated : List ℕ → Type 0) (k : ℕ) (ts : List Test) where
  pub declines : (n : ℕ) → FailsAt n ts → Replies ts Stated k (answer_at n ts ∷ replicate k 0)
  declines = refuses {O = Unit} (λ fields _. Stated fields) k tt ts

  pub replies : (fields : List ℕ) → Met ts → Stated fields → Replies ts Stated k (0 ∷ fields)
  replies fields = succeeds {O = Unit} (λ fields _. Stated fields) k tt ts fields tt

-- ---- what `search` finds the verdicts by, each as the code branches on it

pub both : {P Q : Type 0} → P → Q → P × Q
both p q = (p, q)

pub told_yes : {P : Type 0} {b : Bool} → Tells P b → not b ≡ false → Yes P
told_yes {b = b} v e = record { is = v.holds (not-false b e) }

pub told_no : {P : Type 0} {b : Bool} → Tells P b → not b ≡ true → No P
told_no {b = b} v e = record { not = v.fails (not-true b e) }

pub given : {P : Type 0} → P → Yes P
given p = record { is = p }

pub denied : {P : Type 0} → (P → ⊥) → No P
denied d = record { not = d }

pub above : {m n : ℕ} → m < n → No (n ≤ m)
above h = record { not = λ g. omega arith }

pub ruleset verdicts = (both, told_yes, told_no, given, denied, above, not-true, not-false, tt)
