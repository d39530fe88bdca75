-- What the answer of one list of tests says of the answer of another, and of the refusal that it is.
use mathlib.Core.Path.{◌≡◌, refl, sym, ◌∙◌, ap, subst}
use mathlib.Core.Logic.{inl, inr}
use mathlib.Core.List.{List, [], ◌∷◌}
use Prim.Native.Nat.{ℕ, zero, suc}
use Rattle.refusal.specs.declared.Refusal.{Refusal}
use Rattle.refusal.specs.Number.{number_of}
use Rattle.refusal.specs.Promise.{Test, ◌else◌, Answer}
use Rattle.refusal.proofs.Laws.{refusal_positive, one_refusal}
use Rattle.refusal.proofs.Ladder.{Met}

-- the first k tests, and those after them
abbrev pub first_tests : ℕ → List Test → List Test
first_tests zero ts = []
first_tests (suc k) [] = []
first_tests (suc k) (t ∷ ts) = t ∷ first_tests k ts

abbrev pub later_tests : ℕ → List Test → List Test
later_tests zero ts = ts
later_tests (suc k) [] = []
later_tests (suc k) (t ∷ ts) = later_tests k ts

-- where the first hold the answer is that of the others
pub met_first : (k : ℕ) (ts : List Test) (n : ℕ) → Met (first_tests k ts) → Answer (later_tests k ts) n → Answer ts n
met_first zero ts n m a = a
met_first (suc k) [] n m a = a
met_first (suc k) (t ∷ ts) n m a = inl (m.0.is, met_first k ts n m.1 a)

pub without_met : (k : ℕ) (ts : List Test) (n : ℕ) → Met (first_tests k ts) → Answer ts n → Answer (later_tests k ts) n
without_met zero ts n m a = a
without_met (suc k) [] n m a = a
without_met (suc k) (t ∷ ts) n m (inl a) = without_met k ts n m.1 a.1
without_met (suc k) (t ∷ ts) n m (inr a) = absurd (a.0 m.0.is)

-- a refusal of the first is one of all
pub refused_first : (k : ℕ) (ts : List Test) (r : Refusal) → Answer (first_tests k ts) (number_of r) → Answer ts (number_of r)
refused_first zero ts r a = absurd (refusal_positive r a)
refused_first (suc k) [] r a = a
refused_first (suc k) (t ∷ ts) r (inl a) = inl (a.0, refused_first k ts r a.1)
refused_first (suc k) (t ∷ ts) r (inr a) = inr a

-- ---- tests that hold together, with the same refusals

pub record Alike (t u : Test) : Type 0 where
  pub over : t.holds → u.holds
  pub back : u.holds → t.holds
  pub refusal : t.refusal ≡ u.refusal

pub same_test : {t : Test} → Alike t t
same_test = record { over = λ h. h; back = λ h. h; refusal = refl }

pub both_hold : {P Q : Type 0} {r : Refusal} → P → Q → Alike (P else r) (Q else r)
both_hold p q = record { over = λ _. q; back = λ _. p; refusal = refl }

abbrev pub AllAlike : List Test → List Test → Type 0
AllAlike [] [] = Unit
AllAlike [] (u ∷ us) = ⊥
AllAlike (t ∷ ts) [] = ⊥
AllAlike (t ∷ ts) (u ∷ us) = Alike t u × AllAlike ts us

pub alike_answer : (ts us : List Test) (n : ℕ) → AllAlike ts us → Answer ts n → Answer us n
alike_answer [] [] n s a = a
alike_answer [] (u ∷ us) n s a = absurd s
alike_answer (t ∷ ts) [] n s a = absurd s
alike_answer (t ∷ ts) (u ∷ us) n s (inl a) = inl (s.0.over a.0, alike_answer ts us n s.1 a.1)
alike_answer (t ∷ ts) (u ∷ us) n s (inr a) = inr (λ h. a.0 (s.0.back h), a.1 ∙ ap number_of s.0.refusal)

-- ---- what holds of the refusal of each test that can fail holds of the refusal

abbrev pub OfEach : (Refusal → Type 0) → List Test → Type 0
OfEach C [] = Unit
OfEach C (t ∷ ts) = ((t.holds → ⊥) → C t.refusal) × (t.holds → OfEach C ts)

pub by_refusal : (C : Refusal → Type 0) (ts : List Test) (r : Refusal) → Answer ts (number_of r) → OfEach C ts → C r
by_refusal C [] r a e = absurd (refusal_positive r a)
by_refusal C (t ∷ ts) r (inl a) e = by_refusal C ts r a.1 (e.1 a.0)
by_refusal C (t ∷ ts) r (inr a) e = subst C (sym (one_refusal r t.refusal a.1)) (e.0 a.0)
