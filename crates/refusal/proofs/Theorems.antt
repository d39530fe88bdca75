-- A promise allows one result: one answer, and, where what a success gives is determined, one set of fields and one output.
use mathlib.Core.Path.{◌≡◌, refl, sym, ◌∙◌, ap₂}
use mathlib.Core.Bool.{Bool, true, false}
use mathlib.Core.List.{List, [], ◌∷◌}
use Prim.Native.Nat.{ℕ, zero, suc}
use native.Mathlib.Omega.{arith}
use Rattle.refusal.specs.Promise.{Test, Answer, Leaves, Promise, Replies, Tells}
use Rattle.refusal.proofs.Laws.{one_answer, Passed, passed}

-- what a success gives is determined, where every test holds
module _ {O : Type 0} (ts : List Test) (Stated : List ℕ → O → Type 0) (k : ℕ)
    (one : Passed ts → (f g : List ℕ) (x y : O) → Stated f x → Stated g y → (f ≡ g) × (x ≡ y)) where
  -- then two calls have the same fields, whatever lay in their outputs, and leave the same where the same lay there
  one_left : (o p : O) (m n : ℕ) (f g : List ℕ) (x y : O) → m ≡ n → Answer ts m → Leaves Stated k o m f x → Leaves Stated k p n g y → (f ≡ g) × (o ≡ p → x ≡ y)
  one_left o p zero zero f g x y e a s t = let q = one (passed ts 0 a refl) f g x y s t in (q.0, λ _. q.1)
  one_left o p zero (suc n) f g x y e a s t = absurd (omega arith)
  one_left o p (suc m) zero f g x y e a s t = absurd (omega arith)
  one_left o p (suc m) (suc n) f g x y e a s t = (s.0 ∙ sym t.0, λ q. s.1 ∙ q ∙ sym t.1)

  one-both : (o p : O) (a b : List ℕ) (x y : O) → Promise ts Stated k o a x → Promise ts Stated k p b y → (a ≡ b) × (o ≡ p → x ≡ y)
  one-both o p [] b x y s t = absurd s
  one-both o p (m ∷ f) [] x y s t = absurd t
  one-both o p (m ∷ f) (n ∷ g) x y s t =
      let e : m ≡ n = one_answer ts m n s.0 t.0 in
      let q = one_left o p m n f g x y e s.0 s.1 t.1 in
      (ap₂ (λ (i : ℕ) (l : List ℕ). i ∷ l) e q.0, q.1)

  -- any two results that a promise allows are equal
  pub one_result : (o : O) (a b : List ℕ) (x y : O) → Promise ts Stated k o a x → Promise ts Stated k o b y → (a ≡ b) × (x ≡ y)
  one_result o a b x y s t = let q = one-both o o a b x y s t in (q.0, q.1 refl)

  -- and so are the numbers of two calls that meet the same tests, whatever lay in their outputs
  pub same_numbers : (o p : O) (a b : List ℕ) (x y : O) → Promise ts Stated k o a x → Promise ts Stated k p b y → a ≡ b
  same_numbers o p a b x y s t = (one-both o p a b x y s t).0

-- any two replies that a promise with no output allows are equal
pub one_reply : (ts : List Test) (Stated : List ℕ → Type 0) (k : ℕ) → (Passed ts → (f g : List ℕ) → Stated f → Stated g → f ≡ g)
    → (a b : List ℕ) → Replies ts Stated k a → Replies ts Stated k b → a ≡ b
one_reply ts Stated k one a b s t = (one_result ts (λ fields _. Stated fields) k (λ p f g x y u v. (one p f g u v, refl)) tt a b tt tt s t).0

-- a test tells one thing
pub one_verdict : (P : Type 0) (b c : Bool) → Tells P b → Tells P c → b ≡ c
one_verdict P true true s t = refl
one_verdict P true false s t = absurd (t.fails refl (s.holds refl))
one_verdict P false true s t = absurd (s.fails refl (t.holds refl))
one_verdict P false false s t = refl
