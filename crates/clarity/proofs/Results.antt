-- Any two results of a scan are equal, in numbers and as the code has them, and so are any two of a spool; and a scan's numbers are those of its answer.
use mathlib.Core.Path.{◌≡◌, refl, sym, ap, ap₂, ◌∙◌}
use mathlib.Core.List.{List, [], ◌∷◌}
use Prim.Native.Nat.{ℕ}
use native.Mathlib.Omega.{arith}
use lib.ListN.{get_or}
use Rattle.std.specs.Prelude.{Result, Ok, Err}
use Rattle.clarity.specs.declared.Clarity.{Clarity}
use Rattle.clarity.specs.declared.Clarity.TheVariants.{Ratio, NoSpread}
use Rattle.refusal.specs.declared.Refusal.{Refusal}
use Rattle.refusal.specs.Number.{number_of}
use Rattle.refusal.proofs.Laws.{refusal_positive, one_refusal}
use Rattle.refusal.proofs.Theorems.{one_result, one_reply}
use Rattle.clarity.specs.declared.Means.{Means}
use Rattle.clarity.specs.declared.Scan.{Scan}
use Rattle.clarity.specs.declared.Counts.{Counts}
use Rattle.clarity.specs.Scan.{answer_of}
use Rattle.clarity.specs.Promises.{kind_of, clarity_numbers, ratio_of, Given, given_of, count_numbers, nothing, scan_tests, ClearAs, Clarifies, spool_tests, CountedAs, CountsSpool}
use Rattle.clarity.proofs.Ways.{answered}

rest : List ℕ → List ℕ
rest [] = []
rest (n ∷ l) = l

pub one_scan : (cells : List ℕ) (t : ℕ) (a b : List ℕ) (x y : Given) → Clarifies cells t a x → Clarifies cells t b y → (a ≡ b) × (x ≡ y)
unfolding Clarifies rest
one_scan cells t a b x y p q =
    one_result (scan_tests cells t) (ClearAs cells t) 1
    (λ _ f g u v s r. (ap rest (s.0 ∙ sym r.0), s.1 ∙ sym r.1)) nothing a b x y p q

pub one_spool : (cells : List ℕ) (t : ℕ) (a b : List ℕ) → CountsSpool cells t a → CountsSpool cells t b → a ≡ b
unfolding CountsSpool
one_spool cells t a b p q = one_reply (spool_tests cells) (CountedAs cells t) 3 (λ _ f g s r. s ∙ sym r) a b p q

-- ---- as the code has them

pub second : (m n i j : ℕ) (f g : List ℕ) → m ∷ i ∷ f ≡ n ∷ j ∷ g → i ≡ j
second m n i j f g e = ap (λ (l : List ℕ). get_or l 1 0) e

pub no_refusal : (r : Refusal) (f g : List ℕ) → 0 ∷ f ≡ number_of r ∷ g → ⊥
no_refusal r f g e = refusal_positive r (sym (ap (λ (l : List ℕ). get_or l 0 0) e))

-- kind and ratio fix what a scan comes to
one_ratio : (a b : Clarity) → kind_of a ≡ kind_of b → ratio_of a ≡ ratio_of b → a ≡ b
one_ratio (Ratio x) (Ratio y) k r = ap Ratio r
one_ratio (Ratio x) NoSpread k r = absurd (omega arith)
one_ratio NoSpread (Ratio y) k r = absurd (omega arith)
one_ratio NoSpread NoSpread k r = refl

-- numbers and doubles fix an answer
one_answer : (a b : Result Scan Refusal) → clarity_numbers a ≡ clarity_numbers b → given_of a ≡ given_of b → a ≡ b
one_answer (Ok s) (Ok u) e g =
    ap Ok
    (ap₂ (λ (m : Means) (r : Clarity). record { means = m; clarity = r })
    (ap (λ (x : Given). x.means) g)
    (one_ratio s.clarity u.clarity (second 0 0 (kind_of s.clarity) (kind_of u.clarity) [] [] e) (ap (λ (x : Given). x.ratio) g)))
one_answer (Ok s) (Err r) e g = absurd (no_refusal r (kind_of s.clarity ∷ []) (0 ∷ []) e)
one_answer (Err r) (Ok s) e g = absurd (no_refusal r (kind_of s.clarity ∷ []) (0 ∷ []) (sym e))
one_answer (Err r) (Err u) e g = ap Err (one_refusal r u (ap (λ (l : List ℕ). get_or l 0 0) e))

pub one_clarity : (cells : List ℕ) (t : ℕ) (r s : Result Scan Refusal) → Clarifies cells t (clarity_numbers r) (given_of r)
    → Clarifies cells t (clarity_numbers s) (given_of s) → r ≡ s
one_clarity cells t r s p q =
    let e = one_scan cells t (clarity_numbers r) (clarity_numbers s) (given_of r) (given_of s) p q in
    one_answer r s e.0 e.1

-- the numbers fix the answer of a spool
one_counted : (a b : Result Counts Refusal) → count_numbers a ≡ count_numbers b → a ≡ b
one_counted (Ok c) (Ok d) q = ap Ok (rw (at 1, at 2, at 3) refl)
  where
    at : (i : ℕ) → get_or (count_numbers (Ok c)) i 0 ≡ get_or (count_numbers (Ok d)) i 0
    at i = ap (λ (l : List ℕ). get_or l i 0) q
one_counted (Ok c) (Err s) q = absurd (no_refusal s (c.ratios ∷ c.unspread ∷ c.refusals ∷ []) (0 ∷ 0 ∷ 0 ∷ []) q)
one_counted (Err s) (Ok c) q = absurd (no_refusal s (c.ratios ∷ c.unspread ∷ c.refusals ∷ []) (0 ∷ 0 ∷ 0 ∷ []) (sym q))
one_counted (Err s) (Err u) q = ap Err (one_refusal s u (ap (λ (l : List ℕ). get_or l 0 0) q))

pub one_counting : (cells : List ℕ) (t : ℕ) (a b : Result Counts Refusal) → CountsSpool cells t (count_numbers a) → CountsSpool cells t (count_numbers b) → a ≡ b
one_counting cells t a b p q = one_counted a b (one_spool cells t (count_numbers a) (count_numbers b) p q)

-- ---- the numbers of a scan's result are those of its answer

pub same_answer : (cells : List ℕ) (t : ℕ) (numbers : List ℕ) (given : Given) → Clarifies cells t numbers given → numbers ≡ clarity_numbers (answer_of t cells)
same_answer cells t numbers given p =
    (one_scan cells t numbers (clarity_numbers (answer_of t cells)) given (answered cells t).given p (answered cells t).is).0
