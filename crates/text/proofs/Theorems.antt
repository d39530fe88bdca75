-- The theorems of text: decimal numbers say the number and have no leading zero, and writing has one result.
use mathlib.Core.Path.{◌≡◌, refl, sym, ap, ap₂, ◌∙◌}
use mathlib.Core.List.{List, [], ◌∷◌, ◌++◌}
use Prim.Native.Nat.{ℕ, ◌+◌, ◌-◌, ◌*◌, ◌/◌, ◌%◌}
use native.Mathlib.Omega.{arith}
use lib.ListN.{get_or, drop, take-append-drop, get_or-append}
use Rattle.text.specs.Text.{digit, decimal}
use Rattle.text.specs.Writing.{Puts}
use Rattle.text.proofs.Decimal.{decimal_small, decimal_more, by_digits, decimal_positive}

-- the number that digits say, after those that say n
abbrev pub value : ℕ → List ℕ → ℕ
value n [] = n
value n (c ∷ cs) = value (n * 10 + (c - 48)) cs

value_append : (n : ℕ) (s t : List ℕ) → value n (s ++ t) ≡ value (value n s) t
value_append n [] t = refl
value_append n (c ∷ s) t = value_append (n * 10 + (c - 48)) s t

-- the digits say the number
pub decimal_value : (n : ℕ) → value 0 (decimal n) ≡ n
decimal_value =
    by_digits (λ (n : ℕ). value 0 (decimal n) ≡ n) (λ n h. rw (decimal_small n h) (omega arith))
    (λ n h e. rw (decimal_more n h, value_append 0 (decimal (n / 10)) (digit (n % 10) ∷ []), e) (omega arith))

-- so different numbers have different digits
pub one_decimal : (m n : ℕ) → decimal m ≡ decimal n → m ≡ n
one_decimal m n e = sym (decimal_value m) ∙ ap (value 0) e ∙ decimal_value n

-- only 0 begins with a zero
pub no_leading_zero : (n : ℕ) → get_or (decimal n) 0 0 ≡ digit 0 → n ≡ 0
no_leading_zero =
    by_digits (λ (n : ℕ). get_or (decimal n) 0 0 ≡ digit 0 → n ≡ 0) (λ n h e. let f : 48 + n ≡ 48 = rw (decimal_small n h) at e in omega arith)
    (λ n h hyp e.
    let s : get_or (decimal n) 0 0 ≡ get_or (decimal (n / 10)) 0 0 =
    ap (λ (l : List ℕ). get_or l 0 0) (decimal_more n h) ∙ get_or-append (decimal (n / 10)) (digit (n % 10) ∷ []) 0 0 (decimal_positive (n / 10))
    in
    let z : n / 10 ≡ 0 = hyp (sym s ∙ e) in
    absurd (omega arith))

-- two results of writing the same text at the same place are equal
pub one_put : (old text x y : List ℕ) (at m n : ℕ) → Puts old x at m text → Puts old y at n text → (m ≡ n) × (x ≡ y)
one_put old text x y at m n p q =
    let e : m ≡ n = p.place ∙ sym q.place in
    (e, sym (take-append-drop m x) ∙ ap₂ ◌++◌ (p.up_to ∙ sym q.up_to) (p.after ∙ ap (λ (k : ℕ). drop k old) e ∙ sym q.after) ∙ take-append-drop n y)
