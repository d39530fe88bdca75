-- The encoder's theorems: the generator and the division, the one line of a text and a number, the register after every character, the two ways, and one result of each promise and of each inner function that others call.
use mathlib.Core.Path.{◌≡◌, refl, sym, ap, ap₂, ◌∙◌, subst}
use mathlib.Core.Logic.{⊎_elim}
use mathlib.Core.List.{List, [], ◌∷◌, ◌++◌, reverse}
use Prim.Native.Nat.{ℕ, suc, ◌/◌, ◌%◌, ◌<◌, ◌≤◌}
use native.Mathlib.Nat.{zero-add}
use native.Mathlib.Omega.{arith}
use lib.ListN.{length, get_or, take, drop, replicate, length-append}
use lib.Seq.{drop_at}
use Rattle.std.specs.Prelude.{Result, Ok, Err}
use Rattle.numbers.proofs.Cases.{same_or_not}
use Rattle.refusal.specs.declared.Refusal.{Refusal}
use Rattle.refusal.proofs.Laws.{one_refusal, refusal_positive, passed}
use Rattle.refusal.proofs.Theorems.{one_result}
use Rattle.code.specs.Word.{Characters, Clean}
use Rattle.code.proofs.Theorems.{one_line_of_text, one_list_of_sums}
use Rattle.encoder.specs.declared.Register.{Register}
use Rattle.encoder.specs.declared.Stepped.{Stepped}
use Rattle.encoder.specs.Division.{plus, scaled, generator, remainder, times_generator, GeneratorDivides, Remains}
use Rattle.encoder.specs.Register.{empty, next, checks_of}
use Rattle.encoder.specs.Promises.{encoding_numbers, encoding_tests, LineWith, Encodes, step_numbers, Steps, check_numbers, Checks}
use Rattle.encoder.specs.Runs.{Through, HoldsAfter}
use Rattle.encoder.specs.Interpolation.{ChecksWith}
use Rattle.encoder.specs.Inside.{information, InformationOf, Ended, LinePut}
use Rattle.encoder.proofs.Division.{lower, generator_is, highest_goes, remainder_is, remainder_long}
use Rattle.encoder.proofs.Quotients.{quotients, apart}
use Rattle.encoder.proofs.Encoding.{characters_append, characters_zeros, characters_remainder, information_long, information_characters, encoded, encoded_line}
use Rattle.encoder.proofs.Cleaning
use Rattle.encoder.proofs.Interpolation.{one_checks}
use Rattle.encoder.proofs.Running.{one_stepping, one_asking, ask_on, holds_none, run_holds, a_run, idle_refused}

-- ---- the generator

pub coefficients : generator ≡ 1 ∷ 20 ∷ 61 ∷ 3 ∷ 28 ∷ 23 ∷ 23 ∷ 28 ∷ 3 ∷ 61 ∷ 20 ∷ 1 ∷ []
unfolding lower
coefficients = generator_is

-- its coefficients read the same from both ends
pub from_both_ends : reverse generator ≡ generator
from_both_ends = ap reverse coefficients ∙ sym coefficients

-- the place that a step of the division leaves out holds 0
pub left_out : (p : ℕ) (ps : List ℕ) → p < 64 → get_or (plus (p ∷ ps) (scaled p generator)) 0 0 ≡ 0
unfolding plus scaled
left_out p ps h = ap (λ (g : List ℕ). get_or (plus (p ∷ ps) (scaled p g)) 0 0) generator_is ∙ highest_goes p h

-- that is what the remainder is
pub remainder_remains : (ps : List ℕ) → Characters ps → Remains ps (remainder ps)
remainder_remains ps h =
    record {
      quotient = quotients (length ps) (ps ++ replicate 11 0);
      long = remainder_long ps;
      is =
          ap (λ (r : List ℕ). plus (times_generator (quotients (length ps) (ps ++ replicate 11 0))) (replicate (length ps) 0 ++ r)) (remainder_is ps)
          ∙ apart (length ps) (ps ++ replicate 11 0) (length-append ps (replicate 11 0)) (characters_append ps (replicate 11 0) h (characters_zeros 11));
    }

-- a word is clean exactly when the generator divides its polynomial
pub clean_divides : (w : List ℕ) → Clean w → GeneratorDivides w
clean_divides = Cleaning.clean_divides

pub divides_clean : (w : List ℕ) → length w ≡ 63 → Characters w → GeneratorDivides w → Clean w
divides_clean = Cleaning.divides_clean

-- ---- the one line with a text and a number

pub a_line : (t : List ℕ) (n : ℕ) → length t ≡ 50 → Characters t → n ≤ 4095 → (l : List ℕ) × LineWith t n l
a_line t n l h b = (encoded t n, encoded_line t n l h b)

pub one_line : (t : List ℕ) (n : ℕ) (l m : List ℕ) → LineWith t n l → LineWith t n m → l ≡ m
one_line t n l m p q = one_line_of_text l m p.line q.line (p.its_text ∙ sym q.its_text) (p.its_number ∙ sym q.its_number)

-- ---- by the character

-- after n characters, n from 0 to 52, the register holds the remainder of x^11 times their polynomial, and their count:
-- every run of steps that the promise allows, from the empty register, leaves it so
pub after_characters : (cs : List ℕ) → length cs ≤ 52 → Characters cs → (r : Register) → Through empty cs r → HoldsAfter r cs
after_characters cs l h r run = run_holds cs [] empty r (omega (arith, zero-add (length cs))) (λ a. omega arith) h holds_none run

-- and there is a run: no character is refused
pub through_characters : (cs : List ℕ) → length cs ≤ 52 → Characters cs → (r : Register) × Through empty cs r
through_characters cs l h = a_run cs [] empty (omega (arith, zero-add (length cs))) (λ a. omega arith) h holds_none

-- so an encoder that does its work at the first character and idles after is excluded: what is held after 1 does not stay when 0 is taken
pub no_idling : (q : Register) (numbers : List ℕ) → Steps (next empty 1) 0 numbers q → q.held ≡ (next empty 1).held → ⊥
no_idling = idle_refused

-- a refused step leaves the register and its count unchanged
pub refused_unchanged : (r : Register) (c n : ℕ) (fields : List ℕ) (q : Register) → Steps r c (suc n ∷ fields) q → q ≡ r
unfolding Steps
refused_unchanged r c n fields q s = s.1.1

-- the two ways agree: stepping through the text and the number's two characters and asking gives the checks that encoding at once writes
pub two_ways : (t : List ℕ) (n : ℕ) (old l : List ℕ) (r : Register) (numbers : List ℕ)
    → Encodes t n old (0 ∷ []) l → Through empty (t ++ n / 64 ∷ n % 64 ∷ []) r → Checks r numbers → numbers ≡ 0 ∷ drop 52 l
unfolding Encodes information encoded
two_ways t n old l r numbers e run asked =
    let ok = passed (encoding_tests t n (length old)) 0 e.0 refl in
    let long : length (information t n) ≡ 52 = information_long t n ok.0 in
    let chars : Characters (information t n) = information_characters t n ok.1.1.0 ok.1.1.1.0 in
    let h : HoldsAfter r (information t n) = after_characters (information t n) (omega arith) chars r run in
    let held : Characters r.held = subst Characters (sym h.held_is) (characters_remainder (information t n) chars) in
    let same : l ≡ encoded t n = one_line t n l (encoded t n) e.1.1 (encoded_line t n ok.0 ok.1.1.0 ok.1.1.1.0) in
    one_asking r numbers (0 ∷ checks_of r.held) asked (ask_on r (h.count_is ∙ long) held)
    ∙ ap (λ (k : List ℕ). 0 ∷ checks_of k) h.held_is
    ∙ ap (λ (k : List ℕ). 0 ∷ k) (sym (ap (drop 52) same ∙ drop_at (information t n) (checks_of (remainder (information t n))) 52 long))

-- ---- any two results that a promise allows are equal

head_of : (m n : ℕ) (ms ns : List ℕ) → m ∷ ms ≡ n ∷ ns → m ≡ n
head_of m n ms ns e = cc

one_number : (a b : Result Unit Refusal) → encoding_numbers a ≡ encoding_numbers b → a ≡ b
one_number (Ok x) (Ok y) e = refl
one_number (Ok x) (Err s) e = absurd (refusal_positive s (sym (head_of _ _ _ _ e)))
one_number (Err r) (Ok y) e = absurd (refusal_positive r (head_of _ _ _ _ e))
one_number (Err r) (Err s) e = ap Err (one_refusal r s (head_of _ _ _ _ e))

pub one_encoding : (t : List ℕ) (n : ℕ) (old : List ℕ) (a b : Result Unit Refusal) (x y : List ℕ)
    → Encodes t n old (encoding_numbers a) x → Encodes t n old (encoding_numbers b) y → (a ≡ b) × (x ≡ y)
unfolding Encodes
one_encoding t n old a b x y p q =
    let e =
    one_result (encoding_tests t n (length old)) (λ fields l. (fields ≡ []) × LineWith t n l) 0
    (λ _ f g x y s t. (s.0 ∙ sym t.0, one_line _ _ x y s.1 t.1)) old (encoding_numbers a) (encoding_numbers b) x y p q in
    (one_number a b e.0, e.1)

pub one_step : (r : Register) (c : ℕ) (a b : Stepped) → Steps r c (step_numbers a.answer) a.register → Steps r c (step_numbers b.answer) b.register → a ≡ b
one_step r c a b p q =
    let e = one_stepping r c (step_numbers a.answer) (step_numbers b.answer) a.register b.register p q in
    ap₂ (λ (x : Register) (y : Result Unit Refusal). record { register = x; answer = y }) e.1 (one_number a.answer b.answer e.0)

one_checking_number : (a b : Result (List ℕ) Refusal) → check_numbers a ≡ check_numbers b → a ≡ b
one_checking_number (Ok k) (Ok m) e = ap Ok (ap (drop 1) e)
one_checking_number (Ok k) (Err s) e = absurd (refusal_positive s (sym (head_of _ _ _ _ e)))
one_checking_number (Err r) (Ok m) e = absurd (refusal_positive r (head_of _ _ _ _ e))
one_checking_number (Err r) (Err s) e = ap Err (one_refusal r s (head_of _ _ _ _ e))

-- asking does not change the register, so this is also that asking again gives the same
pub one_check : (r : Register) (a b : Result (List ℕ) Refusal) → Checks r (check_numbers a) → Checks r (check_numbers b) → a ≡ b
one_check r a b p q = one_checking_number a b (one_asking r (check_numbers a) (check_numbers b) p q)

-- ---- inner functions

-- any two lists of a text's and a number's characters are equal
pub one_information : (t : List ℕ) (n : ℕ) (w v : List ℕ) → InformationOf t n w → InformationOf t n v → w ≡ v
one_information t n w v p q = ⊎_elim (λ (h : length t ≡ 50). p.is h ∙ sym (q.is h)) (λ (d : length t ≡ 50 → ⊥). p.none d ∙ sym (q.none d)) (same_or_not (length t) 50)

-- and any two results of putting a line
pub one_line_put : (w old x y : List ℕ) → LinePut w old x → LinePut w old y → x ≡ y
one_line_put w old x y p q =
    ⊎_elim (λ (h : length old ≡ 63). one_ended (p.over h) (q.over h)) (λ (d : length old ≡ 63 → ⊥). p.beside d ∙ sym (q.beside d)) (same_or_not (length old) 63)
  where
    one_ended : Ended w x → Ended w y → x ≡ y
    one_ended a b =
        let e : a.sums ≡ b.sums = one_list_of_sums w a.sums b.sums a.of_word b.of_word in
        let f : a.checks ≡ b.checks =
        one_checks b.sums a.checks b.checks (subst (λ (s : List ℕ). ChecksWith s a.checks) e a.with_sums) b.with_sums in
        a.is ∙ ap (λ (c : List ℕ). take 52 w ++ checks_of c) f ∙ sym b.is
