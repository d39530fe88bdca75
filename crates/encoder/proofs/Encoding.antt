-- The line of a text and a number: its first 52 characters, that with what the division leaves they are clean, and that with the marks they are the line.
use mathlib.Core.Path.{◌≡◌, refl, sym, ap, ap₂, ◌∙◌, subst}
use mathlib.Core.List.{List, [], ◌∷◌, ◌++◌}
use Prim.Native.Nat.{ℕ, zero, suc, ◌+◌, ◌*◌, ◌/◌, ◌%◌, ◌<◌, ◌≤◌}
use native.Mathlib.Nat.{div-add-mod'}
use native.Mathlib.Omega.{arith}
use lib.ListN.{length, get_or, take, drop, replicate, length-append, get_or-append}
use lib.Seq.{take-append-le, take_at, get_or-append-add}
use Rattle.field.specs.Field.{α, power}
use Rattle.code.specs.Word.{Characters, Clean, added, marks, Line, text, number}
use Rattle.code.proofs.Words.{cons}
use Rattle.code.proofs.Sums.{power_sum_value}
use Rattle.code.proofs.Lines.{clean_line}
use Rattle.encoder.specs.Division.{remainder}
use Rattle.encoder.specs.Register.{checks_of}
use Rattle.encoder.specs.Promises.{LineWith}
use Rattle.encoder.specs.Inside.{information}
use Rattle.encoder.proofs.Division.{root, characters_divide, remainder_is, remainder_long, remainder_value}
use Rattle.encoder.proofs.Stepping.{added_none}

-- ---- characters

pub characters_append : (us vs : List ℕ) → Characters us → Characters vs → Characters (us ++ vs)
characters_append [] vs hu hv a = hv a
characters_append (u ∷ us) vs hu hv zero = hu 0
characters_append (u ∷ us) vs hu hv (suc a) = characters_append us vs (λ i. hu (suc i)) hv a

pub characters_take : (n : ℕ) (w : List ℕ) → Characters w → Characters (take n w)
characters_take zero w h a = omega arith
characters_take (suc n) [] h a = omega arith
characters_take (suc n) (c ∷ cs) h zero = h 0
characters_take (suc n) (c ∷ cs) h (suc a) = characters_take n cs (λ i. h (suc i)) a

pub characters_zeros : (n : ℕ) → Characters (replicate n 0)
characters_zeros zero a = omega arith
characters_zeros (suc n) zero = omega arith
characters_zeros (suc n) (suc a) = characters_zeros n a

pub characters_remainder : (cs : List ℕ) → Characters cs → Characters (remainder cs)
characters_remainder cs h a =
    subst (λ (l : List ℕ). get_or l a 0 < 64) (sym (remainder_is cs))
    (characters_divide (length cs) (cs ++ replicate 11 0) (characters_append cs (replicate 11 0) h (characters_zeros 11)) a)

-- ---- the clean word

pub clean_remainder : (cs : List ℕ) → length cs ≡ 52 → Characters cs → Clean (cs ++ remainder cs)
clean_remainder cs l h =
    let long : length (cs ++ remainder cs) ≡ 63 = omega (arith, length-append cs (remainder cs), remainder_long cs) in
    record {
      long = long;
      characters = characters_append cs (remainder cs) h (characters_remainder cs h);
      sums = λ k b. power_sum_value (58 + k) (cs ++ remainder cs) long ∙ remainder_value (power α (58 + k)) (root k b) cs;
    }

-- ---- the marks: none of them is before address 52

added_append : (us vs ms ns : List ℕ) → length us ≡ length ms → added (us ++ vs) (ms ++ ns) ≡ added us ms ++ added vs ns
unfolding added
added_append [] vs [] ns h = refl
added_append [] vs (m ∷ ms) ns h = absurd (omega arith)
added_append (u ∷ us) vs [] ns h = absurd (omega arith)
added_append (u ∷ us) vs (m ∷ ms) ns h = cons refl (added_append us vs ms ns (omega arith))

marks_apart : marks ≡ replicate 52 0 ++ drop 52 marks
unfolding marks
marks_apart = refl

pub marked_apart : (cs r : List ℕ) → length cs ≡ 52 → added (cs ++ r) marks ≡ cs ++ checks_of r
unfolding checks_of
marked_apart cs r l =
    ap (added (cs ++ r)) marks_apart ∙ added_append cs r (replicate 52 0) (drop 52 marks) l
    ∙ ap (λ (u : List ℕ). u ++ added r (drop 52 marks)) (added_none cs 52 l)

-- 52 characters and the checks of what the division leaves of them are a line
pub line_of_lem : (cs : List ℕ) → length cs ≡ 52 → Characters cs → Line (cs ++ checks_of (remainder cs))
line_of_lem cs l h = subst Line (marked_apart cs (remainder cs) l) (clean_line (cs ++ remainder cs) (clean_remainder cs l h))

-- ---- the text and the number

pub information_long : (t : List ℕ) (n : ℕ) → length t ≡ 50 → length (information t n) ≡ 52
unfolding information
information_long t n h = omega (arith, length-append t (n / 64 ∷ n % 64 ∷ []))

pub information_characters : (t : List ℕ) (n : ℕ) → Characters t → n ≤ 4095 → Characters (information t n)
unfolding information
information_characters t n h b = characters_append t (n / 64 ∷ n % 64 ∷ []) h two
  where
    two : Characters (n / 64 ∷ n % 64 ∷ [])
    two zero = omega arith
    two (suc zero) = omega arith
    two (suc (suc a)) = omega arith

numbered : (t : List ℕ) (n : ℕ) (r : List ℕ) → length t ≡ 50 → number ((t ++ n / 64 ∷ n % 64 ∷ []) ++ r) ≡ n
numbered t n r h =
    ap₂ (λ (x y : ℕ). x * 64 + y) (at 0 (omega arith)) (at 1 (omega arith)) ∙ div-add-mod' n 64
  where
    at : (i : ℕ) → i < 2 → get_or ((t ++ n / 64 ∷ n % 64 ∷ []) ++ r) (50 + i) 0 ≡ get_or (n / 64 ∷ n % 64 ∷ []) i 0
    at i b =
        get_or-append (t ++ n / 64 ∷ n % 64 ∷ []) r 0 (50 + i) (omega (arith, length-append t (n / 64 ∷ n % 64 ∷ [])))
        ∙ subst (λ (m : ℕ). get_or (t ++ n / 64 ∷ n % 64 ∷ []) (m + i) 0 ≡ get_or (n / 64 ∷ n % 64 ∷ []) i 0) h (get_or-append-add t (n / 64 ∷ n % 64 ∷ []) i 0)

texted : (t : List ℕ) (n : ℕ) (r : List ℕ) → length t ≡ 50 → text ((t ++ n / 64 ∷ n % 64 ∷ []) ++ r) ≡ t
texted t n r h =
    take-append-le 50 (t ++ n / 64 ∷ n % 64 ∷ []) r (omega (arith, length-append t (n / 64 ∷ n % 64 ∷ []))) ∙ take_at t (n / 64 ∷ n % 64 ∷ []) 50 h

-- the line that is made of them: they, and the checks of what the division leaves
unfoldable pub encoded : List ℕ → ℕ → List ℕ
encoded t n = information t n ++ checks_of (remainder (information t n))

pub encoded_line : (t : List ℕ) (n : ℕ) → length t ≡ 50 → Characters t → n ≤ 4095 → LineWith t n (encoded t n)
unfolding encoded information
encoded_line t n l h b =
    record {
      line = line_of_lem (information t n) (information_long t n l) (information_characters t n h b);
      its_text = texted t n (checks_of (remainder (information t n))) l;
      its_number = numbered t n (checks_of (remainder (information t n))) l;
    }
