-- The bench sheet's line of number 65: its checks, computed by the register's steps.
use mathlib.Core.Path.{◌≡◌, refl, sym, ap, ◌∙◌, subst}
use mathlib.Core.List.{List, [], ◌∷◌, ◌++◌, append_assoc, append-nil}
use Prim.Native.Nat.{ℕ}
use native.Mathlib.Omega.{arith}
use lib.Dec.{T, ltb, ltb→lt}
use lib.ListN.{length, get_or, drop, set, replicate}
use Rattle.numbers.proofs.Range.{each, each_at}
use Rattle.field.specs.Field.{sum, times_x, shifted, product}
use Rattle.code.specs.Word.{Characters, added, marks}
use Rattle.code.proofs.Words.{characters_below}
use Rattle.encoder.specs.Division.{plus, scaled, remainder}
use Rattle.encoder.specs.Register.{stepped, checks_of}
use Rattle.encoder.specs.Promises.{LineWith}
use Rattle.encoder.specs.Inside.{information}
use Rattle.encoder.proofs.Division.{lower, remainder_long}
use Rattle.encoder.proofs.Stepping.{stepped_is, remainder_none, remainder_more}
use Rattle.encoder.proofs.Encoding.{encoded, encoded_line}
use Rattle.encoder.proofs.Theorems.{one_line}

-- ---- the remainder by the register's steps, each written out

fed : List ℕ → List ℕ → List ℕ
fed held [] = held
fed [] (c ∷ cs) = []
fed (r ∷ rs) (c ∷ cs) = fed (plus (rs ++ 0 ∷ []) (scaled (sum r c) lower)) cs

fed_is : (cs ds held : List ℕ) → held ≡ remainder ds → fed held cs ≡ remainder (ds ++ cs)
unfolding fed
fed_is [] ds held e = e ∙ ap remainder (sym (append-nil ds))
fed_is (c ∷ cs) ds [] e = absurd (omega (arith, ap length e, remainder_long ds))
fed_is (c ∷ cs) ds (r ∷ rs) e =
    fed_is cs (ds ++ c ∷ []) (plus (rs ++ 0 ∷ []) (scaled (sum r c) lower))
    (sym (stepped_is r rs c (omega (arith, ap length e, remainder_long ds))) ∙ ap (λ (l : List ℕ). stepped l c) e ∙ sym (remainder_more ds c))
    ∙ ap remainder (append_assoc ds (c ∷ []) cs)

by_steps : (cs : List ℕ) → remainder cs ≡ fed (replicate 11 0) cs
by_steps cs = sym (fed_is cs [] (replicate 11 0) (sym remainder_none))

-- ---- text 1 at 5, 6, 14, 15, 23, 24, 32, 33, 41, 42, else 0; number 65

-- 1 at each of these addresses
abbrev ones : List ℕ → List ℕ → List ℕ
ones t [] = t
ones t (a ∷ rest) = ones (set t a 1) rest

abbrev pub text65 : List ℕ
text65 = ones (replicate 50 0) (5 ∷ 6 ∷ 14 ∷ 15 ∷ 23 ∷ 24 ∷ 32 ∷ 33 ∷ 41 ∷ 42 ∷ [])

abbrev pub checks65 : List ℕ
checks65 = 32 ∷ 0 ∷ 0 ∷ 8 ∷ 0 ∷ 0 ∷ 0 ∷ 1 ∷ 1 ∷ 0 ∷ 1 ∷ []

computed : checks_of (fed (replicate 11 0) (information text65 65)) ≡ checks65
unfolding fed information checks_of added marks plus scaled lower product shifted times_x sum
computed = refl

text_test : T (each 50 (λ a. ltb (get_or text65 a 0) 64))
text_test = tt

text_characters : Characters text65
text_characters = characters_below text65 50 (omega arith) (λ a h. ltb→lt (get_or text65 a 0) 64 (each_at 50 (λ a. ltb (get_or text65 a 0) 64) text_test a h))

information_65 : information text65 65 ++ checks65 ≡ text65 ++ 1 ∷ 1 ∷ checks65
unfolding information
information_65 = refl

encoded_65 : encoded text65 65 ≡ text65 ++ 1 ∷ 1 ∷ checks65
unfolding encoded
encoded_65 = ap (λ (k : List ℕ). information text65 65 ++ k) (ap checks_of (by_steps (information text65 65)) ∙ computed) ∙ information_65

-- the line with this text and this number
pub line_65 : LineWith text65 65 (text65 ++ 1 ∷ 1 ∷ checks65)
line_65 = subst (LineWith text65 65) encoded_65 (encoded_line text65 65 refl text_characters (omega arith))

-- so these are its checks
pub checks_65 : (l : List ℕ) → LineWith text65 65 l → drop 52 l ≡ checks65
checks_65 l p = ap (drop 52) (one_line text65 65 l (text65 ++ 1 ∷ 1 ∷ checks65) p line_65)
