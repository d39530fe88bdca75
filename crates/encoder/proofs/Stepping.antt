-- The laws of the register: one more character is one more step of the division; a step and the checks, character by character.
use mathlib.Core.Path.{◌≡◌, refl, sym, ap, ap₂, ◌∙◌}
use mathlib.Core.List.{List, [], ◌∷◌, ◌++◌, append_assoc}
use Prim.Native.Nat.{ℕ, zero, suc, ◌+◌}
use native.Mathlib.Numerals.{add-one}
use native.Mathlib.Omega.{arith}
use lib.ListN.{length, get_or, set, drop, replicate, length-append, length-replicate}
use Rattle.field.specs.Field.{sum, product}
use Rattle.field.proofs.Laws
use Rattle.code.specs.Word.{added, marks}
use Rattle.code.proofs.Words.{cons}
use Rattle.encoder.specs.Division.{plus, scaled, divide_once, divide, remainder}
use Rattle.encoder.specs.Register.{stepped, checks_of}
use Rattle.encoder.proofs.Division.{lower, lower_long, length_plus, length_scaled, plus_zeros, plus_parts, once_is, divide_plus, divide_zeros, divide_tail, divide_more, remainder_is}

-- ---- a step

-- the highest character held and the new one give the multiple of the generator that is taken away
pub stepped_is : (r : ℕ) (rs : List ℕ) (c : ℕ) → length rs ≡ 10 → stepped (r ∷ rs) c ≡ plus (rs ++ 0 ∷ []) (scaled (sum r c) lower)
unfolding stepped plus
stepped_is r rs c h =
    once_is (sum r c) (plus (rs ++ 0 ∷ []) (replicate 11 0))
    ∙ ap (λ (d : List ℕ). plus d (scaled (sum r c) lower)) (plus_zeros (rs ++ 0 ∷ []) 11 (omega (arith, length-append rs (0 ∷ []))))

pub stepped_long : (held : List ℕ) (c : ℕ) → length held ≡ 11 → length (stepped held c) ≡ 11
stepped_long [] c h = absurd (omega arith)
stepped_long (r ∷ rs) c h =
    let p : length rs ≡ 10 = omega arith in
    let q : length (rs ++ 0 ∷ []) ≡ 11 = omega (arith, length-append rs (0 ∷ [])) in
    ap length (stepped_is r rs c p)
    ∙ length_plus (rs ++ 0 ∷ []) (scaled (sum r c) lower) 0 (omega (arith, length_scaled (sum r c) lower, lower_long)) ∙ q

-- each place: the one after it comes in, and a multiple of the generator's coefficient is taken away
plus_get : (us bs : List ℕ) → length us ≡ length bs → (i : ℕ) → get_or (plus us bs) i 0 ≡ sum (get_or us i 0) (get_or bs i 0)
unfolding plus
plus_get [] [] h i = sym (Laws.sum_self 0)
plus_get [] (b ∷ bs) h i = absurd (omega arith)
plus_get (u ∷ us) [] h i = absurd (omega arith)
plus_get (u ∷ us) (b ∷ bs) h zero = refl
plus_get (u ∷ us) (b ∷ bs) h (suc i) = plus_get us bs (omega arith) i

scaled_get : (f : ℕ) (bs : List ℕ) (i : ℕ) → get_or (scaled f bs) i 0 ≡ product f (get_or bs i 0)
unfolding scaled
scaled_get f [] i = sym (Laws.product_zero f)
scaled_get f (b ∷ bs) zero = refl
scaled_get f (b ∷ bs) (suc i) = scaled_get f bs i

pushed_get : (rs : List ℕ) (i : ℕ) → get_or (rs ++ 0 ∷ []) i 0 ≡ get_or rs i 0
pushed_get [] zero = refl
pushed_get [] (suc i) = refl
pushed_get (r ∷ rs) zero = refl
pushed_get (r ∷ rs) (suc i) = pushed_get rs i

pub stepped_get : (held : List ℕ) (c : ℕ) → length held ≡ 11 → (i : ℕ)
    → get_or (stepped held c) i 0 ≡ sum (get_or held (suc i) 0) (product (sum (get_or held 0 0) c) (get_or lower i 0))
stepped_get [] c h i = absurd (omega arith)
stepped_get (r ∷ rs) c h i =
    ap (λ (l : List ℕ). get_or l i 0) (stepped_is r rs c (omega arith))
    ∙ plus_get (rs ++ 0 ∷ []) (scaled (sum r c) lower) (omega (arith, length-append rs (0 ∷ []), length_scaled (sum r c) lower, lower_long)) i
    ∙ ap₂ sum (pushed_get rs i) (scaled_get (sum r c) lower i)

-- ---- one more character

before_last : (cs : List ℕ) (c : ℕ) → divide (length cs) (cs ++ c ∷ replicate 11 0) ≡ plus (remainder cs ++ 0 ∷ []) (c ∷ replicate 11 0)
before_last cs c =
    ap (divide (length cs)) (sym (plus_parts cs (c ∷ replicate 11 0)))
    ∙ divide_plus (length cs) (cs ++ replicate 12 0) (replicate (length cs) 0 ++ c ∷ replicate 11 0)
    (length-append cs (replicate 12 0)
    ∙ sym (length-append (replicate (length cs) 0) (c ∷ replicate 11 0) ∙ ap (λ (n : ℕ). n + 12) (length-replicate (length cs) 0)))
    (omega (arith, length-append cs (replicate 12 0)))
    ∙ ap₂ plus
    (ap (divide (length cs)) (sym (append_assoc cs (replicate 11 0) (0 ∷ [])))
    ∙ divide_tail (length cs) (cs ++ replicate 11 0) (omega (arith, length-append cs (replicate 11 0)))
    ∙ ap (λ (l : List ℕ). l ++ 0 ∷ []) (sym (remainder_is cs)))
    (divide_zeros (length cs) (c ∷ replicate 11 0) (omega arith))

pub remainder_more : (cs : List ℕ) (c : ℕ) → remainder (cs ++ c ∷ []) ≡ stepped (remainder cs) c
unfolding stepped
remainder_more cs c =
    remainder_is (cs ++ c ∷ [])
    ∙ ap₂ divide (length-append cs (c ∷ []) ∙ add-one (length cs)) (append_assoc cs (c ∷ []) (replicate 11 0))
    ∙ divide_more (length cs) (cs ++ c ∷ replicate 11 0)
    ∙ ap divide_once (before_last cs c)

pub remainder_none : remainder [] ≡ replicate 11 0
unfolding divide
remainder_none = remainder_is []

-- ---- the marks, one at a time

pub added_none : (l : List ℕ) (n : ℕ) → length l ≡ n → added l (replicate n 0) ≡ l
unfolding added
added_none [] n h = refl
added_none (c ∷ cs) zero h = absurd (omega arith)
added_none (c ∷ cs) (suc n) h = cons (Laws.sum_zero c) (added_none cs n (omega arith))

added_mark : (l z : List ℕ) (i m : ℕ) → length l ≡ length z → added l (set z i m) ≡ set (added l z) i (sum (get_or l i 0) m)
unfolding added
added_mark [] z i m h = refl
added_mark (c ∷ cs) [] i m h = absurd (omega arith)
added_mark (c ∷ cs) (d ∷ ds) zero m h = refl
added_mark (c ∷ cs) (d ∷ ds) (suc i) m h = cons refl (added_mark cs ds i m (omega arith))

-- the marks of addresses 52 to 62
abbrev pub check_marks : List ℕ
check_marks = set (set (set (replicate 11 0) 0 32) 3 8) 10 1

check_marks_lem : drop 52 marks ≡ check_marks
unfolding marks
check_marks_lem = refl

pub checks_are : (held : List ℕ) → length held ≡ 11
    → checks_of held ≡ set (set (set held 0 (sum (get_or held 0 0) 32)) 3 (sum (get_or held 3 0) 8)) 10 (sum (get_or held 10 0) 1)
unfolding checks_of
checks_are held h =
    let z : List ℕ = replicate 11 0 in
    ap (added held) check_marks_lem
    ∙ added_mark held (set (set z 0 32) 3 8) 10 1 h
    ∙ ap (λ (l : List ℕ). set l 10 (sum (get_or held 10 0) 1)) (added_mark held (set z 0 32) 3 8 h)
    ∙ ap (λ (l : List ℕ). set (set l 3 (sum (get_or held 3 0) 8)) 10 (sum (get_or held 10 0) 1)) (added_mark held z 0 32 h)
    ∙ ap (λ (l : List ℕ). set (set (set l 0 (sum (get_or held 0 0) 32)) 3 (sum (get_or held 3 0) 8)) 10 (sum (get_or held 10 0) 1)) (added_none held 11 h)
