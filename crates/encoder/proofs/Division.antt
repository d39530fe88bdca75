-- The laws of long division: the generator's coefficients, what a step takes away, that the division keeps the value at a root of the generator, and that it adds up.
use mathlib.Core.Path.{◌≡◌, refl, sym, ap, ap₂, ◌∙◌, subst}
use mathlib.Core.List.{List, [], ◌∷◌, ◌++◌}
use Prim.Native.Nat.{ℕ, zero, suc, ◌+◌, ◌-◌, ◌<◌, ◌≤◌}
use native.Mathlib.Nat.{zero-add}
use native.Mathlib.Omega.{arith}
use lib.Dec.{T, eqb, eqb→eq}
use lib.ListN.{length, get_or, drop, replicate, length-append}
use Rattle.numbers.proofs.Range.{each, each_at}
use Rattle.field.specs.Field.{sum, times_x, shifted, product, α, power}
use Rattle.field.proofs.Laws
use Rattle.polynomial.specs.Polynomial.{value_at}
use Rattle.polynomial.proofs.Horner.{value_append, value_zeros}
use Rattle.code.specs.Word.{Characters}
use Rattle.code.proofs.Words.{cons}
use Rattle.encoder.specs.Division.{plus, scaled, times_root, rooted, generator, divide_once, divide, left_of, remainder}

-- ---- the generator

-- what follows its highest coefficient, which is 1
abbrev pub below : List ℕ
below = 20 ∷ 61 ∷ 3 ∷ 28 ∷ 23 ∷ 23 ∷ 28 ∷ 3 ∷ 61 ∷ 20 ∷ 1 ∷ []

unfoldable pub lower : List ℕ
lower = below

pub generator_is : generator ≡ 1 ∷ lower
unfolding generator rooted times_root plus scaled lower power product shifted times_x sum
generator_is = refl

pub lower_long : length lower ≡ 11
unfolding lower
lower_long = refl

-- computed: it is 0 at each of the eleven places
root_test : T (each 11 (λ k. eqb (value_at (power α (58 + k)) (1 ∷ lower)) 0))
unfolding value_at lower power product shifted times_x sum
root_test = tt

pub root : (k : ℕ) → k < 11 → value_at (power α (58 + k)) (1 ∷ lower) ≡ 0
root k h = eqb→eq (value_at (power α (58 + k)) (1 ∷ lower)) 0 (each_at 11 (λ k. eqb (value_at (power α (58 + k)) (1 ∷ lower)) 0) root_test k h)

-- ---- sums and multiples

pub length_plus : (us bs : List ℕ) (k : ℕ) → length us ≡ length bs + k → length (plus us bs) ≡ length us
unfolding plus
length_plus [] [] k h = refl
length_plus [] (b ∷ bs) k h = absurd (omega arith)
length_plus (u ∷ us) [] k h = refl
length_plus (u ∷ us) (b ∷ bs) k h = ap suc (length_plus us bs k (omega arith))

pub length_scaled : (f : ℕ) (bs : List ℕ) → length (scaled f bs) ≡ length bs
unfolding scaled
length_scaled f [] = refl
length_scaled f (b ∷ bs) = ap suc (length_scaled f bs)

plus_nil : (us : List ℕ) → plus us [] ≡ us
unfolding plus
plus_nil [] = refl
plus_nil (u ∷ us) = refl

pub plus_zeros : (d : List ℕ) (n : ℕ) → n ≤ length d → plus d (replicate n 0) ≡ d
unfolding plus
plus_zeros d zero h = plus_nil d
plus_zeros [] (suc n) h = absurd (omega arith)
plus_zeros (u ∷ d) (suc n) h = cons (Laws.sum_zero u) (plus_zeros d n (omega arith))

pub zeros_plus : (t : List ℕ) → plus (replicate (length t) 0) t ≡ t
unfolding plus
zeros_plus [] = refl
zeros_plus (b ∷ t) = cons (Laws.zero_sum b) (zeros_plus t)

-- what is added to itself goes away
pub plus_self : (t : List ℕ) → plus t t ≡ replicate (length t) 0
unfolding plus
plus_self [] = refl
plus_self (b ∷ t) = cons (Laws.sum_self b) (plus_self t)

-- two parts, each with zeros for the other, make the whole
pub plus_parts : (us t : List ℕ) → plus (us ++ replicate (length t) 0) (replicate (length us) 0 ++ t) ≡ us ++ t
unfolding plus
plus_parts [] t = zeros_plus t
plus_parts (u ∷ us) t = cons (Laws.sum_zero u) (plus_parts us t)

-- 0 times a polynomial takes nothing away
plus_none : (d l : List ℕ) → length l ≤ length d → plus d (scaled 0 l) ≡ d
unfolding plus scaled
plus_none [] [] h = refl
plus_none [] (b ∷ l) h = absurd (omega arith)
plus_none (u ∷ d) [] h = refl
plus_none (u ∷ d) (b ∷ l) h = cons (ap (sum u) (Laws.zero_product b) ∙ Laws.sum_zero u) (plus_none d l (omega arith))

plus_tail : (d l : List ℕ) → length l ≤ length d → plus (d ++ 0 ∷ []) l ≡ plus d l ++ 0 ∷ []
unfolding plus
plus_tail [] [] h = refl
plus_tail [] (b ∷ l) h = absurd (omega arith)
plus_tail (u ∷ d) [] h = refl
plus_tail (u ∷ d) (b ∷ l) h = cons refl (plus_tail d l (omega arith))

pub characters_plus : (us bs : List ℕ) → Characters us → Characters bs → Characters (plus us bs)
unfolding plus
characters_plus [] bs hu hb a = hb a
characters_plus (u ∷ us) [] hu hb a = hu a
characters_plus (u ∷ us) (b ∷ bs) hu hb zero = Laws.sum_lt u b (hu 0) (hb 0)
characters_plus (u ∷ us) (b ∷ bs) hu hb (suc a) = characters_plus us bs (λ i. hu (suc i)) (λ i. hb (suc i)) a

characters_scaled : (f : ℕ) (bs : List ℕ) → Characters (scaled f bs)
unfolding scaled
characters_scaled f [] a = omega arith
characters_scaled f (b ∷ bs) zero = Laws.product_lt f b
characters_scaled f (b ∷ bs) (suc a) = characters_scaled f bs a

-- ---- a step

once_nil : divide_once [] ≡ []
unfolding divide_once
once_nil = refl

-- the highest coefficient, and what is taken away below it
pub once_is : (c : ℕ) (d : List ℕ) → divide_once (c ∷ d) ≡ plus d (scaled c lower)
unfolding divide_once plus scaled
once_is c d = ap (λ (g : List ℕ). drop 1 (plus (c ∷ d) (scaled c g))) generator_is

-- the place that is left out holds 0
pub highest_goes : (c : ℕ) → c < 64 → sum c (product c 1) ≡ 0
highest_goes c h = ap (sum c) (Laws.product_one c h) ∙ Laws.sum_self c

plus_long : (c : ℕ) (d : List ℕ) → 11 ≤ length d → length (plus d (scaled c lower)) ≡ length d
plus_long c d h = length_plus d (scaled c lower) (length d - 11) (omega (arith, length_scaled c lower, lower_long))

pub once_long : (c : ℕ) (d : List ℕ) → 11 ≤ length d → length (divide_once (c ∷ d)) ≡ length d
once_long c d h = ap length (once_is c d) ∙ plus_long c d h

pub divide_long : (n : ℕ) (d : List ℕ) → length d ≡ n + 11 → length (divide n d) ≡ 11
unfolding divide
divide_long zero d h = h ∙ zero-add 11
divide_long (suc n) [] h = absurd (omega arith)
divide_long (suc n) (c ∷ d) h = divide_long n (divide_once (c ∷ d)) (omega (arith, once_long c d (omega arith)))

pub divide_more : (n : ℕ) (d : List ℕ) → divide (suc n) d ≡ divide_once (divide n d)
unfolding divide
divide_more zero d = refl
divide_more (suc n) d = divide_more n (divide_once d)

pub characters_once : (d : List ℕ) → Characters d → Characters (divide_once d)
characters_once [] h a = subst (λ (l : List ℕ). get_or l a 0 < 64) (sym once_nil) (omega arith)
characters_once (c ∷ d) h a =
    subst (λ (l : List ℕ). get_or l a 0 < 64) (sym (once_is c d)) (characters_plus d (scaled c lower) (λ i. h (suc i)) (characters_scaled c lower) a)

pub characters_divide : (n : ℕ) (d : List ℕ) → Characters d → Characters (divide n d)
unfolding divide
characters_divide zero d h = h
characters_divide (suc n) d h = characters_divide n (divide_once d) (characters_once d h)

-- the remainder of x^11 times a polynomial, by as many steps as it has coefficients
pub remainder_is : (cs : List ℕ) → remainder cs ≡ divide (length cs) (cs ++ replicate 11 0)
unfolding remainder left_of
remainder_is cs = ap (λ (n : ℕ). divide n (cs ++ replicate 11 0)) (omega (arith, length-append cs (replicate 11 0)))

pub remainder_long : (cs : List ℕ) → length (remainder cs) ≡ 11
remainder_long cs = ap length (remainder_is cs) ∙ divide_long (length cs) (cs ++ replicate 11 0) (length-append cs (replicate 11 0))

-- ---- values: the division keeps the value at a root of the generator

plus_step : (u b m w s t : ℕ) → sum (product (sum u b) (product w m)) (sum s (product t m)) ≡ sum (sum (product u (product w m)) s) (product (sum (product b w) t) m)
plus_step u b m w s t = simp Laws.ring

value_plus : (x : ℕ) (us bs : List ℕ) (k : ℕ) → length us ≡ length bs + k
    → value_at x (plus us bs) ≡ sum (value_at x us) (product (value_at x bs) (power x k))
unfolding value_at plus
value_plus x [] [] k h = simp Laws.ring
value_plus x [] (b ∷ bs) k h = absurd (omega arith)
value_plus x (u ∷ us) [] k h = sym (ap (sum (value_at x (u ∷ us))) (Laws.zero_product (power x k)) ∙ Laws.sum_zero (value_at x (u ∷ us)))
value_plus x (u ∷ us) (b ∷ bs) k h =
    let same : length us ≡ length bs + k = omega arith in
    ap₂ sum
    (ap (λ (n : ℕ). product (sum u b) (power x n)) (length_plus us bs k same ∙ same)
    ∙ ap (product (sum u b)) (Laws.power_add x (length bs) k))
    (value_plus x us bs k same)
    ∙ plus_step u b (power x k) (power x (length bs)) (value_at x us) (value_at x bs)
    ∙ ap (λ (t : ℕ). sum (sum (product u t) (value_at x us)) (product (sum (product b (power x (length bs))) (value_at x bs)) (power x k)))
    (sym (ap (power x) same ∙ Laws.power_add x (length bs) k))

value_scaled : (x f : ℕ) (bs : List ℕ) → value_at x (scaled f bs) ≡ product f (value_at x bs)
unfolding value_at scaled
value_scaled x f [] = sym (Laws.product_zero f)
value_scaled x f (b ∷ bs) =
    ap₂ sum (ap (λ (n : ℕ). product (product f b) (power x n)) (length_scaled f bs) ∙ Laws.product_assoc f b (power x (length bs))) (value_scaled x f bs)
    ∙ sym (Laws.product_sum f (product b (power x (length bs))) (value_at x bs))

-- at a root of the generator, x^11 is what is below it
lower_at : (x : ℕ) → value_at x (1 ∷ lower) ≡ 0 → value_at x lower ≡ power x 11
unfolding value_at lower
lower_at x e = sym (sym (Laws.one_product (power x 11) (Laws.power_lt x 11)) ∙ Laws.sum_eq (product 1 (power x 11)) (value_at x lower) e)

once_value : (x c : ℕ) (d : List ℕ) (k : ℕ) → value_at x (1 ∷ lower) ≡ 0 → length d ≡ 11 + k → value_at x (divide_once (c ∷ d)) ≡ value_at x (c ∷ d)
unfolding value_at
once_value x c d k e h =
    ap (value_at x) (once_is c d)
    ∙ value_plus x d (scaled c lower) k (h ∙ ap (λ (n : ℕ). n + k) (sym (length_scaled c lower ∙ lower_long)))
    ∙ ap (λ (t : ℕ). sum (value_at x d) (product t (power x k))) (value_scaled x c lower ∙ ap (product c) (lower_at x e))
    ∙ Laws.sum_comm (value_at x d) (product (product c (power x 11)) (power x k))
    ∙ ap (λ (t : ℕ). sum t (value_at x d))
    (Laws.product_assoc c (power x 11) (power x k) ∙ ap (product c) (sym (ap (power x) h ∙ Laws.power_add x 11 k)))

pub divide_value : (x : ℕ) → value_at x (1 ∷ lower) ≡ 0 → (n : ℕ) (d : List ℕ) → length d ≡ n + 11 → value_at x (divide n d) ≡ value_at x d
unfolding divide
divide_value x e zero d h = refl
divide_value x e (suc n) [] h = absurd (omega arith)
divide_value x e (suc n) (c ∷ d) h =
    divide_value x e n (divide_once (c ∷ d)) (omega (arith, once_long c d (omega arith))) ∙ once_value x c d n e (omega arith)

-- characters and their remainder have the value 0 at each root
pub remainder_value : (x : ℕ) → value_at x (1 ∷ lower) ≡ 0 → (cs : List ℕ) → value_at x (cs ++ remainder cs) ≡ 0
remainder_value x e cs =
    value_append x cs (remainder cs)
    ∙ ap₂ sum
    (ap (λ (n : ℕ). product (value_at x cs) (power x n)) (remainder_long cs)
    ∙ sym (Laws.sum_zero (product (value_at x cs) (power x 11)))
    ∙ ap (sum (product (value_at x cs) (power x 11))) (sym (value_zeros x 11))
    ∙ sym (value_append x cs (replicate 11 0)))
    (ap (value_at x) (remainder_is cs) ∙ divide_value x e (length cs) (cs ++ replicate 11 0) (length-append cs (replicate 11 0)))
    ∙ Laws.sum_self (value_at x (cs ++ replicate 11 0))

-- ---- the division adds up

mix_head : (x y c f b : ℕ) → sum (sum x y) (product (sum c f) b) ≡ sum (sum x (product c b)) (sum y (product f b))
mix_head x y c f b = simp Laws.ring

scaled_sum : (c f : ℕ) (l : List ℕ) → scaled (sum c f) l ≡ plus (scaled c l) (scaled f l)
unfolding scaled plus
scaled_sum c f [] = refl
scaled_sum c f (b ∷ l) = cons (Laws.sum_product c f b) (scaled_sum c f l)

plus_mix : (c f : ℕ) (d e l : List ℕ) → length d ≡ length e → plus (plus d e) (scaled (sum c f) l) ≡ plus (plus d (scaled c l)) (plus e (scaled f l))
unfolding scaled plus
plus_mix c f [] [] l h = scaled_sum c f l
plus_mix c f [] (y ∷ e) l h = absurd (omega arith)
plus_mix c f (x ∷ d) [] l h = absurd (omega arith)
plus_mix c f (x ∷ d) (y ∷ e) [] h = refl
plus_mix c f (x ∷ d) (y ∷ e) (b ∷ l) h = cons (mix_head x y c f b) (plus_mix c f d e l (omega arith))

once_plus : (c f : ℕ) (d e : List ℕ) → length d ≡ length e → divide_once (plus (c ∷ d) (f ∷ e)) ≡ plus (divide_once (c ∷ d)) (divide_once (f ∷ e))
unfolding plus
once_plus c f d e h = once_is (sum c f) (plus d e) ∙ plus_mix c f d e lower h ∙ sym (ap₂ plus (once_is c d) (once_is f e))

pub divide_plus : (n : ℕ) (d e : List ℕ) → length d ≡ length e → n + 11 ≤ length d → divide n (plus d e) ≡ plus (divide n d) (divide n e)
unfolding divide
divide_plus zero d e h l = refl
divide_plus (suc n) [] e h l = absurd (omega arith)
divide_plus (suc n) (c ∷ d) [] h l = absurd (omega arith)
divide_plus (suc n) (c ∷ d) (f ∷ e) h l =
    let k : length d ≡ length e = omega arith in
    let p = once_long c d (omega arith) in
    let q = once_long f e (omega arith) in
    ap (divide n) (once_plus c f d e k) ∙ divide_plus n (divide_once (c ∷ d)) (divide_once (f ∷ e)) (p ∙ k ∙ sym q) (omega arith)

-- zeros in front are passed over
pub divide_zeros : (n : ℕ) (t : List ℕ) → 11 ≤ length t → divide n (replicate n 0 ++ t) ≡ t
unfolding divide
divide_zeros zero t h = refl
divide_zeros (suc n) t h =
    ap (divide n) (once_is 0 (replicate n 0 ++ t) ∙ plus_none (replicate n 0 ++ t) lower (omega (arith, length-append (replicate n 0) t, lower_long)))
    ∙ divide_zeros n t h

-- a 0 behind stays there
pub divide_tail : (n : ℕ) (d : List ℕ) → n + 11 ≤ length d → divide n (d ++ 0 ∷ []) ≡ divide n d ++ 0 ∷ []
unfolding divide
divide_tail zero d h = refl
divide_tail (suc n) [] h = absurd (omega arith)
divide_tail (suc n) (c ∷ d) h =
    ap (divide n)
    (once_is c (d ++ 0 ∷ []) ∙ plus_tail d (scaled c lower) (omega (arith, length_scaled c lower, lower_long)) ∙ ap (λ (l : List ℕ). l ++ 0 ∷ []) (sym (once_is c d)))
    ∙ divide_tail n (divide_once (c ∷ d)) (omega (arith, once_long c d (omega arith)))
