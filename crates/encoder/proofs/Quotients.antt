-- Long division is division: what it takes away is a multiple of the generator, and of such a multiple it leaves nothing.
use mathlib.Core.Path.{◌≡◌, refl, sym, ap, ◌∙◌}
use mathlib.Core.List.{List, [], ◌∷◌, ◌++◌}
use Prim.Native.Nat.{ℕ, zero, suc, ◌+◌, ◌≤◌}
use native.Mathlib.Nat.{zero-add}
use native.Mathlib.Omega.{arith}
use lib.ListN.{length, replicate, replicate-append-replicate}
use Rattle.field.specs.Field.{product}
use Rattle.field.proofs.Laws
use Rattle.code.specs.Word.{Characters}
use Rattle.code.proofs.Words.{cons}
use Rattle.encoder.specs.Division.{plus, scaled, divide_once, divide, left_of, times_generator}
use Rattle.encoder.proofs.Division.{lower, generator_is, lower_long, length_plus, length_scaled, zeros_plus, plus_zeros, once_is, once_long, characters_once}

-- ---- sums

plus_assoc : (us vs ws : List ℕ) → plus (plus us vs) ws ≡ plus us (plus vs ws)
unfolding plus
plus_assoc [] vs ws = refl
plus_assoc (u ∷ us) [] ws = refl
plus_assoc (u ∷ us) (v ∷ vs) [] = refl
plus_assoc (u ∷ us) (v ∷ vs) (w ∷ ws) = cons (Laws.sum_assoc u v w) (plus_assoc us vs ws)

plus_comm : (us vs : List ℕ) → plus us vs ≡ plus vs us
unfolding plus
plus_comm [] [] = refl
plus_comm [] (v ∷ vs) = refl
plus_comm (u ∷ us) [] = refl
plus_comm (u ∷ us) (v ∷ vs) = cons (Laws.sum_comm u v) (plus_comm us vs)

-- what is added twice goes away, where it is not the longer
plus_undo : (us vs : List ℕ) → length us ≤ length vs → plus us (plus us vs) ≡ vs
unfolding plus
plus_undo [] vs h = refl
plus_undo (u ∷ us) [] h = absurd (omega arith)
plus_undo (u ∷ us) (v ∷ vs) h = cons (Laws.sum_undo u v) (plus_undo us vs (omega arith))

-- ---- multiples of the generator

multiple_is : (q : ℕ) (qs : List ℕ) → times_generator (q ∷ qs) ≡ product q 1 ∷ plus (scaled q lower) (times_generator qs)
unfolding times_generator plus scaled
multiple_is q qs =
    ap (λ (g : List ℕ). plus (scaled q g) (0 ∷ times_generator qs)) generator_is ∙ cons (Laws.sum_zero (product q 1)) refl

pub multiple_long : (qs : List ℕ) → length (times_generator qs) ≡ length qs + 11
unfolding times_generator
multiple_long [] = refl
multiple_long (q ∷ qs) =
    let h = multiple_long qs in
    ap length (multiple_is q qs)
    ∙ ap suc
    (ap length (plus_comm (scaled q lower) (times_generator qs))
    ∙ length_plus (times_generator qs) (scaled q lower) (length qs) (omega (arith, length_scaled q lower, lower_long)) ∙ h)
    ∙ next (length qs)
  where
    next : (n : ℕ) → suc (n + 11) ≡ suc n + 11
    next n = omega arith

-- of a coefficient the low six bits count
scaled_low : (q : ℕ) (ps : List ℕ) → scaled (product q 1) ps ≡ scaled q ps
unfolding scaled
scaled_low q [] = refl
scaled_low q (p ∷ ps) =
    cons (ap (λ (x : ℕ). product x p) (Laws.product_comm q 1 ∙ Laws.one_product_low q) ∙ Laws.product_low q p) (scaled_low q ps)

-- a step takes away the highest coefficient's part
once_multiple : (q : ℕ) (qs : List ℕ) → divide_once (times_generator (q ∷ qs)) ≡ times_generator qs
once_multiple q qs =
    let t : List ℕ = times_generator qs in
    let m : List ℕ = scaled q lower in
    ap divide_once (multiple_is q qs) ∙ once_is (product q 1) (plus m t)
    ∙ ap (plus (plus m t)) (scaled_low q lower) ∙ plus_comm (plus m t) m
    ∙ plus_undo m t (omega (arith, length_scaled q lower, lower_long, multiple_long qs))

divide_multiple : (qs : List ℕ) → divide (length qs) (times_generator qs) ≡ replicate 11 0
unfolding divide times_generator
divide_multiple [] = refl
divide_multiple (q ∷ qs) = ap (divide (length qs)) (once_multiple q qs) ∙ divide_multiple qs

-- the division leaves nothing of a multiple
pub multiple_left : (qs : List ℕ) → left_of (times_generator qs) ≡ replicate 11 0
unfolding left_of
multiple_left qs = ap (λ (n : ℕ). divide n (times_generator qs)) (omega (arith, multiple_long qs)) ∙ divide_multiple qs

-- ---- what the division takes away

-- the highest coefficients, one after the other
unfoldable pub quotients : ℕ → List ℕ → List ℕ
quotients zero d = []
quotients (suc n) [] = []
quotients (suc n) (c ∷ d) = c ∷ quotients n (divide_once (c ∷ d))

no_multiple : times_generator [] ≡ replicate 11 0
unfolding times_generator
no_multiple = refl

pub quotients_long : (n : ℕ) (d : List ℕ) → length d ≡ n + 11 → length (quotients n d) ≡ n
unfolding quotients
quotients_long zero d h = refl
quotients_long (suc n) [] h = absurd (omega arith)
quotients_long (suc n) (c ∷ d) h = ap suc (quotients_long n (divide_once (c ∷ d)) (omega (arith, once_long c d (omega arith))))

headed : (x : ℕ) (us vs : List ℕ) → plus (x ∷ us) (0 ∷ vs) ≡ x ∷ plus us vs
unfolding plus
headed x us vs = cons (Laws.sum_zero x) refl

-- a polynomial is a multiple of the generator and what is left
pub apart : (n : ℕ) (d : List ℕ) → length d ≡ n + 11 → Characters d → plus (times_generator (quotients n d)) (replicate n 0 ++ divide n d) ≡ d
unfolding quotients divide
apart zero d h c =
    ap (λ (z : List ℕ). plus z d) (no_multiple ∙ ap (λ (n : ℕ). replicate n 0) (sym (h ∙ zero-add 11))) ∙ zeros_plus d
apart (suc n) [] h c = absurd (omega arith)
apart (suc n) (c₀ ∷ d) h c =
    let e : List ℕ = divide_once (c₀ ∷ d) in
    let t : List ℕ = times_generator (quotients n e) in
    let m : List ℕ = scaled c₀ lower in
    let r : List ℕ = replicate n 0 ++ divide n e in
    let ih : plus t r ≡ e = apart n e (omega (arith, once_long c₀ d (omega arith))) (characters_once (c₀ ∷ d) c) in
    ap (λ (l : List ℕ). plus l (0 ∷ r)) (multiple_is c₀ (quotients n e))
    ∙ headed (product c₀ 1) (plus m t) r
    ∙ cons (Laws.product_one c₀ (c 0))
    (plus_assoc m t r ∙ ap (plus m) (ih ∙ once_is c₀ d ∙ plus_comm d m) ∙ plus_undo m d (omega (arith, length_scaled c₀ lower, lower_long)))

-- and where nothing is left, a multiple alone
pub left_none : (n : ℕ) (d : List ℕ) → length d ≡ n + 11 → Characters d → divide n d ≡ replicate 11 0 → d ≡ times_generator (quotients n d)
left_none n d h c e =
    sym (apart n d h c)
    ∙ ap (λ (r : List ℕ). plus (times_generator (quotients n d)) (replicate n 0 ++ r)) e
    ∙ ap (plus (times_generator (quotients n d))) (replicate-append-replicate n 11 0)
    ∙ plus_zeros (times_generator (quotients n d)) (n + 11) (omega (arith, multiple_long (quotients n d), quotients_long n d h))
