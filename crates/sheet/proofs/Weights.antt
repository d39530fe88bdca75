-- How many characters of a word are not 0: where two words agree but there, where it begins with 0, and where their addresses are named.
use mathlib.Core.Path.{◌≡◌, refl, ap, ◌∙◌, subst}
use mathlib.Core.Logic.{◌⊎◌, inl, inr, ⊎_elim}
use mathlib.Core.Bool.{Bool, true, false}
use mathlib.Core.List.{List, [], ◌∷◌}
use Prim.Native.Nat.{ℕ, zero, suc, ◌+◌, ◌-◌, ◌<◌, ◌≤◌}
use native.Mathlib.Nat.{le_trans, add-le-add}
use native.Mathlib.Omega.{arith}
use lib.ListN.{length, get_or, set, length-set}
use lib.Seq.{get_or-set_same, get_or-set_other}
use lib.Dec.{eqb}
use borrow.Author.Tests.{eq-eqb}
use Rattle.numbers.proofs.Cases.{same_or_not}
use Rattle.polynomial.specs.Sums.{weight, nonzero}
use Rattle.polynomial.proofs.Vandermonde.{nonzero_le}
use Rattle.code.specs.Word.{distance, differs, listed}
use Rattle.sheet.specs.Damage.{OneOf}

some_weight : (v : ℕ) → (v ≡ 0 → ⊥) → 1 ≤ nonzero v
unfolding nonzero
some_weight zero d = absurd (d refl)
some_weight (suc v) d = omega arith

differs_most : (t : Bool) → differs t ≤ 1
differs_most true = omega arith
differs_most false = omega arith

-- words that agree but where a third is not 0 are no further apart than it has such characters
pub agree_below : (f g h : ℕ → ℕ) (b n : ℕ) → ((i : ℕ) → i < b + n → h i ≡ 0 → f i ≡ g i)
    → distance (listed f b n) (listed g b n) ≤ weight (listed h b n)
unfolding listed distance weight
agree_below f g h b zero e = omega arith
agree_below f g h b (suc n) e = add-le-add (⊎_elim same other (same_or_not (h b) 0)) (agree_below f g h (suc b) n (λ i l. e i (omega arith)))
  where
    same : h b ≡ 0 → differs (eqb (f b) (g b)) ≤ nonzero (h b)
    same z = rw (eq-eqb (f b) (g b) (e b (omega arith) z)) (omega arith)

    other : (h b ≡ 0 → ⊥) → differs (eqb (f b) (g b)) ≤ nonzero (h b)
    other d = le_trans (differs_most (eqb (f b) (g b))) (some_weight (h b) d)

-- a word whose first n characters are 0 has no more others than it is longer
pub weight_past : (n : ℕ) (w : List ℕ) → ((a : ℕ) → a < n → get_or w a 0 ≡ 0) → weight w ≤ length w - n
unfolding weight nonzero
weight_past n [] h = omega arith
weight_past zero (c ∷ cs) h = let r = weight_past zero cs (λ a l. absurd (omega arith)) in let k = nonzero_le c in omega arith
weight_past (suc n) (c ∷ cs) h =
    let r = weight_past n cs (λ a l. h (suc a) (omega arith)) in
    let z : nonzero c ≡ 0 = ap nonzero (h 0 (omega arith)) in
    omega arith

-- one character made 0
weight_set : (w : List ℕ) (k : ℕ) → weight w ≤ 1 + weight (set w k 0)
unfolding weight nonzero
weight_set [] k = omega arith
weight_set (c ∷ cs) zero = let l = nonzero_le c in omega arith
weight_set (c ∷ cs) (suc k) = let l = weight_set cs k in omega arith

-- a word that is 0 but at addresses that a list names has no more others than the list is long
pub weight_named : (w ks : List ℕ) → ((i : ℕ) → i < length w → OneOf i ks ⊎ (get_or w i 0 ≡ 0)) → weight w ≤ length ks
weight_named w [] h =
    let l = weight_past (length w) w (λ i b. ⊎_elim (λ (n : OneOf i []). absurd n) (λ (z : get_or w i 0 ≡ 0). z) (h i b)) in
    omega arith
weight_named w (k ∷ ks) h =
    let l = weight_set w k in
    let r = weight_named (set w k 0) ks (λ i b. rest i (subst (λ (n : ℕ). i < n) (length-set w k 0) b)) in
    omega arith
  where
    rest : (i : ℕ) → i < length w → OneOf i ks ⊎ (get_or (set w k 0) i 0 ≡ 0)
    rest i b =
        ⊎_elim (λ (e : i ≡ k). inr (subst (λ (a : ℕ). get_or (set w a 0) i 0 ≡ 0) e (get_or-set_same w i 0 0 b)))
        (λ (d : i ≡ k → ⊥).
        ⊎_elim (⊎_elim (λ (e : i ≡ k). absurd (d e)) inl) (λ (z : get_or w i 0 ≡ 0). inr (get_or-set_other w k i 0 0 d ∙ z)) (h i b))
        (same_or_not i k)
