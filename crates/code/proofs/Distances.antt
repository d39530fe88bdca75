-- The distance of two words is the weight of their sum; what follows from it.
use mathlib.Core.Path.{◌≡◌, refl, sym, ap, ap₂, ◌∙◌}
use mathlib.Core.Bool.{Bool, true, false}
use mathlib.Core.List.{List, [], ◌∷◌}
use Prim.Native.Nat.{ℕ, zero, suc, ◌+◌, ◌-◌, ◌≤◌}
use native.Mathlib.Nat.{le_trans}
use native.Mathlib.Omega.{arith}
use lib.ListN.{length, take, set}
use lib.Dec.{eqb}
use borrow.Author.Tests.{eqb-true, eqb-false, eq-eqb}
use Rattle.field.specs.Field.{sum}
use Rattle.field.proofs.Laws
use Rattle.polynomial.specs.Sums.{nonzero, weight, Zeros}
use Rattle.polynomial.proofs.Vandermonde.{nonzero_le}
use Rattle.code.specs.Word.{added, differs, distance}
use Rattle.code.proofs.Words.{added_comm, added_four, added_both, added_twice, added_self, added_zeros}

-- ---- the weight

nonzero_zero : (v : ℕ) → nonzero v ≡ 0 → v ≡ 0
unfolding nonzero
nonzero_zero zero e = refl
nonzero_zero (suc v) e = absurd (omega arith)

nonzero_one : (v : ℕ) → (v ≡ 0 → ⊥) → nonzero v ≡ 1
unfolding nonzero
nonzero_one zero d = absurd (d refl)
nonzero_one (suc v) d = refl

nonzero_sum : (u v : ℕ) → nonzero (sum u v) ≤ nonzero u + nonzero v
unfolding nonzero
nonzero_sum zero v = rw (Laws.zero_sum v) (omega arith)
nonzero_sum (suc u) v = le_trans (nonzero_le (sum (suc u) v)) (omega arith)

pub weight_le : (w : List ℕ) → weight w ≤ length w
unfolding weight
weight_le [] = omega arith
weight_le (c ∷ cs) = let h = nonzero_le c in let r = weight_le cs in omega arith

pub weight_zeros : (w : List ℕ) → Zeros w → weight w ≡ 0
unfolding weight nonzero
weight_zeros [] z = refl
weight_zeros (c ∷ cs) z = ap₂ (λ (m n : ℕ). m + n) (ap nonzero z.0) (weight_zeros cs z.1)

pub weight_none : (w : List ℕ) → weight w ≡ 0 → Zeros w
unfolding weight
weight_none [] e = tt
weight_none (c ∷ cs) e = (nonzero_zero c (omega arith), weight_none cs (omega arith))

pub weight_added : (u v : List ℕ) → weight (added u v) ≤ weight u + weight v
unfolding added weight
weight_added [] v = omega arith
weight_added (c ∷ cs) [] = omega arith
weight_added (c ∷ cs) (d ∷ ds) = let h = nonzero_sum c d in let r = weight_added cs ds in omega arith

-- ---- the distance

differs_at : (c d : ℕ) → differs (eqb c d) ≡ nonzero (sum c d)
unfolding nonzero
differs_at c d = go (eqb c d) refl
  where
    go : (b : Bool) → eqb c d ≡ b → differs b ≡ nonzero (sum c d)
    go true e = ap nonzero (sym (ap (λ (x : ℕ). sum x d) (eqb-true c d e) ∙ Laws.sum_self d))
    go false e = sym (nonzero_one (sum c d) (λ z. eqb-false c d e (Laws.sum_eq c d z)))

pub distance_weight : (u v : List ℕ) → distance u v ≡ weight (added u v)
unfolding distance added weight
distance_weight [] v = refl
distance_weight (c ∷ cs) [] = refl
distance_weight (c ∷ cs) (d ∷ ds) = ap₂ (λ (m n : ℕ). m + n) (differs_at c d) (distance_weight cs ds)

pub distance_comm : (u v : List ℕ) → distance u v ≡ distance v u
distance_comm u v = distance_weight u v ∙ ap weight (added_comm u v) ∙ sym (distance_weight v u)

pub distance_self : (u : List ℕ) → distance u u ≡ 0
distance_self u = distance_weight u u ∙ weight_zeros (added u u) (added_self u)

differs_le : (c d : ℕ) → differs (eqb c d) ≤ 1
differs_le c d = let e = differs_at c d in let h = nonzero_le (sum c d) in omega arith

-- one character changed
pub distance_set : (u : List ℕ) (a c : ℕ) → distance u (set u a c) ≤ 1
unfolding distance
distance_set [] a c = omega arith
distance_set (x ∷ u) zero c = let e = distance_self u in let l = differs_le x c in omega arith
distance_set (x ∷ u) (suc a) c =
    let l = distance_set u a c in
    let e : differs (eqb x x) ≡ 0 = ap differs (eq-eqb x x refl) in
    omega arith

pub distance_zero : (u v : List ℕ) → length u ≡ length v → distance u v ≡ 0 → u ≡ v
distance_zero u v h e = added_zeros u v h (weight_none (added u v) (sym (distance_weight u v) ∙ e))

-- what is added to both words does not change their distance
pub distance_both : (u v m : List ℕ) → length u ≡ length m → length v ≡ length m → distance (added u m) (added v m) ≡ distance u v
distance_both u v m hu hv =
    distance_weight (added u m) (added v m) ∙ ap weight (added_both u v m hu hv) ∙ sym (distance_weight u v)

-- a word is as far from itself with e added as e has characters that are not 0
pub distance_added : (w e : List ℕ) → length w ≡ length e → distance w (added w e) ≡ weight e
distance_added w e h =
    distance_weight w (added w e)
    ∙ ap weight (added_comm w (added w e) ∙ ap (λ (l : List ℕ). added l w) (added_comm w e) ∙ added_twice e w (sym h))

pub triangle : (u w v : List ℕ) → length u ≡ length w → length v ≡ length w → distance u v ≤ distance u w + distance w v
triangle u w v hu hv =
    let e : distance u v ≡ weight (added (added u w) (added v w)) = distance_weight u v ∙ ap weight (sym (added_both u v w hu hv)) in
    let p = distance_weight u w in
    let q = distance_comm w v ∙ distance_weight v w in
    let t = weight_added (added u w) (added v w) in
    omega arith

-- the distances of two words from two others add up, at most, when the two are added
pub distance_sums : (a b u v : List ℕ) → distance (added a b) (added u v) ≤ distance a u + distance b v
distance_sums a b u v =
    let e : distance (added a b) (added u v) ≡ weight (added (added a u) (added b v)) =
    distance_weight (added a b) (added u v) ∙ ap weight (added_four a b u v)
    in
    let p = distance_weight a u in
    let q = distance_weight b v in
    let t = weight_added (added a u) (added b v) in
    omega arith

-- words that begin alike differ only after
pub distance_take : (n : ℕ) (u v : List ℕ) → take n u ≡ take n v → distance u v ≤ length u - n
unfolding distance
distance_take n [] v e = omega arith
distance_take n (c ∷ cs) [] e = omega arith
distance_take zero (c ∷ cs) (d ∷ ds) e = omega (arith, differs_le c d, distance_take 0 cs ds refl)
distance_take (suc n) (c ∷ cs) (d ∷ ds) e =
    let p : c ≡ d = cc in
    let q : take n cs ≡ take n ds = cc in
    omega (arith, ap differs (eq-eqb c d p), distance_take n cs ds q)
