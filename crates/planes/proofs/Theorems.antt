-- What a caller reads from the bits where the coefficients are elements: a bit is 1 where the place is a root, and only there; and that each function has one result.
use mathlib.Core.Path.{◌≡◌, sym, ◌∙◌}
use mathlib.Core.List.{List}
use mathlib.Core.Logic.{⊎_elim}
use Prim.Native.Nat.{ℕ, ◌/◌, ◌%◌, ◌^◌, ◌<◌, ◌≤◌}
use native.Mathlib.Nat.{mod-eq_of_lt}
use native.Mathlib.Omega.{arith}
use Rattle.numbers.proofs.Cases.{le_or_lt, same_or_not}
use Rattle.numbers.proofs.Bits.{same_in_all, same_telling}
use Rattle.field.specs.Field.{α, power}
use Rattle.polynomial.specs.Polynomial.{poly_at, Elements}
use Rattle.polynomial.proofs.Division.{poly_small}
use Rattle.planes.specs.declared.Planes.{Planes}
use Rattle.planes.specs.Roots.{RootsOf, FirstFrom}
use Rattle.planes.specs.Slices.{element_at, Everywhere, Added, ZerosOf}
use Rattle.planes.specs.Crossed.{Crossed}

module _ (p : List ℕ) (r : ℕ) (el : Elements p) (found : RootsOf p r) (l : ℕ) (h : l < 63) where
  whole : poly_at p (power α l) % 64 ≡ poly_at p (power α l)
  whole = mod-eq_of_lt (poly_small p (power α l) el)

  pub set_root : r / 2 ^ l % 2 ≡ 1 → poly_at p (power α l) ≡ 0
  set_root b = sym whole ∙ found.root l h b

  pub clear_other : r / 2 ^ l % 2 ≡ 0 → poly_at p (power α l) ≡ 0 → ⊥
  clear_other b z = found.other l h b (whole ∙ z)

  pub root_set : poly_at p (power α l) ≡ 0 → r / 2 ^ l % 2 ≡ 1
  root_set z =
      ⊎_elim (λ (b : r / 2 ^ l % 2 ≡ 0). absurd (clear_other b z)) (λ (n : r / 2 ^ l % 2 ≡ 0 → ⊥). one n) (same_or_not (r / 2 ^ l % 2) 0)
    where
      one : (r / 2 ^ l % 2 ≡ 0 → ⊥) → r / 2 ^ l % 2 ≡ 1
      one n = omega arith

-- ---- any two results are equal

pub one_roots : (p : List ℕ) (r s : ℕ) → RootsOf p r → RootsOf p s → r ≡ s
one_roots p r s f g =
    same_telling 63 (λ l. poly_at p (power α l) % 64 ≡ 0) r s f.below g.below f.root f.other g.root g.other

pub one_zeros : (v : Planes) (r s : ℕ) → ZerosOf v r → ZerosOf v s → r ≡ s
one_zeros v r s f g = same_telling 63 (λ l. element_at v l ≡ 0) r s f.below g.below f.zero f.other g.zero g.other

-- planes with the same element at every place are the same, word by word
same_planes : (r s : Planes) → ((l : ℕ) → element_at r l ≡ element_at s l) → r ≡ s
unfolding element_at
same_planes r s same = λ i.
    record {
      b0 = same_in_all r.b0 s.b0 (λ l. let e = same l in omega arith) i;
      b1 = same_in_all r.b1 s.b1 (λ l. let e = same l in omega arith) i;
      b2 = same_in_all r.b2 s.b2 (λ l. let e = same l in omega arith) i;
      b3 = same_in_all r.b3 s.b3 (λ l. let e = same l in omega arith) i;
      b4 = same_in_all r.b4 s.b4 (λ l. let e = same l in omega arith) i;
      b5 = same_in_all r.b5 s.b5 (λ l. let e = same l in omega arith) i;
    }

pub one_sum : (u v r s : Planes) → Added u v r → Added u v s → r ≡ s
one_sum u v r s f g = same_planes r s (λ l. f.at l ∙ sym (g.at l))

-- y is b where the result is that of crossed_square
pub one_crossed : (a x b y r s : Planes) → Crossed a x b y r → Crossed a x b y s → r ≡ s
one_crossed a x b y r s f g = same_planes r s (λ l. f.at l ∙ sym (g.at l))

-- any two results of everywhere have the same element at each of the 63 places; of the bit past them the contract says nothing
pub one_everywhere : (c : ℕ) (r s : Planes) → Everywhere c r → Everywhere c s → (l : ℕ) → l < 63 → element_at r l ≡ element_at s l
one_everywhere c r s f g l h = f.at l h ∙ sym (g.at l h)

-- there is one first bit from a place on that is set
pub one_first : (bits from r t : ℕ) → FirstFrom bits from r → FirstFrom bits from t → r ≡ t
one_first bits from r t a b =
    ⊎_elim (λ (g : r ≤ t). ⊎_elim (λ (h : t ≤ r). omega arith) (λ (h : r < t). absurd (clash r t a b h)) (le_or_lt t r))
    (λ (g : t < r). absurd (clash t r b a g)) (le_or_lt r t)
  where
    clash : (r t : ℕ) → FirstFrom bits from r → FirstFrom bits from t → r < t → ⊥
    clash r t a b h =
        let o : bits / 2 ^ r % 2 ≡ 1 = a.here (omega (arith, b.most)) in
        let z : bits / 2 ^ r % 2 ≡ 0 = b.none r a.least h in
        omega arith
