-- The roots of a locator, as the set bits of a number: those after a place.
use mathlib.Core.Path.{◌≡◌, refl, sym, subst}
use mathlib.Core.Logic.{⊎_elim}
use Prim.Native.Nat.{ℕ, zero, suc, min, ◌+◌, ◌-◌, ◌/◌, ◌%◌, ◌^◌, ◌<◌}
use native.Mathlib.Omega.{arith}
use borrow.Author.Tests.{eq-eqb, ne_eqb}
use Rattle.numbers.proofs.Cases.{same_or_not}
use Rattle.planes.specs.Roots.{FirstFrom}
use Rattle.planes.proofs.Theorems.{one_first}
use Rattle.mender.specs.Values.{first_set, root_after, root_at}

-- no bit that is set is passed over
first_set_lem : (n roots l : ℕ) → n + l ≡ 63 → FirstFrom roots l (first_set n roots l)
unfolding first_set
first_set_lem zero roots l e = record { least = omega arith; most = omega arith; none = λ k g b. absurd (omega arith); here = λ b. absurd (omega arith) }
first_set_lem (suc n) roots l e =
    ⊎_elim (λ (z : roots / 2 ^ l % 2 ≡ 0). subst (FirstFrom roots l) (sym (simp (eq-eqb (roots / 2 ^ l % 2) 0 z))) (passed (first_set n roots (suc l)) z (first_set_lem n roots (suc l) (omega arith))))
    (λ (d : roots / 2 ^ l % 2 ≡ 0 → ⊥). subst (FirstFrom roots l) (sym (simp (ne_eqb (roots / 2 ^ l % 2) 0 d))) (found d))
    (same_or_not (roots / 2 ^ l % 2) 0)
  where
    found : (roots / 2 ^ l % 2 ≡ 0 → ⊥) → FirstFrom roots l l
    found d = record { least = omega arith; most = omega arith; none = λ k g b. absurd (omega arith); here = λ b. omega arith }

    passed : (r : ℕ) → roots / 2 ^ l % 2 ≡ 0 → FirstFrom roots (suc l) r → FirstFrom roots l r
    passed r z a =
        record {
          least = omega (arith, a.least);
          most = a.most;
          none = λ k g b.
              ⊎_elim (λ (q : k ≡ l). subst (λ (i : ℕ). roots / 2 ^ i % 2 ≡ 0) (sym q) z) (λ (d : k ≡ l → ⊥). a.none k (omega arith) b) (same_or_not k l);
          here = a.here;
        }

pub root_after_lem : (roots l r : ℕ) → FirstFrom roots (min (l + 1) 63) r → r ≡ root_after roots l
unfolding root_after
root_after_lem roots l r a = one_first roots (min (l + 1) 63) r (root_after roots l) a (first_set_lem (63 - min (l + 1) 63) roots (min (l + 1) 63) (omega arith))

-- as the code asks for it
pub root_next : (roots l r : ℕ) → l < 63 → FirstFrom roots ((l + 1) % 64) r → FirstFrom roots (l + 1) r
root_next roots l r h a = subst (λ (m : ℕ). FirstFrom roots m r) (let e : (l + 1) % 64 ≡ l + 1 = omega arith in e) a

pub root_last : (roots l j : ℕ) → root_at roots l (suc j) ≡ root_after roots (root_at roots l j)
unfolding root_at
root_last roots l zero = refl
root_last roots l (suc j) = root_last roots (root_after roots l) j
