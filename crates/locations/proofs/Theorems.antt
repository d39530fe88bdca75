-- What the search for roots comes to: they are found exactly where there are as many as the degree, and then there is no other.
use mathlib.Core.Path.{◌≡◌, refl}
use mathlib.Core.List.{List, ◌∷◌}
use Prim.Native.Nat.{ℕ, ◌-◌, ◌<◌}
use native.Mathlib.Omega.{arith}
use lib.ListN.{drop}
use Rattle.std.specs.Prelude.{Option, Some, None}
use Rattle.polynomial.specs.Sums.{Fresh}
use Rattle.polynomial.specs.Polynomial.{poly_at}
use Rattle.polynomial.specs.Roots.{Monic, Split}
use Rattle.polynomial.proofs.Splitting.{too_many}
use Rattle.locations.specs.Roots.{Finds}

module _ (p : List ℕ) (d : ℕ) (r : Option (List ℕ)) (finds : Finds p d r) (monic : Monic p d) where
  -- roots are found exactly where p has d roots, none of them 0 and no two the same
  pub found_exactly : ((found : List ℕ) → r ≡ Some found → (rs : List ℕ) × Split p d rs) × ((rs : List ℕ) → Split p d rs → (found : List ℕ) × (r ≡ Some found))
  found_exactly = ((λ found e. (drop (5 - d) found, finds.split found e monic)), (λ rs s. some r refl rs s))
    where
      some : (o : Option (List ℕ)) → r ≡ o → (rs : List ℕ) → Split p d rs → (found : List ℕ) × (r ≡ Some found)
      some (Some found) e rs s = (found, e)
      some None e rs s = absurd (finds.none e rs s)

  -- and each root that is not 0 is one of those found
  pub all_found : (found : List ℕ) → r ≡ Some found → (x : ℕ) → 0 < x → x < 64 → poly_at p x ≡ 0 → Fresh x (drop (5 - d) found) → ⊥
  all_found found e x pos lt root fresh =
      let s = finds.split found e monic in
      too_many p (x ∷ drop (5 - d) found) d monic (pos, lt, fresh, s.places) (let m = s.many in omega arith) (root, s.zeros)
