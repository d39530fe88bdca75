-- Places, one by one: each is an element that is not 0, and no two are the same.
use mathlib.Core.Path.{◌≡◌, refl, sym, ap}
use mathlib.Core.List.{List, [], ◌∷◌}
use Prim.Native.Nat.{ℕ, zero, suc, ◌<◌}
use native.Mathlib.Nat.{not-suc-le-zero, le_of_suc-le-suc}
use lib.ListN.{length, get_or}
use Rattle.polynomial.specs.Sums.{Fresh, Places, Values}

pub place_pos : (xs : List ℕ) (i : ℕ) → Places xs → i < length xs → 0 < get_or xs i 0
place_pos [] i p h = absurd (not-suc-le-zero h)
place_pos (x ∷ xs) zero p h = p.0
place_pos (x ∷ xs) (suc i) p h = place_pos xs i p.3 (le_of_suc-le-suc h)

pub place_lt : (xs : List ℕ) (i : ℕ) → Places xs → i < length xs → get_or xs i 0 < 64
place_lt [] i p h = absurd (not-suc-le-zero h)
place_lt (x ∷ xs) zero p h = p.1
place_lt (x ∷ xs) (suc i) p h = place_lt xs i p.3 (le_of_suc-le-suc h)

fresh_at : (x : ℕ) (ys : List ℕ) (k : ℕ) → Fresh x ys → k < length ys → get_or ys k 0 ≡ x → ⊥
fresh_at x [] k f h e = not-suc-le-zero h
fresh_at x (y ∷ ys) zero f h e = f.0 e
fresh_at x (y ∷ ys) (suc k) f h e = fresh_at x ys k f.1 (le_of_suc-le-suc h) e

pub places_differ : (xs : List ℕ) (i k : ℕ) → Places xs → i < length xs → k < length xs → (i ≡ k → ⊥) → get_or xs i 0 ≡ get_or xs k 0 → ⊥
places_differ [] i k p hi hk d e = not-suc-le-zero hi
places_differ (x ∷ xs) zero zero p hi hk d e = d refl
places_differ (x ∷ xs) zero (suc k) p hi hk d e = fresh_at x xs k p.2 (le_of_suc-le-suc hk) (sym e)
places_differ (x ∷ xs) (suc i) zero p hi hk d e = fresh_at x xs i p.2 (le_of_suc-le-suc hi) e
places_differ (x ∷ xs) (suc i) (suc k) p hi hk d e = places_differ xs i k p.3 (le_of_suc-le-suc hi) (le_of_suc-le-suc hk) (λ q. d (ap suc q)) e

-- there are as many values as places
pub values_long : (vs xs : List ℕ) → Values vs xs → length vs ≡ length xs
values_long [] [] f = refl
values_long [] (x ∷ xs) f = absurd f
values_long (v ∷ vs) [] f = absurd f
values_long (v ∷ vs) (x ∷ xs) f = ap suc (values_long vs xs f.1)
