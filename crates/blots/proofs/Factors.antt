-- Clearing a blot's place: what it does to errors and to their sums, down to one blot less and back.
use mathlib.Core.Path.{◌≡◌, sym, ap, ap₂, ◌∙◌, subst}
use mathlib.Core.Logic.{⊎_elim}
use mathlib.Core.List.{List, [], ◌∷◌}
use Prim.Native.Nat.{ℕ, zero, suc, ◌+◌, ◌-◌, ◌/◌, ◌<◌, ◌≤◌}
use native.Mathlib.Nat.{add-suc}
use native.Mathlib.Omega.{arith}
use lib.ListN.{length, get_or, set, get_or-eq_default}
use Rattle.numbers.proofs.Cases.{le_or_lt, pos_of_not_zero}
use Rattle.field.specs.Field.{sum, product, α, power}
use Rattle.field.proofs.Laws
use Rattle.polynomial.specs.Sums.{weight, Values}
use Rattle.polynomial.specs.Polynomial.{poly_at, combined, weighted}
use Rattle.polynomial.proofs.Places.{values_long}
use Rattle.polynomial.proofs.Combining.{weighted_values, weighted_moment, weighted_get}
use Rattle.code.specs.Word.{Characters, power_sum}
use Rattle.code.proofs.Words.{same_word, characters_below}
use Rattle.code.proofs.Sums.{places, places_long, places_get, values_63, power_sum_moment, power_sum_lt}
use Rattle.mender.specs.Mender.{Fits}
use Rattle.blots.specs.Promises.{seen}
use Rattle.blots.specs.Inside.{FitsBlotted, place_of, Cleared, Restored}
use Rattle.blots.proofs.Seen.{seen_set, seen_all, seen_alike, weight_cleared, weight_blank}

-- ---- places

place_at : (a : ℕ) → a < 63 → get_or (places 63) a 0 ≡ place_of a
unfolding place_of
place_at a h = places_get 63 a h ∙ ap (power α) (omega arith)

pub place_lt : (a : ℕ) → place_of a < 64
unfolding place_of
place_lt a = Laws.power_lt α (62 - a)

pub place_pos : (a : ℕ) → 0 < place_of a
unfolding place_of
place_pos a = Laws.power_pos α (62 - a) (omega arith) (omega arith)

places_apart : (a b : ℕ) → a < 63 → b < a → place_of a ≡ place_of b → ⊥
unfolding place_of
places_apart a b h l = Laws.power_distinct (62 - a) (62 - b) (omega arith) (omega arith)

-- two addresses have two places
pub places_differ : (a b : ℕ) → a < 63 → b < 63 → (a ≡ b → ⊥) → place_of a ≡ place_of b → ⊥
places_differ a b h l d e =
    ⊎_elim (λ (m : a ≤ b). places_apart b a l (omega (arith, d)) (sym e)) (λ (m : b < a). places_apart a b h m e) (le_or_lt a b)

-- so what their places make is not 0
pub factor_pos : (a b : ℕ) → a < 63 → b < 63 → (a ≡ b → ⊥) → 0 < sum (place_of a) (place_of b)
factor_pos a b h l d = pos_of_not_zero (sum (place_of a) (place_of b)) (λ z. places_differ a b h l d (Laws.sum_eq (place_of a) (place_of b) z))

pub factor_lt : (a b : ℕ) → sum (place_of a) (place_of b) < 64
factor_lt a b = Laws.sum_lt (place_of a) (place_of b) (place_lt a) (place_lt b)

-- ---- the sums of what is cleared

-- the polynomial y + x
line_at : (y x : ℕ) → x < 64 → poly_at (y ∷ 1 ∷ []) x ≡ sum x y
unfolding poly_at
line_at y x h =
    ap (λ (t : ℕ). sum y (product x (sum 1 t))) (Laws.product_zero x) ∙ ap (λ (t : ℕ). sum y (product x t)) (Laws.sum_zero 1)
    ∙ ap (sum y) (Laws.product_one x h) ∙ Laws.sum_comm y x

-- each character times what its place and y make
unfoldable pub cleared_of : ℕ → List ℕ → List ℕ
cleared_of y x = weighted (y ∷ 1 ∷ []) x (places 63)

module _ (x : List ℕ) (long : length x ≡ 63) (characters : Characters x) (y : ℕ) where
  values : Values x (places 63)
  values = values_63 x long characters

  pub cleared_long : length (cleared_of y x) ≡ 63
  unfolding cleared_of
  cleared_long = values_long (weighted (y ∷ 1 ∷ []) x (places 63)) (places 63) (weighted_values (y ∷ 1 ∷ []) x (places 63) values) ∙ places_long 63

  pub cleared_at : (a : ℕ) → a < 63 → get_or (cleared_of y x) a 0 ≡ product (get_or x a 0) (sum (place_of a) y)
  unfolding cleared_of
  cleared_at a h =
      weighted_get (y ∷ 1 ∷ []) x (places 63) values a
      ∙ ap (product (get_or x a 0)) (ap (poly_at (y ∷ 1 ∷ [])) (place_at a h) ∙ line_at y (place_of a) (place_lt a))

  pub cleared_characters : Characters (cleared_of y x)
  cleared_characters =
      characters_below (cleared_of y x) 63 (omega (arith, cleared_long))
      (λ a h. subst (λ (v : ℕ). v < 64) (sym (cleared_at a h)) (Laws.product_lt (get_or x a 0) (sum (place_of a) y)))

  -- sum j of it is the next sum of the errors and y times the same one
  cleared-sum : (j : ℕ) → power_sum j (cleared_of y x) ≡ sum (power_sum (suc j) x) (product (power_sum j x) y)
  unfolding cleared_of combined
  cleared-sum j =
      power_sum_moment j (weighted (y ∷ 1 ∷ []) x (places 63)) cleared_long
      ∙ weighted_moment (y ∷ 1 ∷ []) j x (places 63)
      ∙ ap₂ (λ (p q : ℕ). sum (product y p) (sum (product 1 q) 0)) (sym (power_sum_moment j x long)) (sym (power_sum_moment (suc j) x long))
      ∙ ap (sum (product y (power_sum j x))) (Laws.sum_zero (product 1 (power_sum (suc j) x)) ∙ Laws.one_product (power_sum (suc j) x) (power_sum_lt (suc j) x))
      ∙ Laws.sum_comm (product y (power_sum j x)) (power_sum (suc j) x)
      ∙ ap (sum (power_sum (suc j) x)) (Laws.product_comm y (power_sum j x))

  -- and so of any word that is so at each address
  pub times_sum : (u : List ℕ) → length u ≡ 63 → ((a : ℕ) → a < 63 → get_or u a 0 ≡ product (get_or x a 0) (sum (place_of a) y)) → (j : ℕ)
      → power_sum j u ≡ sum (power_sum (suc j) x) (product (power_sum j x) y)
  times_sum u lu t j =
      ap (power_sum j) (same_word u (cleared_of y x) lu cleared_long (λ a h. t a h ∙ sym (cleared_at a h))) ∙ cleared-sum j

-- ---- the characters that are not 0

past : (x : List ℕ) (k : ℕ) → length x ≡ 63 → 63 ≤ k → get_or x k 0 ≡ 0
past x k l h = get_or-eq_default x 0 (omega arith)

-- outside the blots, of which one is cleared, nothing comes and nothing goes
module _ (m x u : List ℕ) (blot : ℕ) (inside : blot < 63) (lx : length x ≡ 63) (lu : length u ≡ 63) (characters : Characters x) (there : get_or m blot 0 ≡ 0 → ⊥)
    (times : (a : ℕ) → a < 63 → get_or u a 0 ≡ product (get_or x a 0) (sum (place_of a) (place_of blot))) where
  gone : (k : ℕ) → get_or m k 0 ≡ 0 → get_or x k 0 ≡ 0 → get_or u k 0 ≡ 0
  gone k e z =
      ⊎_elim (λ (h : 63 ≤ k). past u k lu h)
      (λ (h : k < 63). times k h ∙ ap (λ (v : ℕ). product v (sum (place_of k) (place_of blot))) z ∙ Laws.zero_product (sum (place_of k) (place_of blot))) (le_or_lt 63 k)

  kept : (k : ℕ) → get_or m k 0 ≡ 0 → get_or u k 0 ≡ 0 → get_or x k 0 ≡ 0
  kept k e z =
      ⊎_elim (λ (h : 63 ≤ k). past x k lx h)
      (λ (h : k < 63).
      Laws.product_cancel (get_or x k 0) (sum (place_of k) (place_of blot)) (characters k)
      (factor_pos k blot h inside (λ q. there (ap (λ (i : ℕ). get_or m i 0) (sym q) ∙ e))) (factor_lt k blot) (sym (times k h) ∙ z)) (le_or_lt 63 k)

  pub as_many : weight (seen m x) ≡ weight (seen m u)
  as_many = seen_alike m x u (lx ∙ sym lu) gone kept

-- ---- a blot less, and back

module _ (s t m : List ℕ) (c blot : ℕ) (inside : blot < 63) (few : suc c ≤ 11) (there : get_or m blot 0 ≡ 0 → ⊥) (clears : Cleared s (place_of blot) t) where
  -- cleared errors fit the cleared sums, and have nothing at the blot
  module _ (x : List ℕ) (fits : FitsBlotted s (suc c) m x) where
    u-at : (a : ℕ) → a < 63 → get_or (cleared_of (place_of blot) x) a 0 ≡ product (get_or x a 0) (sum (place_of a) (place_of blot))
    u-at = cleared_at x fits.long fits.characters (place_of blot)

    pub nothing_there : get_or (cleared_of (place_of blot) x) blot 0 ≡ 0
    nothing_there = u-at blot inside ∙ ap (product (get_or x blot 0)) (Laws.sum_self (place_of blot)) ∙ Laws.product_zero (get_or x blot 0)

    pub fits_cleared : FitsBlotted t c (set m blot 0) (cleared_of (place_of blot) x)
    fits_cleared =
        let lu = cleared_long x fits.long fits.characters (place_of blot) in
        record {
          long = lu;
          characters = cleared_characters x fits.long fits.characters (place_of blot);
          few =
              let e : weight (seen (set m blot 0) (cleared_of (place_of blot) x)) ≡ weight (seen m (cleared_of (place_of blot) x)) =
              ap weight (seen_set m (cleared_of (place_of blot) x) blot nothing_there)
              in
              let f = as_many m x (cleared_of (place_of blot) x) blot inside fits.long lu fits.characters there u-at in
              let g = weight_cleared m blot there in
              let h = fits.few in
              omega arith;
          sums = λ k l.
              clears.sum_at k (omega arith)
              ∙ ap₂ (λ (p q : ℕ). sum p (product q (place_of blot))) (fits.sums (suc k) (omega arith) ∙ ap (λ (j : ℕ). power_sum j x) (add-suc 58 k)) (fits.sums k (omega arith))
              ∙ sym (times_sum x fits.long fits.characters (place_of blot) (cleared_of (place_of blot) x) lu u-at (58 + k));
        }

  -- and where errors fit the cleared sums and have nothing at the blot, those that are cleared so fit the sums
  module _ (w x : List ℕ) (fits : FitsBlotted t c (set m blot 0) w) (none : get_or w blot 0 ≡ 0) (back : Restored w blot (get_or s 0 0) x) where
    next : (k : ℕ) → k < c → get_or s k 0 ≡ power_sum (58 + k) x → get_or s (suc k) 0 ≡ power_sum (58 + suc k) x
    next k l e =
        let y : ℕ = place_of blot in
        sym (Laws.sum_undo (product (get_or s k 0) y) (get_or s (suc k) 0))
        ∙ ap (sum (product (get_or s k 0) y)) (Laws.sum_comm (product (get_or s k 0) y) (get_or s (suc k) 0) ∙ sym (clears.sum_at k (omega arith)) ∙ fits.sums k l
        ∙ times_sum x back.long back.characters y w fits.long back.times (58 + k)
        ∙ ap (λ (v : ℕ). sum (power_sum (suc (58 + k)) x) (product v y)) (sym e) ∙ Laws.sum_comm (power_sum (suc (58 + k)) x) (product (get_or s k 0) y))
        ∙ Laws.sum_undo (product (get_or s k 0) y) (power_sum (suc (58 + k)) x)
        ∙ ap (λ (j : ℕ). power_sum j x) (sym (add-suc 58 k))

    all : (k : ℕ) → k < suc c → get_or s k 0 ≡ power_sum (58 + k) x
    all zero l = sym back.first_sum
    all (suc k) l = next k (omega arith) (all k (omega arith))

    pub fits_restored : FitsBlotted s (suc c) m x
    fits_restored =
        record {
          long = back.long;
          characters = back.characters;
          few =
              let e : weight (seen (set m blot 0) w) ≡ weight (seen m w) = ap weight (seen_set m w blot none) in
              let f = as_many m x w blot inside back.long fits.long back.characters there back.times in
              let g = weight_cleared m blot there in
              let h = fits.few in
              omega arith;
          sums = all;
        }

-- ---- no blots

module _ (s m : List ℕ) (c : ℕ) (lm : length m ≡ 63) (blank : (k : ℕ) → k < 63 → get_or m k 0 ≡ 0) where
  none-set : (k : ℕ) → k < length m → get_or m k 0 ≡ 0
  none-set k l = blank k (omega arith)

  pub fits_blank : (x : List ℕ) → Fits s c (c / 2) x → FitsBlotted s c m x
  fits_blank x f =
      record {
        long = f.long;
        characters = f.characters;
        few =
            let e : weight (seen m x) ≡ weight x = ap weight (seen_all m x (lm ∙ sym f.long) none-set) in
            let z = weight_blank m none-set in
            let l = f.light in
            omega arith;
        sums = f.sums;
      }

  pub blank_fits : (x : List ℕ) → FitsBlotted s c m x → Fits s c (c / 2) x
  blank_fits x f =
      record {
        long = f.long;
        characters = f.characters;
        light =
            let e : weight (seen m x) ≡ weight x = ap weight (seen_all m x (lm ∙ sym f.long) none-set) in
            let z = weight_blank m none-set in
            let l = f.few in
            omega arith;
        sums = f.sums;
      }
