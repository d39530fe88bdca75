-- As many blots as sums: some errors at the blots have any sums, so eleven blots always give a line.
use mathlib.Core.Path.{◌≡◌, refl, sym, ◌∙◌, subst}
use mathlib.Core.Logic.{⊎_elim}
use mathlib.Core.List.{List, [], ◌∷◌}
use Prim.Native.Nat.{ℕ, zero, suc, ◌+◌, ◌<◌, ◌≤◌}
use native.Mathlib.Nat.{le_of_eq}
use native.Mathlib.Omega.{arith}
use lib.ListN.{length, get_or, set, length-set, replicate}
use lib.Seq.{get_or-set_same}
use lib.Bits.{bit_xor}
use Rattle.numbers.proofs.Cases.{same_or_not}
use Rattle.field.specs.Field.{sum, product}
use Rattle.field.specs.Inside.{inverse}
use Rattle.field.proofs.Laws
use Rattle.polynomial.specs.Sums.{weight, nonzero}
use Rattle.polynomial.proofs.Vandermonde.{zeros_get}
use Rattle.code.specs.Word.{Characters, listed}
use Rattle.code.proofs.Words.{zero_get, characters_below, listed_long, listed_get}
use Rattle.code.proofs.Distances.{weight_none}
use Rattle.mender.specs.Mender.{Word}
use Rattle.blots.specs.Promises.{seen}
use Rattle.blots.specs.Inside.{FitsBlotted, place_of, share_of, value_of, Cleared, Restored}
use Rattle.blots.proofs.Seen.{weight_cleared, seen_shown, weight_seen_none}
use Rattle.blots.proofs.Factors.{fits_restored}
use Rattle.blots.proofs.Restoring.{RestoredTo, restored_start, skipped, divided, restored_all}

-- ---- the way back is always there

module _ (u : List ℕ) (blot first : ℕ) (word : Word u) (inside : blot < 63) (nothing : get_or u blot 0 ≡ 0) where
  turn : (n : ℕ) → n < 63 → (w : List ℕ) (left : ℕ) → RestoredTo u blot first w left n → (v : List ℕ) × (rest : ℕ) × RestoredTo u blot first v rest (n + 1)
  turn n h w left t =
      let v : ℕ = product (get_or w n 0) (inverse (sum (place_of n) (place_of blot))) in
      ⊎_elim (λ (z : get_or w n 0 ≡ 0). (w, left, skipped u blot first w left n t h z))
      (λ (d : get_or w n 0 ≡ 0 → ⊥). (set w n v, bit_xor left (share_of v n), divided u blot first w left n t h inside word d v (share_of v n) refl refl))
      (same_or_not (get_or w n 0) 0)

  turns : (n : ℕ) → n ≤ 63 → (w : List ℕ) × (left : ℕ) × RestoredTo u blot first w left n
  turns zero h = (u, first, restored_start u blot first word.long nothing)
  turns (suc n) h =
      let (w, left, t) = turns n (omega arith) in
      let (v, rest, s) = turn n (omega arith) w left t in
      (v, rest, subst (RestoredTo u blot first v rest) (let e : n + 1 ≡ suc n = omega arith in e) s)

  restored-some : first < 64 → (x : List ℕ) × Restored u blot first x
  restored-some element =
      let (w, left, t) = turns 63 (omega arith) in
      (set w blot (value_of left blot), restored_all u blot first w left 63 (value_of left blot) inside element nothing t (omega arith) refl)

-- ---- a blot to go by

some_blot : (m : List ℕ) (n : ℕ) → weight m ≡ suc n → (a : ℕ) × (a < length m) × (get_or m a 0 ≡ 0 → ⊥)
unfolding weight nonzero
some_blot [] n e = absurd (omega arith)
some_blot (zero ∷ m) n e = let (a, l, d) = some_blot m n (omega arith) in (suc a, omega arith, d)
some_blot (suc b ∷ m) n e = (0, omega arith, λ z. omega arith)

-- ---- the sums cleared of a place

unfoldable cleared_sums : List ℕ → ℕ → List ℕ
cleared_sums s y = listed (λ k. sum (get_or s (suc k) 0) (product (get_or s k 0) y)) 0 11

sums_cleared : (s : List ℕ) (y : ℕ) → Cleared s y (cleared_sums s y)
unfolding cleared_sums
sums_cleared s y = record { sum_at = λ k h. listed_get (λ k. sum (get_or s (suc k) 0) (product (get_or s k 0) y)) 11 k (omega arith) }

sums_elements : (s : List ℕ) (y : ℕ) → Characters s → Characters (cleared_sums s y)
unfolding cleared_sums
sums_elements s y h =
    characters_below (listed (λ k. sum (get_or s (suc k) 0) (product (get_or s k 0) y)) 0 11) 11 (le_of_eq (listed_long (λ k. sum (get_or s (suc k) 0) (product (get_or s k 0) y)) 0 11))
    (λ k l.
    subst (λ (v : ℕ). v < 64) (sym (listed_get (λ k. sum (get_or s (suc k) 0) (product (get_or s k 0) y)) 11 k l))
    (Laws.sum_lt (get_or s (suc k) 0) (product (get_or s k 0) y) (h (suc k)) (Laws.product_lt (get_or s k 0) y)))

-- ---- one blot after the other

-- where there are as many blots as sums, some errors at the blots have these sums
pub some_fit : (c : ℕ) (s m : List ℕ) → c ≤ 11 → length m ≡ 63 → weight m ≡ c → Characters s → (x : List ℕ) × FitsBlotted s c m x
some_fit zero s m h l e characters = (
  replicate 63 0,
  record {
    long = refl;
    characters = λ a. subst (λ (v : ℕ). v < 64) (sym (zero_get 63 a)) (omega arith);
    few = let z = weight_seen_none m 63 in omega arith;
    sums = λ k b. absurd (omega arith);
  },
)
some_fit (suc c) s m h l e characters =
    let (a, i, there) = some_blot m c e in
    let inside : a < 63 = omega arith in
    let less = weight_cleared m a there in
    let (u, f) = some_fit c (cleared_sums s (place_of a)) (set m a 0) (omega arith) (length-set m a 0 ∙ l) (omega arith) (sums_elements s (place_of a) characters) in
    -- they have nothing outside the other blots, and so nothing at this one
    let none : weight (seen (set m a 0) u) ≡ 0 = (let g = f.few in omega arith) in
    let nothing : get_or u a 0 ≡ 0 =
    sym (seen_shown (set m a 0) u a (length-set m a 0 ∙ l ∙ sym f.long) (get_or-set_same m a 0 0 i)) ∙ zeros_get (seen (set m a 0) u) (weight_none (seen (set m a 0) u) none) a
    in
    let (x, back) = restored-some u a (get_or s 0 0) (record { long = f.long; characters = f.characters }) inside nothing (characters 0) in
    (x, fits_restored s (cleared_sums s (place_of a)) m c a inside h there (sums_cleared s (place_of a)) u x f nothing back)
