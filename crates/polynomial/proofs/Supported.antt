-- What is 0 at the place of each value that is not 0: it has these places for its roots, and no fewer of them than there are such values.
use mathlib.Core.Path.{◌≡◌, refl, sym, ◌∙◌}
use mathlib.Core.Logic.{⊎_elim}
use mathlib.Core.List.{List, [], ◌∷◌}
use Prim.Native.Nat.{ℕ, zero, suc, ◌+◌, ◌<◌, ◌≤◌}
use native.Mathlib.Nat.{le_of_eq}
use native.Mathlib.Omega.{arith}
use lib.ListN.{length, get_or}
use Rattle.numbers.proofs.Cases.{le_or_lt}
use Rattle.field.proofs.Laws
use Rattle.polynomial.specs.Sums.{nonzero, weight, Fresh, Places, Values, Zeros}
use Rattle.polynomial.specs.Polynomial.{poly_at, Elements, ZeroAt, combined, weighted}
use Rattle.polynomial.specs.Roots.{Monic, Split, supported}
use Rattle.polynomial.proofs.Division.{poly_small, roots_all}
use Rattle.polynomial.proofs.Combining.{locates}
use Rattle.polynomial.proofs.Splitting.{too_many}

supported_fresh : (y : ℕ) (vs xs : List ℕ) → Fresh y xs → Fresh y (supported vs xs)
unfolding supported
supported_fresh y [] xs f = tt
supported_fresh y (v ∷ vs) [] f = tt
supported_fresh y (zero ∷ vs) (x ∷ xs) f = supported_fresh y vs xs f.1
supported_fresh y (suc v ∷ vs) (x ∷ xs) f = (f.0, supported_fresh y vs xs f.1)

supported_places : (vs xs : List ℕ) → Places xs → Places (supported vs xs)
unfolding supported
supported_places [] xs p = tt
supported_places (v ∷ vs) [] p = tt
supported_places (zero ∷ vs) (x ∷ xs) p = supported_places vs xs p.3
supported_places (suc v ∷ vs) (x ∷ xs) p = (p.0, p.1, supported_fresh x vs xs p.2, supported_places vs xs p.3)

supported_many : (vs xs : List ℕ) → Values vs xs → length (supported vs xs) ≡ weight vs
unfolding supported weight nonzero
supported_many [] xs f = refl
supported_many (v ∷ vs) [] f = absurd f
supported_many (zero ∷ vs) (x ∷ xs) f = let r = supported_many vs xs f.1 in omega arith
supported_many (suc v ∷ vs) (x ∷ xs) f = let r = supported_many vs xs f.1 in omega arith

supported_zeros : (p vs xs : List ℕ) → Elements p → Values vs xs → Zeros (weighted p vs xs) → ZeroAt p (supported vs xs)
unfolding supported weighted
supported_zeros p [] xs el f z = tt
supported_zeros p (v ∷ vs) [] el f z = tt
supported_zeros p (zero ∷ vs) (x ∷ xs) el f z = supported_zeros p vs xs el f.1 z.1
supported_zeros p (suc v ∷ vs) (x ∷ xs) el f z = (
  Laws.product_cancel (poly_at p x) (suc v) (poly_small p x el) (omega arith) f.0 (Laws.product_comm (poly_at p x) (suc v) ∙ z.0),
  supported_zeros p vs xs el f.1 z.1,
)

module _ (vs xs : List ℕ) (places : Places xs) (values : Values vs xs) where
  -- a polynomial of as many degrees as there are values that are not 0 has their places for its roots
  pub split_supported : (p : List ℕ) (n : ℕ) → Monic p n → weight vs ≡ n → Zeros (weighted p vs xs) → Split p n (supported vs xs)
  split_supported p n m w z =
      record {
        monic = m;
        places = supported_places vs xs places;
        many = supported_many vs xs values ∙ w;
        zeros = supported_zeros p vs xs m.small values z;
      }

  -- and never are there more such values than its degree
  pub weight_degree : (p : List ℕ) (n : ℕ) → Monic p n → Zeros (weighted p vs xs) → weight vs ≤ n
  weight_degree p n m z =
      ⊎_elim (λ (h : weight vs ≤ n). h)
      (λ (h : n < weight vs).
      absurd
      (too_many p (supported vs xs) n m (supported_places vs xs places) (let l = supported_many vs xs values in omega arith)
      (supported_zeros p vs xs m.small values z)))
      (le_or_lt (weight vs) n)

  -- the square system of n sums in a row is not singular where exactly n values are not 0: of degree below n, only 0 combines them to 0
  pub not_singular : (q : List ℕ) (n e : ℕ) → weight vs ≡ n → Elements q → ((k : ℕ) → n ≤ k → get_or q k 0 ≡ 0)
      → ((j : ℕ) → j < n → combined q (e + j) vs xs ≡ 0) → (k : ℕ) → get_or q k 0 ≡ 0
  not_singular q n e w el past s =
      roots_all (supported vs xs) q n (le_of_eq (sym (supported_many vs xs values ∙ w))) past (supported_places vs xs places) el
      (supported_zeros q vs xs el values (locates q xs vs n e places values (le_of_eq w) s))
