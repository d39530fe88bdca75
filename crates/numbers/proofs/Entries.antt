-- A test that the checker computes at every entry of a list, and the law that it gives at each.
use mathlib.Core.Path.{◌≡◌, sym, subst}
use mathlib.Core.Bool.{Bool, true, false, cond}
use mathlib.Core.List.{List, [], ◌∷◌}
use Prim.Native.Nat.{ℕ, zero, suc, ◌<◌}
use native.Mathlib.Nat.{not-suc-le-zero, le_of_suc-le-suc}
use lib.Dec.{T, eqb, eqb→eq}
use lib.ListN.{length, get_or}
use Rattle.std.proofs.lemmas.Bool.{false≢true}
use Rattle.numbers.proofs.Range.{both, both_left, both_right}

module _ {A : Type 0} where
  -- the test passes at each entry, told its place
  abbrev pub every : (ℕ → A → Bool) → List A → Bool
  every f [] = true
  every f (x ∷ xs) = both (f 0 x) (every (λ k. f (suc k)) xs)

  every-at : (f : ℕ → A → Bool) (d : A) (xs : List A) → T (every f xs) → (k : ℕ) → k < length xs → T (f k (get_or xs k d))
  every-at f d [] t k h = absurd (not-suc-le-zero h)
  every-at f d (x ∷ xs) t zero h = both_left (f 0 x) (every (λ k. f (suc k)) xs) t
  every-at f d (x ∷ xs) t (suc k) h = every-at (λ k. f (suc k)) d xs (both_right (f 0 x) (every (λ k. f (suc k)) xs) t) k (le_of_suc-le-suc h)

  -- there are n entries, and the test passes at each
  abbrev pub full : ℕ → (ℕ → A → Bool) → List A → Bool
  full n f xs = both (eqb (length xs) n) (every f xs)

  pub full_at : (n : ℕ) (f : ℕ → A → Bool) (d : A) (xs : List A) → T (full n f xs) → (k : ℕ) → k < n → T (f k (get_or xs k d))
  full_at n f d xs t k h =
      every-at f d xs (both_right (eqb (length xs) n) (every f xs) t) k
      (subst (λ (m : ℕ). k < m) (sym (eqb→eq (length xs) n (both_left (eqb (length xs) n) (every f xs) t))) h)

-- of two tests the second, where what chooses between them does not hold
pub unless : (b s t : Bool) → b ≡ false → T (cond b s t) → T t
unless true s t e h = absurd (false≢true (sym e))
unless false s t e h = h
