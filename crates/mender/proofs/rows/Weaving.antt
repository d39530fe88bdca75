-- A row woven in the lanes of one number: what it combines the windows to, and its coefficients; and rows as lists of lists.
use mathlib.Core.Path.{◌≡◌, refl, sym, ap, ap₂, ◌∙◌, subst}
use mathlib.Core.Logic.{⊎_elim}
use mathlib.Core.List.{List, [], ◌∷◌}
use Prim.Native.Nat.{ℕ, zero, suc, ◌+◌, ◌-◌, ◌*◌, ◌%◌, ◌^◌, ◌<◌, ◌≤◌}
use native.Mathlib.Nat.{pow-suc, zero-div}
use native.Mathlib.Omega.{arith}
use borrow.Author.Tests.{lt-ltb, le-ltb}
use lib.ListN.{get_or, length, get_or-eq_default}
use Rattle.numbers.proofs.Cases.{le_or_lt}
use Rattle.field.specs.Field.{sum, product}
use Rattle.lanes.specs.Lanes.{pack, lane}
use Rattle.mender.specs.Rows.{woven}
use Rattle.mender.specs.Inside.{mixed, at}
use Rattle.mender.proofs.rows.Windows.{past, mixed_lt, mixed_none, mixed_added}

-- ---- lanes

pub pack_none : (n : ℕ) (f : ℕ → ℕ) → ((k : ℕ) → k < n → f k ≡ 0) → pack n f ≡ 0
unfolding pack
pack_none zero f h = refl
pack_none (suc n) f h =
    let t : pack n (λ k. f (suc k)) ≡ 0 = pack_none n (λ k. f (suc k)) (λ k l. h (suc k) (omega arith)) in
    let z : f 0 ≡ 0 = h 0 (omega arith) in
    omega arith

-- lanes that are 1 in one place alone
pub pack_unit : (n i : ℕ) (f : ℕ → ℕ) → i < n → f i ≡ 1 → ((k : ℕ) → (k ≡ i → ⊥) → f k ≡ 0) → pack n f ≡ 64 ^ i
unfolding pack
pack_unit zero i f l o z = absurd (omega arith)
pack_unit (suc n) zero f l o z =
    let t : pack n (λ k. f (suc k)) ≡ 0 = pack_none n (λ k. f (suc k)) (λ k b. z (suc k) (λ e. omega arith)) in
    omega arith
pack_unit (suc n) (suc i) f l o z =
    let t : pack n (λ k. f (suc k)) ≡ 64 ^ i = pack_unit n i (λ k. f (suc k)) (omega arith) o (λ k d. z (suc k) (λ e. d (omega arith))) in
    let b : f 0 ≡ 0 = z 0 (λ e. omega arith) in
    let p : 64 ^ suc i ≡ 64 ^ i * 64 = pow-suc 64 i in
    omega arith

-- the first five of eleven lanes, and the six after them
pub pack_five : (f : ℕ → ℕ) → pack 11 f ≡ pack 6 (λ k. f (5 + k)) * 64 ^ 5 + pack 5 f
unfolding pack
pack_five f = omega arith

-- the lanes of 0
pub lane_none : (t : ℕ) → lane 0 t ≡ 0
unfolding lane
lane_none t = ap (λ (n : ℕ). n % 64) (zero-div (64 ^ t))

-- ---- a row

pub woven_window : (s : List ℕ) (q : ℕ → ℕ) (t : ℕ) → t < 5 → woven s q t ≡ mixed q s t
unfolding woven
woven_window s q t h = simp (lt-ltb t 5 h)

pub woven_coef : (s : List ℕ) (q : ℕ → ℕ) (k : ℕ) → woven s q (5 + k) ≡ q k
unfolding woven
woven_coef s q k = simp (le-ltb (5 + k) 5 (omega arith)) (ap q (omega arith))

-- a fact of each lane, from each window's and each coefficient's
by_lane : (P : ℕ → Type 0) → ((t : ℕ) → t < 5 → P t) → ((k : ℕ) → P (5 + k)) → (t : ℕ) → P t
by_lane P w c t = ⊎_elim (λ (h : 5 ≤ t). subst P (omega arith) (c (t - 5))) (λ (h : t < 5). w t h) (le_or_lt 5 t)

pub woven_lt : (s : List ℕ) (q : ℕ → ℕ) → ((k : ℕ) → q k < 64) → (t : ℕ) → woven s q t < 64
woven_lt s q h =
    by_lane (λ t. woven s q t < 64) (λ t l. subst (λ (n : ℕ). n < 64) (sym (woven_window s q t l)) (mixed_lt q s t))
    (λ k. subst (λ (n : ℕ). n < 64) (sym (woven_coef s q k)) (h k))

pub woven_none : (s : List ℕ) (q : ℕ → ℕ) → ((k : ℕ) → q k ≡ 0) → (t : ℕ) → woven s q t ≡ 0
woven_none s q h = by_lane (λ t. woven s q t ≡ 0) (λ t l. woven_window s q t l ∙ mixed_none q s t h) (λ k. woven_coef s q k ∙ h k)

-- all lanes of a row are linear in its coefficients
pub woven_added : (s : List ℕ) (q r p : ℕ → ℕ) (f : ℕ) → ((k : ℕ) → r k ≡ sum (q k) (product f (p k))) → (t : ℕ)
    → woven s r t ≡ sum (woven s q t) (product f (woven s p t))
woven_added s q r p f h =
    by_lane (λ t. woven s r t ≡ sum (woven s q t) (product f (woven s p t)))
    (λ t l. woven_window s r t l ∙ mixed_added q r p f s t h ∙ sym (ap₂ (λ (a b : ℕ). sum a (product f b)) (woven_window s q t l) (woven_window s p t l)))
    (λ k. woven_coef s r k ∙ h k ∙ sym (ap₂ (λ (a b : ℕ). sum a (product f b)) (woven_coef s q k) (woven_coef s p k)))

-- ---- rows as lists, of any entries that are 0 outside

listed : {A : Type 0} → ℕ → (ℕ → A) → List A
listed zero f = []
listed (suc n) f = f 0 ∷ listed n (λ k. f (suc k))

length_listed : {A : Type 0} (n : ℕ) (f : ℕ → A) → length (listed n f) ≡ n
unfolding listed
length_listed zero f = refl
length_listed (suc n) f = ap suc (length_listed n (λ k. f (suc k)))

listed_get : {A : Type 0} (n : ℕ) (f : ℕ → A) (d : A) (k : ℕ) → k < n → get_or (listed n f) k d ≡ f k
unfolding listed
listed_get zero f d k h = absurd (omega arith)
listed_get (suc n) f d zero h = refl
listed_get (suc n) f d (suc k) h = listed_get n (λ k. f (suc k)) d k (omega arith)

pub matrix : (ℕ → ℕ → ℕ) → List (List ℕ)
matrix f = listed 6 (λ i. listed 6 (f i))

module _ (f : ℕ → ℕ → ℕ) where
  pub matrix_long : length (matrix f) ≡ 6
  unfolding matrix
  matrix_long = length_listed 6 (λ i. listed 6 (f i))

  matrix-row : (i : ℕ) → i < 6 → get_or (matrix f) i [] ≡ listed 6 (f i)
  unfolding matrix
  matrix-row i h = listed_get 6 (λ i. listed 6 (f i)) [] i h

  pub matrix_wide : (i : ℕ) → i < 6 → length (get_or (matrix f) i []) ≡ 6
  matrix_wide i h = ap length (matrix-row i h) ∙ length_listed 6 (f i)

  pub matrix_at : ((i k : ℕ) → 6 ≤ i → f i k ≡ 0) → ((i k : ℕ) → 6 ≤ k → f i k ≡ 0) → (i k : ℕ) → at (matrix f) i k ≡ f i k
  matrix_at below beside i k =
      ⊎_elim (λ (h : 6 ≤ i). past (matrix f) i k matrix_long h ∙ sym (below i k h))
      (λ (h : i < 6).
      ap (λ (l : List ℕ). get_or l k 0) (matrix-row i h)
      ∙ ⊎_elim (λ (g : 6 ≤ k). get_or-eq_default (listed 6 (f i)) 0 (omega (arith, length_listed 6 (f i))) ∙ sym (beside i k g))
      (λ (g : k < 6). listed_get 6 (f i) 0 k g) (le_or_lt 6 k))
      (le_or_lt 6 i)
