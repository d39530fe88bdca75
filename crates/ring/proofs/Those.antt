-- The numbers of a range that have a property, listed: there is one list, it holds them all and no others, it rises, and it falls into the lists of two ranges.
use mathlib.Core.Path.{◌≡◌, refl, sym, ap, subst, subst₂}
use mathlib.Core.Logic.{⊎_elim}
use mathlib.Core.List.{List, [], ◌∷◌, ◌++◌}
use Prim.Native.Nat.{ℕ, zero, suc, ◌+◌, ◌<◌, ◌≤◌}
use native.Mathlib.Nat.{eq-or-lt_of_le, not-suc-le-zero, le_of_suc-le-suc}
use native.Mathlib.Omega.{arith}
use lib.ListN.{length, get_or}
use Rattle.code.specs.Word as Word
use Rattle.ring.specs.Ring.{Those, end, included, excluded, At}

pub one_those : {P : ℕ → Type 0} {n k : ℕ} {a b : List ℕ} → Those P n k a → Those P n k b → a ≡ b
one_those end end = refl
one_those (included {k = k} p s) (included q t) = ap (λ (l : List ℕ). k ∷ l) (one_those s t)
one_those (included p s) (excluded q t) = absurd (q p)
one_those (excluded p s) (included q t) = absurd (p q)
one_those (excluded p s) (excluded q t) = one_those s t

-- ---- what a list holds

-- each entry is one of the n numbers from k on, and has the property
pub record Entry (P : ℕ → Type 0) (n k j : ℕ) : Type 0 where
  pub least : k ≤ j
  pub most : j < k + n
  pub has : P j

pub those_entry : {P : ℕ → Type 0} {n k : ℕ} {ks : List ℕ} → Those P n k ks → (i : ℕ) → i < length ks → Entry P n k (get_or ks i 0)
those_entry end i h = absurd (not-suc-le-zero h)
those_entry (included p s) zero h = record { least = omega arith; most = omega arith; has = p }
those_entry (included p s) (suc i) h =
    let e = those_entry s i (le_of_suc-le-suc h) in
    record { least = omega arith; most = omega arith; has = e.has }
those_entry (excluded p s) i h =
    let e = those_entry s i h in
    record { least = omega arith; most = omega arith; has = e.has }

-- the entries rise
pub those_rise : {P : ℕ → Type 0} {n k : ℕ} {ks : List ℕ} → Those P n k ks → (i j : ℕ) → i < j → j < length ks → get_or ks i 0 < get_or ks j 0
those_rise end i j h l = absurd (not-suc-le-zero l)
those_rise (included p s) zero zero h l = absurd (omega arith)
those_rise (included p s) zero (suc j) h l = (those_entry s j (le_of_suc-le-suc l)).least
those_rise (included p s) (suc i) zero h l = absurd (omega arith)
those_rise (included p s) (suc i) (suc j) h l = those_rise s i j (le_of_suc-le-suc h) (le_of_suc-le-suc l)
those_rise (excluded p s) i j h l = those_rise s i j h l

-- each number of the range that has the property is an entry
pub those_all : {P : ℕ → Type 0} {n k : ℕ} {ks : List ℕ} → Those P n k ks → (j : ℕ) → Entry P n k j → At ks j
those_all end j e = absurd (omega arith)
those_all (included {k = k} {ks = ks} p s) j e =
    ⊎_elim (λ (q : k ≡ j). record { place = 0; inside = omega arith; is = q })
    (λ (l : k < j).
    let r : At ks j = those_all s j (record { least = l; most = omega arith; has = e.has }) in
    record { place = suc r.place; inside = omega arith; is = r.is })
    (eq-or-lt_of_le e.least)
those_all {P} (excluded {k = k} p s) j e =
    ⊎_elim (λ (q : k ≡ j). absurd (p (subst P (sym q) e.has)))
    (λ (l : k < j). those_all s j (record { least = l; most = omega arith; has = e.has })) (eq-or-lt_of_le e.least)

-- ---- another property of the same numbers

pub those_same : {P Q : ℕ → Type 0} {n k : ℕ} {ks : List ℕ} → ((j : ℕ) → j < k + n → P j → Q j) → ((j : ℕ) → j < k + n → Q j → P j) → Those P n k ks
    → Those Q n k ks
those_same to from end = end
those_same to from (included {k = k} p s) = included (to k (omega arith) p) (those_same (λ j h. to j (omega arith)) (λ j h. from j (omega arith)) s)
those_same to from (excluded {k = k} d s) =
    excluded (λ q. d (from k (omega arith) q)) (those_same (λ j h. to j (omega arith)) (λ j h. from j (omega arith)) s)

-- ---- the first a numbers, and those after them

pub moved : {P : ℕ → Type 0} {n m k j : ℕ} {l : List ℕ} → n ≡ m → k ≡ j → Those P n k l → Those P m j l
moved {P} {l = l} p q t = subst₂ (λ (n k : ℕ). Those P n k l) p q t

pub record Parts (P : ℕ → Type 0) (a b k : ℕ) (ks : List ℕ) : Type 0 where
  pub first : List ℕ
  pub rest : List ℕ
  pub in_first : Those P a k first
  pub in_rest : Those P b (k + a) rest
  pub is : ks ≡ first ++ rest

pub parts : {P : ℕ → Type 0} {n k : ℕ} {ks : List ℕ} (a b : ℕ) → n ≡ a + b → Those P n k ks → Parts P a b k ks
parts {ks = ks} zero b e s =
    record { first = []; rest = ks; in_first = end; in_rest = moved (omega arith) (omega arith) s; is = refl }
parts (suc a) b e end = absurd (omega arith)
parts {P} (suc a) b e (included {k = k} {ks = ks} p s) =
    let r : Parts P a b (suc k) ks = parts a b (omega arith) s in
    record {
      first = k ∷ r.first;
      rest = r.rest;
      in_first = included p r.in_first;
      in_rest = moved refl (omega arith) r.in_rest;
      is = ap (λ (l : List ℕ). k ∷ l) r.is;
    }
parts {P} (suc a) b e (excluded {k = k} {ks = ks} d s) =
    let r : Parts P a b (suc k) ks = parts a b (omega arith) s in
    record {
      first = r.first;
      rest = r.rest;
      in_first = excluded d r.in_first;
      in_rest = moved refl (omega arith) r.in_rest;
      is = r.is;
    }

-- ---- none has the property, one has it, all have it

module _ (P : ℕ → Type 0) where
  pub none_those : (n k : ℕ) → ((j : ℕ) → Entry P n k j → ⊥) → Those P n k []
  none_those zero k none = end
  none_those (suc n) k none =
      excluded (λ p. none k (record { least = omega arith; most = omega arith; has = p }))
      (none_those n (suc k) (λ j e. none j (record { least = omega arith; most = omega arith; has = e.has })))

  pub one_of_those : (n k m : ℕ) → Entry P n k m → ((j : ℕ) → Entry P n k j → j ≡ m) → Those P n k (m ∷ [])
  one_of_those zero k m e only = absurd (omega arith)
  one_of_those (suc n) k m e only =
      ⊎_elim
      (λ (q : k ≡ m).
      subst (λ (x : ℕ). Those P (suc n) k (x ∷ [])) q
      (included (subst P (sym q) e.has)
      (none_those n (suc k)
      (λ j d.
      let z : j ≡ m = only j (record { least = omega arith; most = omega arith; has = d.has }) in
      omega arith))))
      (λ (l : k < m).
      excluded (λ p. let z : k ≡ m = only k (record { least = omega arith; most = omega arith; has = p }) in omega arith)
      (one_of_those n (suc k) m (record { least = l; most = omega arith; has = e.has })
      (λ j d. only j (record { least = omega arith; most = omega arith; has = d.has }))))
      (eq-or-lt_of_le e.least)

  pub all_those : (n k : ℕ) → ((j : ℕ) → j < k + n → P j) → Those P n k (Word.listed (λ j. j) k n)
  unfolding Word.listed
  all_those zero k p = end
  all_those (suc n) k p = included (p k (omega arith)) (all_those n (suc k) (λ j h. p j (omega arith)))
