-- The first and the last address at which two words differ: what they are, where there are none, and how they move as a pattern of errors grows downward.
use mathlib.Core.Path.{◌≡◌, refl, sym, ap, ap₂, ◌∙◌, subst}
use mathlib.Core.Bool.{Bool, true, false, cond}
use mathlib.Core.Logic.{◌⊎◌, inl, inr, ⊎_elim}
use mathlib.Core.List.{List, [], ◌∷◌}
use Prim.Native.Nat.{ℕ, zero, suc, ◌+◌, ◌<◌, ◌≤◌}
use native.Mathlib.Nat.{add-zero, zero-add}
use native.Mathlib.Omega.{arith}
use lib.Dec.{eqb}
use lib.ListN.{length, get_or, replicate, set, length-set}
use lib.Seq.{ext_get_or, get_or-set_same, get_or-set_other}
use borrow.Author.Tests.{eqb-true, eqb-false, eq-eqb, ne_eqb}
use Rattle.numbers.proofs.Cases.{same_or_not}
use Rattle.field.specs.Field.{sum}
use Rattle.field.proofs.Laws
use Rattle.code.specs.Word.{added, differs, distance, nowhere, first_from, last_from, first_changed, last_changed}
use Rattle.code.specs.Inside.{Ends}
use Rattle.code.proofs.Words.{cons, zero_get}
use Rattle.code.proofs.Distances.{distance_self}

-- two words have the same character at an address
abbrev pub Same : List ℕ → List ℕ → ℕ → Type 0
Same w l i = get_or w i 0 ≡ get_or l i 0

-- n is the first address at which they differ
pub record First (w l : List ℕ) (n : ℕ) : Type 0 where
  pub inside : n < length w
  pub before : (i : ℕ) → i < n → Same w l i
  pub there : Same w l n → ⊥

-- and the last
pub record Last (w l : List ℕ) (n : ℕ) : Type 0 where
  pub inside : n < length w
  pub after : (i : ℕ) → n < i → Same w l i
  pub there : Same w l n → ⊥

-- ---- the first: it is what the definition gives, and where there is none the words are the same

first_is : (a n : ℕ) (w l : List ℕ) → length w ≡ length l → First w l n → first_from a w l ≡ a + n
unfolding first_from
first_is a n [] l e f = absurd (let h = f.inside in omega arith)
first_is a n (c ∷ cs) [] e f = absurd (omega arith)
first_is a zero (c ∷ cs) (d ∷ ds) e f = ap (λ (b : Bool). cond b (first_from (suc a) cs ds) a) (ne_eqb c d f.there) ∙ sym (add-zero a)
first_is a (suc n) (c ∷ cs) (d ∷ ds) e f =
    ap (λ (b : Bool). cond b (first_from (suc a) cs ds) a) (eq-eqb c d (f.before 0 (omega arith)))
    ∙ first_is (suc a) n cs ds (omega arith)
    (record { inside = (let h = f.inside in omega arith); before = λ i h. f.before (suc i) (omega arith); there = f.there })
    ∙ (omega arith)

first_same : (a : ℕ) (w : List ℕ) → first_from a w w ≡ nowhere
unfolding first_from
first_same a [] = refl
first_same a (c ∷ cs) = ap (λ (b : Bool). cond b (first_from (suc a) cs cs) a) (eq-eqb c c refl) ∙ first_same (suc a) cs

first_or_same : (w l : List ℕ) → length w ≡ length l → (w ≡ l) ⊎ ((n : ℕ) × First w l n)
first_or_same [] [] e = inl refl
first_or_same [] (d ∷ ds) e = absurd (omega arith)
first_or_same (c ∷ cs) [] e = absurd (omega arith)
first_or_same (c ∷ cs) (d ∷ ds) e =
    ⊎_elim (λ (q : c ≡ d). pick q (first_or_same cs ds (omega arith)))
    (λ (q : c ≡ d → ⊥). inr (0, record { inside = omega arith; before = λ i h. absurd (omega arith); there = q })) (same_or_not c d)
  where
    pick : c ≡ d → (cs ≡ ds) ⊎ ((n : ℕ) × First cs ds n) → (c ∷ cs ≡ d ∷ ds) ⊎ ((n : ℕ) × First (c ∷ cs) (d ∷ ds) n)
    pick q (inl r) = inl (cons q r)
    pick q (inr (n, f)) = inr (suc n, record { inside = (let h = f.inside in omega arith); before = before; there = f.there })
      where
        before : (i : ℕ) → i < suc n → Same (c ∷ cs) (d ∷ ds) i
        before zero h = q
        before (suc i) h = f.before i (omega arith)

-- ---- the last

last_same : (a b : ℕ) (w : List ℕ) → last_from a b w w ≡ b
unfolding last_from
last_same a b [] = refl
last_same a b (c ∷ cs) = ap (λ (t : Bool). last_from (suc a) (cond t b a) cs cs) (eq-eqb c c refl) ∙ last_same (suc a) b cs

last_or_same : (w l : List ℕ) → length w ≡ length l → (w ≡ l) ⊎ ((n : ℕ) × Last w l n)
last_or_same [] [] e = inl refl
last_or_same [] (d ∷ ds) e = absurd (omega arith)
last_or_same (c ∷ cs) [] e = absurd (omega arith)
last_or_same (c ∷ cs) (d ∷ ds) e = pick (last_or_same cs ds (omega arith)) (same_or_not c d)
  where
    pick : (cs ≡ ds) ⊎ ((n : ℕ) × Last cs ds n) → (c ≡ d) ⊎ (c ≡ d → ⊥) → (c ∷ cs ≡ d ∷ ds) ⊎ ((n : ℕ) × Last (c ∷ cs) (d ∷ ds) n)
    pick (inl r) (inl q) = inl (cons q r)
    pick (inl r) (inr q) = inr (0, record { inside = omega arith; after = after; there = q })
      where
        after : (i : ℕ) → 0 < i → Same (c ∷ cs) (d ∷ ds) i
        after zero h = absurd (omega arith)
        after (suc i) h = ap (λ (xs : List ℕ). get_or xs i 0) r
    pick (inr (n, f)) q = inr (suc n, record { inside = (let h = f.inside in omega arith); after = after; there = f.there })
      where
        after : (i : ℕ) → suc n < i → Same (c ∷ cs) (d ∷ ds) i
        after zero h = absurd (omega arith)
        after (suc i) h = f.after i (omega arith)

last_is : (a b n : ℕ) (w l : List ℕ) → length w ≡ length l → Last w l n → last_from a b w l ≡ a + n
unfolding last_from
last_is a b n [] l e f = absurd (let h = f.inside in omega arith)
last_is a b n (c ∷ cs) [] e f = absurd (omega arith)
last_is a b zero (c ∷ cs) (d ∷ ds) e f =
    ap (λ (t : Bool). last_from (suc a) (cond t b a) cs ds) (ne_eqb c d f.there)
    ∙ ap (λ (xs : List ℕ). last_from (suc a) a xs ds) (ext_get_or 0 cs ds (omega arith) (λ i _. f.after (suc i) (omega arith)))
    ∙ last_same (suc a) a ds ∙ sym (add-zero a)
last_is a b (suc n) (c ∷ cs) (d ∷ ds) e f =
    last_is (suc a) (cond (eqb c d) b a) n cs ds (omega arith)
    (record { inside = (let h = f.inside in omega arith); after = λ i h. f.after (suc i) (omega arith); there = f.there })
    ∙ (omega arith)

-- ---- the first and the last changed address

module _ (w l : List ℕ) (e : length w ≡ length l) where
  pub first_at : (n : ℕ) → First w l n → n ≡ first_changed w l
  first_at n f = sym (first_is 0 n w l e f ∙ zero-add n)

  pub last_at : (n : ℕ) → Last w l n → n ≡ last_changed w l
  last_at n f = sym (last_is 0 nowhere n w l e f ∙ zero-add n)

  pub first_there : (w ≡ l → ⊥) → First w l (first_changed w l)
  first_there d =
      ⊎_elim (λ (q : w ≡ l). absurd (d q)) (λ (f : (n : ℕ) × First w l n). subst (First w l) (first_at f.0 f.1) f.1) (first_or_same w l e)

  pub last_there : (w ≡ l → ⊥) → Last w l (last_changed w l)
  last_there d =
      ⊎_elim (λ (q : w ≡ l). absurd (d q)) (λ (f : (n : ℕ) × Last w l n). subst (Last w l) (last_at f.0 f.1) f.1) (last_or_same w l e)

-- words that differ at one address alone are at distance 1
only_there : (n : ℕ) (w l : List ℕ) → length w ≡ length l → First w l n → Last w l n → distance w l ≡ 1
unfolding distance
only_there n [] l e f g = absurd (let h = f.inside in omega arith)
only_there n (c ∷ cs) [] e f g = absurd (omega arith)
only_there zero (c ∷ cs) (d ∷ ds) e f g =
    ap₂ (λ (a b : ℕ). a + b) (ap differs (ne_eqb c d f.there))
    (ap (λ (xs : List ℕ). distance xs ds) (ext_get_or 0 cs ds (omega arith) (λ i _. g.after (suc i) (omega arith))) ∙ distance_self ds)
only_there (suc n) (c ∷ cs) (d ∷ ds) e f g =
    ap₂ (λ (a b : ℕ). a + b) (ap differs (eq-eqb c d (f.before 0 (omega arith))))
    (only_there n cs ds (omega arith)
    (record { inside = (let h = f.inside in omega arith); before = λ i h. f.before (suc i) (omega arith); there = f.there })
    (record { inside = (let h = g.inside in omega arith); after = λ i h. g.after (suc i) (omega arith); there = g.there }))

pub one_there : (w l : List ℕ) → length w ≡ length l → (w ≡ l → ⊥) → first_changed w l ≡ last_changed w l → distance w l ≡ 1
one_there w l e d q =
    only_there (first_changed w l) w l e (first_there w l e d) (subst (Last w l) (sym q) (last_there w l e d))

pub nowhere_first : (w : List ℕ) → first_changed w w ≡ nowhere
nowhere_first = first_same 0

pub nowhere_last : (w : List ℕ) → last_changed w w ≡ nowhere
nowhere_last = last_same 0 nowhere

-- ---- a word with errors added is changed where the errors are

same_sum : (c d : ℕ) → eqb 0 d ≡ eqb c (sum c d)
same_sum c d = go (eqb 0 d) refl
  where
    go : (b : Bool) → eqb 0 d ≡ b → b ≡ eqb c (sum c d)
    go true e = sym (eq-eqb c (sum c d) (sym (ap (sum c) (sym (eqb-true 0 d e)) ∙ Laws.sum_zero c)))
    go false e = sym (ne_eqb c (sum c d) (λ q. eqb-false 0 d e (sym (sym (Laws.sum_undo c d) ∙ ap (sum c) (sym q) ∙ Laws.sum_self c))))

first_sum : (a n : ℕ) (w x : List ℕ) → length w ≡ n → length x ≡ n → first_from a (replicate n 0) x ≡ first_from a w (added w x)
unfolding first_from added
first_sum a zero [] x h k = refl
first_sum a zero (c ∷ w) x h k = absurd (omega arith)
first_sum a (suc n) [] x h k = absurd (omega arith)
first_sum a (suc n) (c ∷ w) [] h k = absurd (omega arith)
first_sum a (suc n) (c ∷ w) (d ∷ x) h k =
    ap₂ (λ (b : Bool) (m : ℕ). cond b m a) (same_sum c d) (first_sum (suc a) n w x (omega arith) (omega arith))

last_sum : (a b n : ℕ) (w x : List ℕ) → length w ≡ n → length x ≡ n → last_from a b (replicate n 0) x ≡ last_from a b w (added w x)
unfolding last_from added
last_sum a b zero [] x h k = refl
last_sum a b zero (c ∷ w) x h k = absurd (omega arith)
last_sum a b (suc n) [] x h k = absurd (omega arith)
last_sum a b (suc n) (c ∷ w) [] h k = absurd (omega arith)
last_sum a b (suc n) (c ∷ w) (d ∷ x) h k =
    last_sum (suc a) (cond (eqb 0 d) b a) n w x (omega arith) (omega arith)
    ∙ ap (λ (t : Bool). last_from (suc a) (cond t b a) w (added w x)) (same_sum c d)

pub ends_added : (w x l : List ℕ) (f t : ℕ) → length w ≡ 63 → length x ≡ 63 → l ≡ added w x → Ends (replicate 63 0) x f t → Ends w l f t
ends_added w x l f t h k g e =
    record {
      from = e.from ∙ first_sum 0 63 w x h k ∙ ap (first_changed w) (sym g);
      to = e.to ∙ last_sum 0 nowhere 63 w x h k ∙ ap (last_changed w) (sym g);
    }

-- ---- errors that are set one below another

pub ends_none : Ends (replicate 63 0) (replicate 63 0) nowhere nowhere
ends_none = record { from = sym (nowhere_first (replicate 63 0)); to = sym (nowhere_last (replicate 63 0)) }

-- v, which is not 0, set at a where nothing stands up to there
module _ (x : List ℕ) (a v f t : ℕ) (long : length x ≡ 63) (inside : a < 63) (none : (i : ℕ) → i ≤ a → get_or x i 0 ≡ 0) (some : v ≡ 0 → ⊥)
    (e : Ends (replicate 63 0) x f t) where
  set_long : length {A = ℕ} (replicate 63 0) ≡ length (set x a v)
  set_long = sym (length-set x a v ∙ long)

  here : get_or (set x a v) a 0 ≡ v
  here = get_or-set_same x a v 0 (omega arith)

  differs-here : Same (replicate 63 0) (set x a v) a → ⊥
  differs-here q = some (sym (sym (zero_get 63 a) ∙ q ∙ here))

  other : (i : ℕ) → (i ≡ a → ⊥) → get_or (set x a v) i 0 ≡ get_or x i 0
  other i d = get_or-set_other x a i v 0 d

  -- it is the first
  set_first : a ≡ first_changed (replicate 63 0) (set x a v)
  set_first =
      first_at (replicate 63 0) (set x a v) set_long a
      (record {
        inside = inside;
        before = λ i h. zero_get 63 i ∙ sym (other i (λ q. omega arith) ∙ none i (omega arith));
        there = differs-here;
      })

  -- and the last where nothing stood; else that stays as it was
  pub ends_one : t ≡ nowhere → Ends (replicate 63 0) (set x a v) a a
  ends_one q =
      record {
        from = set_first;
        to = last_at (replicate 63 0) (set x a v) set_long a
            (record { inside = inside; after = λ i h. zeros i ∙ sym (other i (λ q. omega arith)); there = differs-here });
      }
    where
      zeros : (i : ℕ) → Same (replicate 63 0) x i
      zeros i =
          ⊎_elim (λ (s : replicate 63 0 ≡ x). ap (λ (l : List ℕ). get_or l i 0) s)
          (λ (n : (n : ℕ) × Last (replicate 63 0) x n).
          absurd (let b = n.1.inside in let m : n.0 ≡ 63 = last_at (replicate 63 0) x (sym long) n.0 n.1 ∙ sym e.to ∙ q in omega arith))
          (last_or_same (replicate 63 0) x (sym long))

  pub ends_more : (t ≡ nowhere → ⊥) → Ends (replicate 63 0) (set x a v) a t
  ends_more d =
      let l : Last (replicate 63 0) x t =
      subst (Last (replicate 63 0) x) (sym e.to)
      (last_there (replicate 63 0) x (sym long) (λ s. d (e.to ∙ ap (last_changed (replicate 63 0)) (sym s) ∙ nowhere_last (replicate 63 0)))) in
      record {
        from = set_first;
        to = last_at (replicate 63 0) (set x a v) set_long t
            (record {
              inside = l.inside;
              after = λ i h. l.after i h ∙ sym (other i (λ q. beyond l (omega arith)));
              there = λ q. l.there (q ∙ other t (λ q. beyond l (omega arith)));
            });
      }
    where
      -- it lies beyond a, for up to a nothing stands
      beyond : Last (replicate 63 0) x t → t ≤ a → ⊥
      beyond l h = l.there (zero_get 63 t ∙ sym (none t h))
