-- What is proved of each operation on a tray: one result, what a refusal leaves, that other rooms are never touched, that dropping leaves every room, and that its room is used again.
use mathlib.Core.Path.{◌≡◌, refl, sym, ap, ◌∙◌, subst}
use mathlib.Core.List.{List, [], ◌∷◌}
use Prim.Native.Nat.{ℕ, zero, suc, ◌<◌}
use native.Mathlib.Omega.{arith}
use lib.ListN.{length, get_or}
use Rattle.std.specs.Prelude.{Result, Ok, Err}
use Rattle.refusal.specs.declared.Refusal.{Refusal}
use Rattle.refusal.proofs.Laws.{refusal_positive, one_refusal, passed, Passed}
use Rattle.refusal.proofs.Theorems.{one_result, one_reply}
use Rattle.open_tray.specs.Tray.{room, characters_at, sums_at, held, count, fresh_sums, Fit}
use Rattle.open_tray.specs.Promises.{edit_numbers, count_numbers, add_tests, Added, Adds, replace_tests, Replaced, Replaces, last_line, drop_tests, Dropped, Drops, ask_tests, Asks}
use Rattle.open_tray.proofs.Results.{one_edited, rooms_kept, left_alone}

-- ---- the numbers fix the answer

first : {m n : ℕ} {f g : List ℕ} → m ∷ f ≡ n ∷ g → m ≡ n
first e = ap (λ (l : List ℕ). get_or l 0 0) e

pub one_edit_answer : (a b : Result Unit Refusal) → edit_numbers a ≡ edit_numbers b → a ≡ b
one_edit_answer (Ok _) (Ok _) e = refl
one_edit_answer (Ok _) (Err s) e = absurd (refusal_positive s (sym (first e)))
one_edit_answer (Err r) (Ok _) e = absurd (refusal_positive r (first e))
one_edit_answer (Err r) (Err s) e = ap Err (one_refusal r s (first e))

pub one_count_answer : (a b : Result ℕ Refusal) → count_numbers a ≡ count_numbers b → a ≡ b
one_count_answer (Ok m) (Ok n) e = ap Ok (ap (λ (l : List ℕ). get_or l 1 0) e)
one_count_answer (Ok m) (Err s) e = absurd (refusal_positive s (sym (first e)))
one_count_answer (Err r) (Ok n) e = absurd (refusal_positive r (first e))
one_count_answer (Err r) (Err s) e = ap Err (one_refusal r s (first e))

-- of a tray that passed the tests, wherever this one stands among them
whole_of : (t : List ℕ) → Fit t → length t ≡ 4738
whole_of t f = f.whole

-- ---- one result: any two that an operation allows are equal, whatever the tray

pub one_adding : (t w a b q r : List ℕ) → Adds t w a q → Adds t w b r → (a ≡ b) × (q ≡ r)
unfolding Adds
one_adding t w a b q r =
    one_result (add_tests t w) (λ fields x. (fields ≡ []) × Added t w x) 0
    (λ met f g x y s u. (s.0 ∙ sym u.0, one_edited (whole_of t (search tt)) s.1 u.1)) t a b q r

pub one_replacing : (t : List ℕ) (i a c : ℕ) (m n q r : List ℕ) → Replaces t i a c m q → Replaces t i a c n r → (m ≡ n) × (q ≡ r)
unfolding Replaces
one_replacing t i a c m n q r =
    one_result (replace_tests t i a c) (λ fields x. (fields ≡ []) × Replaced t i a c x) 0
    (λ met f g x y s u. (s.0 ∙ sym u.0, one_edited (whole_of t (search tt)) s.1 u.1)) t m n q r

pub one_dropping : (t a b q r : List ℕ) → Drops t a q → Drops t b r → (a ≡ b) × (q ≡ r)
unfolding Drops
one_dropping t a b q r =
    one_result (drop_tests t) (λ fields x. (fields ≡ []) × Dropped t x) 0
    (λ met f g x y s u. (s.0 ∙ sym u.0, one_edited (whole_of t (search tt)) s.1 u.1)) t a b q r

pub one_asking : (t a b : List ℕ) → Asks t a → Asks t b → a ≡ b
unfolding Asks
one_asking t = one_reply (ask_tests t) (λ fields. fields ≡ count t ∷ []) 1 (λ met f g s u. s ∙ sym u)

-- ---- a refused operation leaves every byte of the tray, whatever it holds

pub refused_adding : (t w : List ℕ) (n : ℕ) (fields q : List ℕ) → (n ≡ 0 → ⊥) → Adds t w (n ∷ fields) q → q ≡ t
unfolding Adds
refused_adding t w = left_alone (add_tests t w) (λ fields r. (fields ≡ []) × Added t w r) 0 t

pub refused_replacing : (t : List ℕ) (i a c n : ℕ) (fields q : List ℕ) → (n ≡ 0 → ⊥) → Replaces t i a c (n ∷ fields) q → q ≡ t
unfolding Replaces
refused_replacing t i a c = left_alone (replace_tests t i a c) (λ fields r. (fields ≡ []) × Replaced t i a c r) 0 t

pub refused_dropping : (t : List ℕ) (n : ℕ) (fields q : List ℕ) → (n ≡ 0 → ⊥) → Drops t (n ∷ fields) q → q ≡ t
unfolding Drops
refused_dropping t = left_alone (drop_tests t) (λ fields r. (fields ≡ []) × Dropped t r) 0 t

-- ---- what one that is not refused leaves, and of which tray

module _ (t q fields : List ℕ) where
  module _ (w : List ℕ) (adds : Adds t w (0 ∷ fields) q) where
    pub added : Added t w q
    unfolding Adds
    added = adds.1.1

    pub may_add : Passed (add_tests t w)
    unfolding Adds
    may_add = passed (add_tests t w) 0 adds.0 refl

  module _ (i a c : ℕ) (replaces : Replaces t i a c (0 ∷ fields) q) where
    pub replaced : Replaced t i a c q
    unfolding Replaces
    replaced = replaces.1.1

    pub may_replace : Passed (replace_tests t i a c)
    unfolding Replaces
    may_replace = passed (replace_tests t i a c) 0 replaces.0 refl

  module _ (drops : Drops t (0 ∷ fields) q) where
    pub dropped : Dropped t q
    unfolding Drops
    dropped = drops.1.1

    pub may_drop : Passed (drop_tests t)
    unfolding Drops
    may_drop = passed (drop_tests t) 0 drops.0 refl

-- ---- other rooms are never touched

pub others_when_adding : (t w : List ℕ) (n : ℕ) (fields q : List ℕ) → Adds t w (n ∷ fields) q → (j : ℕ) → j < 64 → (j ≡ held t → ⊥) → room j q ≡ room j t
others_when_adding t w zero fields q p j h d = (added t q fields w p).others j h d
others_when_adding t w (suc n) fields q p j h d = ap (room j) (refused_adding t w (suc n) fields q (λ e. omega arith) p)

pub others_when_replacing : (t : List ℕ) (i a c n : ℕ) (fields q : List ℕ) → Replaces t i a c (n ∷ fields) q → (j : ℕ) → j < 64 → (j ≡ i → ⊥) → room j q ≡ room j t
others_when_replacing t i a c zero fields q p j h d = (replaced t q fields i a c p).others j h d
others_when_replacing t i a c (suc n) fields q p j h d = ap (room j) (refused_replacing t i a c (suc n) fields q (λ e. omega arith) p)

-- dropping leaves every byte of every room, the dropped line's too
pub rooms_when_dropping : (t : List ℕ) (n : ℕ) (fields q : List ℕ) → Drops t (n ∷ fields) q → (j : ℕ) → j < 64 → room j q ≡ room j t
rooms_when_dropping t zero fields q p j h = rooms_kept (dropped t q fields p) j h
rooms_when_dropping t (suc n) fields q p j h = ap (room j) (refused_dropping t (suc n) fields q (λ e. omega arith) p)

-- ---- a line added after one was dropped takes its room: as many are held as before, it lies where the dropped one lay, and every other room is as it was

module _ (t m q w : List ℕ) (drops : Drops t (0 ∷ []) m) (adds : Adds m w (0 ∷ []) q) where
  free : held m ≡ last_line t
  free = (dropped t m [] drops).held_is

  pub held_again : held q ≡ held t
  held_again =
      let met = may_drop t m [] drops in
      let h : 0 < held t = search (met, tt) in
      (added m q [] w adds).held_is ∙ omega (arith, free)

  pub room_used_again : (characters_at (last_line t) q ≡ w) × (sums_at (last_line t) q ≡ fresh_sums w)
  room_used_again =
      let a = added m q [] w adds in
      subst (λ (i : ℕ). (characters_at i q ≡ w) × (sums_at i q ≡ fresh_sums w)) free (a.characters, a.sums)

  pub others_as_before : (j : ℕ) → j < 64 → (j ≡ last_line t → ⊥) → room j q ≡ room j t
  others_as_before j h d = (added m q [] w adds).others j h (λ e. d (e ∙ free)) ∙ rooms_when_dropping t 0 [] m drops j h
