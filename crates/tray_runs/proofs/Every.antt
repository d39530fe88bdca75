-- Every operation has a result on any tray at all: its tests can be decided, and there is a tray as a success leaves it.
use mathlib.Core.Path.{◌≡◌, refl, ◌∙◌}
use mathlib.Core.Logic.{◌⊎◌, inl, inr, ⊎_elim}
use mathlib.Core.List.{List, [], ◌∷◌, ◌++◌}
use Prim.Native.Nat.{ℕ, zero, suc, ◌*◌, ◌<◌, ◌≤◌}
use native.Mathlib.Omega.{arith}
use lib.ListN.{length, get_or, set, take, drop, length-append, length-set, length-drop}
use lib.Seq.{length-take-le, take_at, drop_at}
use Rattle.numbers.specs.Below.{AllBelow}
use Rattle.numbers.proofs.Cases.{le_or_lt, same_or_not}
use Rattle.refusal.specs.declared.Refusal.TheVariants.{TrayUnfit}
use Rattle.refusal.specs.Number.{number_of}
use Rattle.refusal.specs.Promise.{Test, Promise}
use Rattle.refusal.proofs.Ladder.{Met, FailsAt, answer_at, refuses, succeeds, declines, replies, denied, ◌then◌}
use Rattle.field.specs.Field.{sum}
use Rattle.open_tray.specs.Tray.{room, characters_at, sums_at, held, count, fresh_sums, wrong, Fit, Sound, Edited}
use Rattle.open_tray.specs.Promises.{add_tests, Added, Adds, replace_tests, sums_after, Replaced, Replaces, last_line, drop_tests, Dropped, Drops, ask_tests, Asks}
use Rattle.open_tray.proofs.Rooms.{room_long, put_room, both_written, edited_as}
use Rattle.open_tray.proofs.Sums.{fresh_long, with_shares_long}
use Rattle.tray_runs.specs.Runs.{Operation, add, replace, drop_last, ask, Does}

-- ---- what can be decided

abbrev Decided : Type 0 → Type 0
Decided P = P ⊎ (P → ⊥)

le_decided : (m n : ℕ) → Decided (m ≤ n)
le_decided m n = ⊎_elim (λ h. inl h) (λ (h : n < m). inr (λ l. omega arith)) (le_or_lt m n)

lt_decided : (m n : ℕ) → Decided (m < n)
lt_decided m n = ⊎_elim (λ (h : n ≤ m). inr (λ l. omega arith)) (λ h. inl h) (le_or_lt n m)

below_decided : (w : List ℕ) → Decided (AllBelow 64 w)
below_decided [] = inl (λ a. omega arith)
below_decided (x ∷ xs) =
    ⊎_elim (λ (h : 64 ≤ x). inr (λ below. let b = below 0 in omega arith))
    (λ (h : x < 64). ⊎_elim (λ below. inl (first h below)) (λ d. inr (λ below. d (λ a. below (suc a)))) (below_decided xs)) (le_or_lt 64 x)
  where
    first : x < 64 → AllBelow 64 xs → AllBelow 64 (x ∷ xs)
    first h below zero = h
    first h below (suc a) = below a

fit_decided : (t : List ℕ) → Decided (Fit t)
fit_decided t = by (same_or_not (length t) 4738) (le_decided (held t) 64) (le_decided (count t) (held t))
  where
    by : Decided (length t ≡ 4738) → Decided (held t ≤ 64) → Decided (count t ≤ held t) → Decided (Fit t)
    by (inl a) (inl b) (inl c) = inl (record { whole = a; few = b; counted = c })
    by (inl a) (inl b) (inr c) = inr (λ f. c f.counted)
    by (inl a) (inr b) c = inr (λ f. b f.few)
    by (inr a) b c = inr (λ f. a f.whole)

sound_decided : (i : ℕ) (t : List ℕ) → Decided (Sound i t)
sound_decided i t = by (below_decided (room i t)) (same_or_not (count t) 0) (same_or_not (wrong (sums_at i t)) 0)
  where
    by : Decided (AllBelow 64 (room i t)) → Decided (count t ≡ 0) → Decided (wrong (sums_at i t) ≡ 0) → Decided (Sound i t)
    by (inl a) b (inl c) = inl (record { low = a; counted = λ _. c })
    by (inl a) (inl b) (inr c) = inr (λ s. c (s.counted b))
    by (inl a) (inr b) (inr c) = inl (record { low = a; counted = λ e. absurd (b e) })
    by (inr a) b c = inr (λ s. a s.low)

-- ---- tests that can be decided give a result, where a success can be had

abbrev AllDecided : List Test → Type 0
AllDecided [] = Unit
AllDecided (t ∷ ts) = Decided t.holds × AllDecided ts

fails_or_met : (ts : List Test) → AllDecided ts → ((n : ℕ) × FailsAt n ts) ⊎ Met ts
fails_or_met [] d = inr tt
fails_or_met (t ∷ ts) (inr d, rest) = inl (0, denied d)
fails_or_met (t ∷ ts) (inl h, rest) = ⊎_elim (λ f. inl (suc f.0, h then f.1)) (λ m. inr (h then m)) (fails_or_met ts rest)

a_promise : (ts : List Test) (Stated : List ℕ → Type 0) (old : List ℕ) → AllDecided ts → (Met ts → (q : List ℕ) × Stated q)
    → (numbers q : List ℕ) × Promise ts (λ fields r. (fields ≡ []) × Stated r) 0 old numbers q
a_promise ts Stated old d make =
    ⊎_elim (λ f. (answer_at f.0 ts ∷ [], old, refuses (λ fields r. (fields ≡ []) × Stated r) 0 old ts f.0 f.1))
    (λ m. let x = make m in (0 ∷ [], x.0, succeeds (λ fields r. (fields ≡ []) × Stated r) 0 old ts [] x.0 m (refl, x.1))) (fails_or_met ts d)

-- ---- a tray as a success leaves it

an_edited : (t : List ℕ) (i : ℕ) (w ss : List ℕ) (h n : ℕ) → length t ≡ 4738 → i < 64 → length w ≡ 63 → length ss ≡ 11 → (q : List ℕ) × Edited t i w ss h n q
an_edited t i w ss h n whole b line eleven = (
  set (set put 4736 h) 4737 n,
  edited_as (both_written t put i (w ++ ss) (put_room t (w ++ ss) i whole b long) whole b h n) (take_at w ss 63 line) (drop_at w ss 63 line) refl,
)
  where
    put : List ℕ
    put = take (i * 74) t ++ ((w ++ ss) ++ drop 74 (drop (i * 74) t))

    long : length (w ++ ss) ≡ 74
    long = length-append w ss ∙ omega arith

-- ---- each operation

module _ (t : List ℕ) (i : ℕ) (whole : length t ≡ 4738) (h : i < 64) where
  characters-long : length (characters_at i t) ≡ 63
  characters-long = length-take-le 63 (room i t) (omega (arith, room_long t i whole h))

  sums-long : length (sums_at i t) ≡ 11
  sums-long = length-drop 63 (room i t) ∙ omega (arith, room_long t i whole h)

an_adding : (t w : List ℕ) → (numbers q : List ℕ) × Adds t w numbers q
unfolding Adds
an_adding t w =
    a_promise (add_tests t w) (Added t w) t (fit_decided t, (same_or_not (length w) 63, (below_decided w, (lt_decided (held t) 64, tt))))
    (λ m. an_edited t (held t) w (fresh_sums w) _ _ m.0.is.whole m.1.1.1.0.is m.1.0.is (fresh_long w))

a_replacing : (t : List ℕ) (i a c : ℕ) → (numbers q : List ℕ) × Replaces t i a c numbers q
unfolding Replaces
a_replacing t i a c =
    a_promise (replace_tests t i a c) (Replaced t i a c) t (fit_decided t, (lt_decided i (held t), (le_decided a 62, (le_decided c 63, (sound_decided i t, tt)))))
    (λ m.
    let fit : Fit t = m.0.is in
    let there : i < held t = m.1.0.is in
    let b : i < 64 = omega arith in
    an_edited t i _ (sums_after t i a c) _ _ fit.whole b (length-set (characters_at i t) a c ∙ characters-long t i fit.whole b)
    (with_shares_long a (sum (get_or (characters_at i t) a 0) c) (sums_at i t)))

a_dropping : (t : List ℕ) → (numbers q : List ℕ) × Drops t numbers q
unfolding Drops
a_dropping t =
    a_promise (drop_tests t) (Dropped t) t (fit_decided t, (lt_decided 0 (held t), (sound_decided (last_line t) t, tt)))
    (λ m.
    let fit : Fit t = m.0.is in
    let there : 0 < held t = m.1.0.is in
    let b : last_line t < 64 = omega arith in
    an_edited t (last_line t) _ _ _ _ fit.whole b (characters-long t (last_line t) fit.whole b) (sums-long t (last_line t) fit.whole b))

an_asking : (t : List ℕ) → (numbers : List ℕ) × Asks t numbers
unfolding Asks
an_asking t =
    ⊎_elim (λ fit. (0 ∷ count t ∷ [], replies (λ fields. fields ≡ count t ∷ []) 1 (ask_tests t) (count t ∷ []) (fit then tt) refl))
    (λ unfit. (number_of TrayUnfit ∷ 0 ∷ [], declines (λ fields. fields ≡ count t ∷ []) 1 (ask_tests t) 0 (denied unfit))) (fit_decided t)

-- an operation has a result, whatever the tray
pub a_doing : (t : List ℕ) (o : Operation) → (numbers q : List ℕ) × Does t o numbers q
a_doing t (add w) = an_adding t w
a_doing t (replace i a c) = a_replacing t i a c
a_doing t drop_last = a_dropping t
a_doing t ask = let x = an_asking t in (x.0, t, (x.1, refl))
