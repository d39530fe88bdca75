-- The ways out of reading a spool.
use mathlib.Core.Path.{◌≡◌, refl}
use mathlib.Core.List.{List, [], ◌∷◌}
use Prim.Native.Nat.{ℕ, ◌/◌, ◌%◌, ◌<◌, ◌≤◌}
use native.Mathlib.Omega.{arith}
use lib.ListN.{length}
use Rattle.refusal.specs.declared.Refusal.TheVariants.{InputLength, OutputLength}
use Rattle.refusal.specs.Promise.{Test}
use Rattle.refusal.specs.Number.{number_of}
use Rattle.refusal.proofs.Ladder.{Met, FailsAt, answer_at, refuses, succeeds, denied, ◌then◌}
use Rattle.line.specs.declared.PlainReading.{PlainReading}
use Rattle.spool.specs.Promises.{no_places, Left, left_of, line_count, Each, spool_tests, SpooledAs, Spools}

module _ (lines : List ℕ) (t : ℕ) (old : List ℕ) where
  abbrev tests : List Test
  tests = spool_tests (length lines) (length old)

  pub refused : (n : ℕ) → FailsAt n tests → Spools lines t old (answer_at n tests ∷ []) (left_of no_places old)
  unfolding Spools
  refused = refuses (SpooledAs lines t old) 0 (left_of no_places old) tests

  pub read : (left : Left) → Met tests → Each lines t old (line_count lines) left → Spools lines t old (0 ∷ []) left
  unfolding Spools
  read left m e = succeeds (SpooledAs lines t old) 0 (left_of no_places old) tests [] left m (refl, e)

  -- ---- the returns of the code

  pub no_whole : (length lines % 63 ≡ 0 → ⊥) → Spools lines t old (number_of InputLength ∷ []) (left_of no_places old)
  no_whole d = refused 0 (denied (λ w. d w.lines))

  pub too_many : 16065 < length lines → Spools lines t old (number_of InputLength ∷ []) (left_of no_places old)
  too_many d = refused 0 (denied (λ w. let f = w.few in omega arith))

  pub other_room : length lines % 63 ≡ 0 → length lines ≤ 16065 → (length old ≡ length lines → ⊥) → Spools lines t old (number_of OutputLength ∷ []) (left_of no_places old)
  other_room whole few d = refused 1 (record { lines = whole; few = few } then denied d)

  pub spooled : length lines % 63 ≡ 0 → length lines ≤ 16065 → length old ≡ length lines → (places : List PlainReading) (new : List ℕ)
      → Each lines t old (length lines / 63) (left_of places new) → Spools lines t old (0 ∷ []) (left_of places new)
  spooled whole few room places new e = read (left_of places new) (record { lines = whole; few = few } then room then tt) e
