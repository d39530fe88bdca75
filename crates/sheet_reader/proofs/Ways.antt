-- The ways out of reading a sheet.
use mathlib.Core.Path.{◌≡◌, refl, sym, ap, ◌∙◌, subst}
use mathlib.Core.Logic.{inl, inr}
use mathlib.Core.List.{List, [], ◌∷◌}
use Prim.Native.Nat.{ℕ}
use lib.ListN.{length}
use Rattle.std.specs.Prelude.{Ok}
use Rattle.refusal.specs.declared.Refusal.TheVariants.{ImproperSheet}
use Rattle.refusal.specs.Number.{number_of}
use Rattle.refusal.specs.Promise.{Test}
use Rattle.refusal.proofs.Ladder.{Yes, Met, FailsAt, answer_at, refuses, met_answer}
use Rattle.code.specs.Word.{Characters}
use Rattle.sheet.specs.Sheet.{characters, Proper, Rounds, most_rounds}
use Rattle.sheet.specs.Inside.{Taken, Put, bare}
use Rattle.sheet.proofs.Entries.{bare_long, bare_twice, bare_characters}
use Rattle.sheet_reader.specs.declared.SheetReading.{SheetReading}
use Rattle.sheet_reader.specs.declared.SheetReading.TheVariants as S
use Rattle.sheet_reader.specs.declared.Settled.{Settled}
use Rattle.sheet_reader.specs.Promises.{reading_numbers, reading_tests, ReadsSheet}
use Rattle.sheet_reader.specs.Inside.{rounds_of, Tells_of, Settles}
use Rattle.sheet_reader.specs.Unmarked.{Held}

-- the rounds begin with the sheet that was given, its marks off
start_bare : (s given start : List ℕ) → length s ≡ characters → Taken s given → start ≡ bare given → start ≡ bare s
start_bare s given start long takes off = off ∙ ap bare (takes.is long)

pub held_start : (s given start : List ℕ) → length s ≡ characters → Yes (Characters s) → Taken s given → start ≡ bare given → Held start
held_start s given start long low takes off =
    subst Held (sym (start_bare s given start long takes off)) (record { long = bare_long s; low = bare_characters s long low.is })

module _ (s old : List ℕ) where
  abbrev tests : List Test
  tests = reading_tests s (length old)

  pub refused : (n : ℕ) → FailsAt n tests → ReadsSheet s old (answer_at n tests ∷ 0 ∷ []) old
  unfolding ReadsSheet
  refused n f = inl (refuses (λ fields written. ⊥) 1 old tests n f)

  module _ (met : Met tests) (given start : List ℕ) (takes : Taken s given) (off : start ≡ bare given) where
    from-s : bare start ≡ s
    from-s = ap bare (start_bare s given start met.0.is takes off) ∙ bare_twice s met.0.is

    answered : (r : SheetReading) (left new : List ℕ) → Rounds most_rounds (bare start) (rounds_of r) (bare left) → new ≡ bare left → Tells_of r (bare left)
        → ReadsSheet s old (reading_numbers (Ok r)) new
    unfolding ReadsSheet
    answered (S.Proper n) left new run on tells =
        inr (
          met_answer tests met,
          record {
            answer = 0;
            rounds = n;
            shows = refl;
            run = subst (λ (x : List ℕ). Rounds most_rounds x n new) from-s (subst (Rounds most_rounds (bare start) n) (sym on) run);
            tells = inl (subst Proper (sym on) tells, refl);
          },
        )
    answered (S.Improper n) left new run on tells =
        inr (
          met_answer tests met,
          record {
            answer = number_of ImproperSheet;
            rounds = n;
            shows = refl;
            run = subst (λ (x : List ℕ). Rounds most_rounds x n new) from-s (subst (Rounds most_rounds (bare start) n) (sym on) run);
            tells = inr ((λ proper. tells (subst Proper on proper)), refl);
          },
        )

    pub rounds_written : (m : Settled) (result new : List ℕ) → Settles start m → result ≡ bare m.sheet.cells → Put result old new → ReadsSheet s old (reading_numbers (Ok m.reading)) new
    rounds_written m result new settles on written = answered m.reading m.sheet.cells new settles.run (written.over met.1.0.is ∙ on) settles.tells
