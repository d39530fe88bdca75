-- The ways out of encoding a sheet.
use mathlib.Core.Path.{◌≡◌, refl, sym, ◌∙◌, subst}
use mathlib.Core.List.{List, [], ◌∷◌}
use Prim.Native.Nat.{ℕ}
use lib.ListN.{length}
use Rattle.numbers.specs.Below.{AllBelow}
use Rattle.refusal.specs.Promise.{Test}
use Rattle.refusal.proofs.Ladder.{Yes, Met, FailsAt, answer_at, refuses, succeeds}
use Rattle.code.specs.Word.{Characters}
use Rattle.sheet.specs.Sheet.{characters}
use Rattle.sheet.specs.Inside.{Put, bare}
use Rattle.sheet_encoder.specs.Promises.{encoding_tests, SheetWith, EncodedAs, EncodesSheet}
use Rattle.sheet_encoder.specs.Inside.{Encodable, FirstLines, AllComplete}
use Rattle.sheet_encoder.proofs.Written.{completed_sheet}

-- what the tests told of the texts and the numbers
pub encodable : (texts numbers : List ℕ) → length texts ≡ 2600 → length numbers ≡ 52 → Yes (Characters texts) → Yes (AllBelow 4096 numbers)
    → Encodable texts numbers
encodable texts numbers long many low possible = record { texts_long = long; many = many; low = low.is; possible = possible.is }

module _ (texts numbers old : List ℕ) where
  abbrev tests : List Test
  tests = encoding_tests texts numbers (length old)

  pub refused : (n : ℕ) → FailsAt n tests → EncodesSheet texts numbers old (answer_at n tests ∷ []) old
  unfolding EncodesSheet
  refused = refuses (EncodedAs texts numbers) 0 old tests

  pub written : (new : List ℕ) → Met tests → SheetWith texts numbers new → EncodesSheet texts numbers old (0 ∷ []) new
  unfolding EncodesSheet
  written new m s = succeeds (EncodedAs texts numbers) 0 old tests [] new m (refl, s)

  -- the whole sheet is put over the output
  pub put_sheet : (f u c w new : List ℕ) → FirstLines texts numbers f → u ≡ bare f → AllComplete u c → w ≡ bare c → length old ≡ characters → Put w old new
      → SheetWith texts numbers new
  put_sheet f u c w new first eu all ew room put =
      subst (SheetWith texts numbers) (sym (put.over room ∙ ew)) (completed_sheet texts numbers f c first (subst (λ (u : List ℕ). AllComplete u c) eu all))
