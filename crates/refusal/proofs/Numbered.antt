-- What goes through the refusals case by case: each is the one that has its number, and the bounds of that number. tools/tables writes the cases from refusals.txt.
use mathlib.Core.Bool.{cond}
use mathlib.Core.List.{List, [], ◌∷◌}
use mathlib.Core.Path.{◌≡◌, refl}
use Prim.Native.Nat.{ℕ, ◌<◌, ◌≤◌}
use native.Mathlib.Omega.{arith}
use lib.Dec.{eqb}
use Rattle.refusal.specs.declared.Refusal.{Refusal}
use Rattle.refusal.specs.declared.Refusal.TheVariants.{InputLength, ValueOver, RadiusOver, NumberOver, OutputLength, NoLine, OtherNumber, RowCount, NoBlock, ManyStarts, RegisterFull, RegisterShort, QuotientByZero, Template, UnknownKind, ImproperSheet, TrayUnfit, LineNotHeld, AddressOver, OneSided}
use Rattle.refusal.specs.Number.{number_of}

refusals : List Refusal
refusals = InputLength ∷ ValueOver ∷ RadiusOver ∷ NumberOver ∷ OutputLength ∷ NoLine ∷ OtherNumber ∷ RowCount ∷ NoBlock ∷ ManyStarts ∷ RegisterFull ∷ RegisterShort ∷ QuotientByZero ∷ Template ∷ UnknownKind ∷ ImproperSheet ∷ TrayUnfit ∷ LineNotHeld ∷ AddressOver ∷ OneSided ∷ []

-- the first of some refusals that has a number; where none has it, any
first_with_lem : ℕ → List Refusal → Refusal
first_with_lem n [] = InputLength
first_with_lem n (r ∷ rs) = cond (eqb (number_of r) n) r (first_with_lem n rs)

-- the refusal that has a number
pub refusal_of : ℕ → Refusal
refusal_of n = first_with_lem n refusals

-- a refusal is the one that has its number, which is not 0 and has a bound
pub record Numbered (r : Refusal) : Type 0 where
  pub named : refusal_of (number_of r) ≡ r
  pub least : 0 < number_of r
  pub most : number_of r ≤ 20

pub numbered : (r : Refusal) → Numbered r
unfolding refusal_of first_with_lem refusals
numbered InputLength = record { named = refl; least = omega arith; most = omega arith }
numbered ValueOver = record { named = refl; least = omega arith; most = omega arith }
numbered RadiusOver = record { named = refl; least = omega arith; most = omega arith }
numbered NumberOver = record { named = refl; least = omega arith; most = omega arith }
numbered OutputLength = record { named = refl; least = omega arith; most = omega arith }
numbered NoLine = record { named = refl; least = omega arith; most = omega arith }
numbered OtherNumber = record { named = refl; least = omega arith; most = omega arith }
numbered RowCount = record { named = refl; least = omega arith; most = omega arith }
numbered NoBlock = record { named = refl; least = omega arith; most = omega arith }
numbered ManyStarts = record { named = refl; least = omega arith; most = omega arith }
numbered RegisterFull = record { named = refl; least = omega arith; most = omega arith }
numbered RegisterShort = record { named = refl; least = omega arith; most = omega arith }
numbered QuotientByZero = record { named = refl; least = omega arith; most = omega arith }
numbered Template = record { named = refl; least = omega arith; most = omega arith }
numbered UnknownKind = record { named = refl; least = omega arith; most = omega arith }
numbered ImproperSheet = record { named = refl; least = omega arith; most = omega arith }
numbered TrayUnfit = record { named = refl; least = omega arith; most = omega arith }
numbered LineNotHeld = record { named = refl; least = omega arith; most = omega arith }
numbered AddressOver = record { named = refl; least = omega arith; most = omega arith }
numbered OneSided = record { named = refl; least = omega arith; most = omega arith }
