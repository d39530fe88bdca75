-- `locations::half` meets its contract: the table is the one of its definition.
use mathlib.Core.Path.{ap}
use Prim.Native.Nat.{ℕ}
use lib.ListN.{get_or}
use Rattle.locations.specs.Roots.{halves}
use Rattle.locations.proofs.half.Goals as goal

pub returns : goal.returns
unfolding halves
returns c = ap (λ (i : ℕ). get_or halves i 0) c.from.ensures
