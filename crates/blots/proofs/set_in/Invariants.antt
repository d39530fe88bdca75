-- `blots::set_in` meets its contract: the bytes passed are counted.
use Rattle.std.proofs.Common.{◌≡◌, take}
use Rattle.std.specs.List.{count_by}
use lib.Dec.{eqb}
use mathlib.Core.Bool.{not}
use Rattle.blots.proofs.set_in.Given as goal

abbrev pub invariant-loop-b : goal.invariant-loop-b
invariant-loop-b l = l.n ≡ count_by (λ x. not (eqb x 0)) (take l.b-index l.b-items)
