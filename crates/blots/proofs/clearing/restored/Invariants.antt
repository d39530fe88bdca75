-- `blots::clearing::restored` meets its contract: the characters before a are divided, and their part of S_-5 is taken from what is left of it.
use Prim.Native.Nat.{◌-◌}
use Rattle.blots.proofs.Restoring.{RestoredTo}
use Rattle.blots.proofs.clearing.restored.Given as goal

abbrev pub invariant-loop-a : goal.invariant-loop-a
invariant-loop-a l = RestoredTo l.initial.w l.blot l.first l.w l.left l.a

abbrev pub decreases-loop-a : goal.decreases-loop-a
decreases-loop-a l = 63 - l.a
