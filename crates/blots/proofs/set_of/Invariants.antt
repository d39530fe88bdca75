-- `blots::set_of` meets its contract: of the bytes passed each that is not 0 has its bit.
use Rattle.blots.proofs.Loops.{HoldsTo}
use Rattle.blots.proofs.set_of.Given as goal

abbrev pub invariant-loop-a : goal.invariant-loop-a
invariant-loop-a l = HoldsTo l.set l.b-items l.a
