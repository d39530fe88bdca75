-- A step of the division: the loop fills the places one by one, each with the one after it and its multiple of the generator, a lane, taken away.
use Rattle.encoder.proofs.Loops.{DividedTo}
use Rattle.encoder.proofs.divided.Given as goal

abbrev pub invariant-loop-i : goal.invariant-loop-i
invariant-loop-i l = DividedTo l.held l.c l.feedback l.rest l.left l.i
