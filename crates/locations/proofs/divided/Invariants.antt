-- `locations::divided` meets its contract: each coefficient of the quotient is the value so far, and the last value is the remainder.
use Rattle.locations.proofs.Loops.{DividedTo}
use Rattle.locations.proofs.divided.Given as goal

abbrev pub invariant-loop-k : goal.invariant-loop-k
invariant-loop-k l = DividedTo l.p l.r l.quotient l.v l.k
