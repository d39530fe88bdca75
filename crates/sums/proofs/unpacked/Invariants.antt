-- `sums::unpacked` meets its contract: the sums passed are in place, and p holds those after them.
use Rattle.sums.proofs.Loops.{UnpackedTo}
use Rattle.sums.proofs.unpacked.Given as goal

abbrev pub invariant-loop-k : goal.invariant-loop-k
invariant-loop-k l = UnpackedTo l.sums l.s l.p l.k
