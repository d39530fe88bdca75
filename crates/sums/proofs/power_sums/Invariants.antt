-- `sums::power_sums` meets its contract: the loop keeps that the sums passed are in place, and S_0 in its own.
use Rattle.sums.proofs.Loops.{PlacedTo}
use Rattle.sums.proofs.power_sums.Given as goal

abbrev pub invariant-loop-k : goal.invariant-loop-k
invariant-loop-k l = PlacedTo l.word l.sums l.p l.k
