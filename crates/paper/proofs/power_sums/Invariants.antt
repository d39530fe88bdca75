-- `paper::power_sums` meets its contract: the sums passed are those of the word and of the marks, and x is the point of the next.
use Rattle.paper.proofs.Loops.{SummedTo}
use Rattle.paper.proofs.power_sums.Given as goal

abbrev pub invariant-loop-k : goal.invariant-loop-k
invariant-loop-k l = SummedTo l.word l.marks l.sum-items l.x l.k
