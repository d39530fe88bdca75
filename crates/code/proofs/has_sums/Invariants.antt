-- `code::has_sums` meets its contract: the loop keeps that the sums passed are the word's, and the point of the next.
use Rattle.code.proofs.Loops.{SumsTo}
use Rattle.code.proofs.has_sums.Given as goal

abbrev pub invariant-loop-sum : goal.invariant-loop-sum
invariant-loop-sum l = SumsTo l.word l.sum-items l.x l.sum-index
