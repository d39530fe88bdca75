-- `matrix::row_added` meets its contract: the entries passed have theirs added.
use Rattle.matrix.proofs.Turns.{AddedTo}
use Rattle.matrix.proofs.row_added.Given as goal

abbrev pub invariant-loop-k : goal.invariant-loop-k
invariant-loop-k l = AddedTo l.fn.row l.f l.other l.x-items l.k
