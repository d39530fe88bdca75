-- `matrix::row_over` meets its contract: the entries passed are divided.
use Rattle.matrix.proofs.Turns.{OverTo}
use Rattle.matrix.proofs.row_over.Given as goal

abbrev pub invariant-loop-x : goal.invariant-loop-x
invariant-loop-x l = OverTo l.fn.row l.divisor l.x-items l.x-index
