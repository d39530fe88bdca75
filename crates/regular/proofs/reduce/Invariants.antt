-- `regular::reduce` meets its contract: the rows before row i are made.
use Rattle.regular.proofs.Stepping.{RowsTo}
use Rattle.regular.proofs.reduce.Given as goal

abbrev pub invariant-loop-i : goal.invariant-loop-i
invariant-loop-i l = RowsTo l.n l.fn.m l.m l.i
