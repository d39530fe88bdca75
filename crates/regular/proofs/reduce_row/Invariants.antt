-- `regular::reduce_row` meets its contract: the entries before j are made.
use Rattle.regular.proofs.Stepping.{RowTo}
use Rattle.regular.proofs.reduce_row.Given as goal

abbrev pub invariant-loop-j : goal.invariant-loop-j
invariant-loop-j l = RowTo l.first l.n l.i l.fn.row l.row l.j
