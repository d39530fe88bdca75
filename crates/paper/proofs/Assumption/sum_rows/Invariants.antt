-- `paper::Assumption::sum_rows` meets its contract: the rows passed are sums in a row.
use Rattle.paper.proofs.Loops.{RowsTo}
use Rattle.paper.proofs.Assumption.sum_rows.Given as goal

abbrev pub invariant-loop-i : goal.invariant-loop-i
invariant-loop-i l = RowsTo l.self.sums l.self.n l.m l.i
