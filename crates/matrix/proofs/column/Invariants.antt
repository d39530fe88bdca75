-- `matrix::column` meets its contract: the entries passed are those of the column.
use Rattle.matrix.proofs.Turns.{ColumnTo}
use Rattle.matrix.proofs.column.Given as goal

abbrev pub invariant-loop-i : goal.invariant-loop-i
invariant-loop-i l = ColumnTo l.r l.n l.p l.i
