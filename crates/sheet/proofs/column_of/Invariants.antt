-- `sheet::column_of` meets its contract: the entries passed are those of the column.
use Rattle.sheet.proofs.Loops.{TakenTo}
use Rattle.sheet.proofs.column_of.Given as goal

abbrev pub invariant-loop-i : goal.invariant-loop-i
invariant-loop-i l = TakenTo l.s l.a l.c-items l.i
