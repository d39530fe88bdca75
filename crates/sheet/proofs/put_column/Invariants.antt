-- `sheet::put_column` meets its contract: the entries passed are written, and no others.
use Rattle.sheet.proofs.Loops.{WrittenTo}
use Rattle.sheet.proofs.put_column.Given as goal

abbrev pub invariant-loop-i : goal.invariant-loop-i
invariant-loop-i l = WrittenTo l.c-items l.a l.initial.s l.s l.i
