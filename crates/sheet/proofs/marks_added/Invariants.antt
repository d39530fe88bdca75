-- `sheet::marks_added` meets its contract: the lines passed have their marks added.
use Rattle.sheet.proofs.Loops.{AddedTo}
use Rattle.sheet.proofs.marks_added.Given as goal

abbrev pub invariant-loop-i : goal.invariant-loop-i
invariant-loop-i l = AddedTo l.initial.s l.s l.i
