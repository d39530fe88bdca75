-- `encoder::held_in_range` meets its contract: one number over 63 among those passed makes their union over 63.
use Rattle.encoder.proofs.Loops.{AllTo}
use Rattle.encoder.proofs.held_in_range.Given as goal

abbrev pub invariant-loop-i : goal.invariant-loop-i
invariant-loop-i l = AllTo l.held l.all l.i
