-- `points::part_values` meets its contract: the loop keeps the values of the characters passed, the last ones of the part.
use Rattle.points.proofs.Steps.{PartTo}
use Rattle.points.proofs.part_values.Given as goal

abbrev pub invariant-loop-n : goal.invariant-loop-n
invariant-loop-n l = PartTo l.word l.i l.p l.n
