-- `paper::power_row` meets its contract: the powers passed stand in the row, before the sum.
use Rattle.paper.proofs.Loops.{PowerTo}
use Rattle.paper.proofs.power_row.Given as goal

abbrev pub invariant-loop-k : goal.invariant-loop-k
invariant-loop-k l = PowerTo l.places l.sum l.n l.i l.row l.k
