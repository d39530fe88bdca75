-- `paper::Assumption::power_rows` meets its contract: the rows passed are powers, each before its sum.
use Rattle.paper.proofs.Loops.{PowersTo}
use Rattle.paper.proofs.Assumption.power_rows.Given as goal

abbrev pub invariant-loop-i : goal.invariant-loop-i
invariant-loop-i l = PowersTo l.places l.self.sums l.self.n l.m l.i
