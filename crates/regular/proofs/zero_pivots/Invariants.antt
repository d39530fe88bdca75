-- `regular::zero_pivots` meets its contract: n steps are made.
use Rattle.regular.proofs.Stepping.{StepsTo}
use Rattle.regular.proofs.zero_pivots.Given as goal

abbrev pub invariant-loop-n : goal.invariant-loop-n
invariant-loop-n l = StepsTo l.fn.m l.m l.open l.n
