-- `matrix::cleared` meets its contract: the rows passed are cleared, but for the pivot's, which is divided.
use Rattle.matrix.proofs.Turns.{ClearedTo}
use Rattle.matrix.proofs.cleared.Given as goal

abbrev pub invariant-loop-i : goal.invariant-loop-i
invariant-loop-i l = ClearedTo l.n l.t l.m l.pivot l.r l.i
