-- `blots::last_set` meets its contract: the bytes from a on are 0.
use Rattle.blots.proofs.Loops.{NoneFrom}
use Rattle.blots.proofs.last_set.Given as goal

abbrev pub invariant-loop-a : goal.invariant-loop-a
invariant-loop-a l = NoneFrom l.bytes l.a
