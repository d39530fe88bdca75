-- `paper::last_changed` meets its contract: the addresses passed, from the end, have the same characters.
use Rattle.paper.proofs.Correcting.{SameFrom}
use Rattle.paper.proofs.last_changed.Given as goal

abbrev pub invariant-loop-a : goal.invariant-loop-a
invariant-loop-a l = SameFrom l.word l.line l.a
