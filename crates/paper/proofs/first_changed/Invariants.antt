-- `paper::first_changed` meets its contract: the addresses passed have the same characters.
use Rattle.paper.proofs.Correcting.{SameTo}
use Rattle.paper.proofs.first_changed.Given as goal

abbrev pub invariant-loop-a : goal.invariant-loop-a
invariant-loop-a l = SameTo l.word l.line l.a
