-- `lanes::scale` meets its contract: after so many turns as many bits are added to every lane.
use Rattle.lanes.proofs.Loops.{ScaledTo}
use Rattle.lanes.proofs.scale.Given as goal

abbrev pub invariant-loop : goal.invariant-loop
invariant-loop l = ScaledTo l.p l.f l.a l.b l.s l.counter
