-- `mender::values::placed` meets its contract: the roots below l have their values, and no other place has one.
use Prim.Native.Nat.{◌-◌}
use Rattle.mender.proofs.values.Placing.{PlacedTo}
use Rattle.mender.proofs.values.placed.Given as goal

abbrev pub invariant-loop-l : goal.invariant-loop-l
invariant-loop-l l = PlacedTo l.roots l.f.sides l.f.windows l.w l.count l.first l.last l.values l.left l.l

abbrev pub decreases-loop-l : goal.decreases-loop-l
decreases-loop-l l = 63 - l.l
