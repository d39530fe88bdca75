-- `mender::values::both_at` meets its contract: the coefficients from m on are in.
use Rattle.mender.proofs.values.Loops.{BothTo}
use Rattle.mender.proofs.values.both_at.Given as goal

abbrev pub invariant-loop-m : goal.invariant-loop-m
invariant-loop-m l = BothTo l.f l.x l.twice l.r l.m
