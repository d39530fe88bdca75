-- `mender::values::inverses` meets its contract: the inverses of the first i lanes are in the highest of five.
use Rattle.mender.proofs.values.Loops.{InversesTo}
use Rattle.mender.proofs.values.inverses.Given as goal

abbrev pub invariant-loop-i : goal.invariant-loop-i
invariant-loop-i l = InversesTo l.d l.r l.q l._i
