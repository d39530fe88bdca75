-- `encoder::unpacked` meets its contract: the last check is stored, then a lane at each turn.
use Rattle.encoder.proofs.Loops.{UnpackedTo}
use Rattle.encoder.proofs.unpacked.Given as goal

abbrev pub invariant-loop-i : goal.invariant-loop-i
invariant-loop-i l = UnpackedTo l.ten l.zeroth l.checks l.rest l.i
