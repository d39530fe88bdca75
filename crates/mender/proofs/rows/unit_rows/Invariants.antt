-- `mender::rows::unit_rows` meets its contract: the first i rows are set.
use Rattle.mender.proofs.rows.Loops.{UnitRowsTo}
use Rattle.mender.proofs.rows.unit_rows.Given as goal

abbrev pub invariant-loop-i : goal.invariant-loop-i
invariant-loop-i l = UnitRowsTo l.sums l.x l.q l.one l.i
