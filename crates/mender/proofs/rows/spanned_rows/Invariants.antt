-- `mender::rows::spanned_rows` meets its contract: after j windows the rows are those that combine j windows to 0.
use Rattle.mender.specs.Rows.{RowsFrom}
use Rattle.mender.proofs.rows.spanned_rows.Given as goal

abbrev pub invariant-loop-j : goal.invariant-loop-j
invariant-loop-j l = RowsFrom l.sums l.e l.j l.x
