-- `mender::rows::row_cleared` meets its contract: the rows after row p and before row i are cleared.
use Prim.Native.Nat.{◌<◌}
use mathlib.Core.Path.{◌≡◌}
use lib.ListN.{get_or}
use Rattle.field.specs.Inside.{inverse}
use Rattle.lanes.specs.Lanes.{lane}
use Rattle.mender.proofs.rows.Loops.{Tables, RowsClearedTo}
use Rattle.mender.proofs.rows.row_cleared.Given as goal

abbrev pub invariant-loop-i : goal.invariant-loop-i
invariant-loop-i l = (l.p < l.i) × (l.inverse ≡ inverse (lane (get_or l.initial.x l.p 0) l.j)) × Tables (get_or l.initial.x l.p 0) l.low l.high × RowsClearedTo l.initial.x l.j l.p l.x l.i
