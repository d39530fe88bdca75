-- `mender::rows::spanned_rows` meets its contract: after j windows the rows are those that combine j windows to 0.
use borrow.Author.Rules.{rules}
use Prim.Native.Nat.{◌<◌}
use native.Mathlib.Omega.{arith}
use Rattle.mender.proofs.rows.Elimination.{from_units, from_step, from_skip, from_all}
use Rattle.mender.proofs.rows.spanned_rows.Goals as goal
use Rattle.mender.proofs.rows.spanned_rows.Goals.{in-Some, in_default}

pub loop-j-init : goal.loop-j-init
loop-j-init c = search (from_units, rules)

pub loop-j-preserved : goal.loop-j-preserved
loop-j-preserved c =
    let few : c.loop-j.j < 5 = omega arith in
    elim c.match-pivot_row.branch [ in-Some w ↦ from_step _ _ _ _ _ _ _ few c.loop-j.invariant w.in-Some.ensures w.row_cleared-cleared.ensures w.x-is | in_default w ↦ from_skip _ _ _ _ _ few c.loop-j.invariant w.in_default.ensures w.x-is ]

pub returns : goal.returns
returns c = search (from_all, rules)
