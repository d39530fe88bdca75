-- `mender::rows::row_cleared` meets its contract: the rows after row p and before row i are cleared.
use borrow.Author.Rules.{rules}
use Rattle.mender.proofs.rows.Loops.{tables_are, scaled_fits, inverse_lane, pivot_divides, part_fits, rows_cleared_none, rows_cleared_again, rows_cleared_all}
use Rattle.mender.proofs.rows.row_cleared.Goals as goal

pub inverse-inverse-requires : goal.inverse-inverse-requires
inverse-inverse-requires c = pivot_divides _ _ _ c.requires.2 c.lane_of.ensures

pub multiples-high-requires : goal.multiples-high-requires
multiples-high-requires c = scaled_fits _ _ _ c.scale.ensures

pub loop-i-init : goal.loop-i-init
loop-i-init c = search (inverse_lane, tables_are, rows_cleared_none, rules)

pub bounds-high-from : goal.bounds-high-from
bounds-high-from c = search (part_fits, rules)

pub loop-i-preserved : goal.loop-i-preserved
loop-i-preserved c =
    let inv = c.loop-i.invariant in
    (search rules, inv.1, inv.2, rows_cleared_again _ _ _ _ _ _ _ _ _ _ _ _ inv.0 c.loop-i-test.true inv.1 c.lane_of-in-loop-i.ensures c.times-f.ensures c.from.ensures c.from-in-loop-i.ensures inv.2 inv.3)

pub returns : goal.returns
returns c = search (rows_cleared_all, rules)
