-- `matrix::cleared` meets its contract: the rows passed are cleared, but for the pivot's, which is divided.
use borrow.Author.Rules.{rules}
use Rattle.matrix.proofs.Turns.{cleared_none, cleared_skip, cleared_again, cleared_all}
use Rattle.matrix.proofs.cleared.Goals as goal
use Rattle.matrix.proofs.cleared.Goals.{else-i-t, then-i-t}

pub loop-i-init : goal.loop-i-init
loop-i-init c = search (cleared_none, rules)

pub loop-i-preserved : goal.loop-i-preserved
loop-i-preserved c =
    elim c.if-i-t.branch [
      | then-i-t w ↦ cleared_again _ _ _ _ _ _ c.loop-i.invariant (search rules) _ _ w.r-is (search rules) (search rules) w.row_added.ensures
      | else-i-t w ↦ search (cleared_skip, rules)
    ]

pub returns : goal.returns
returns c = search (cleared_all, rules)
