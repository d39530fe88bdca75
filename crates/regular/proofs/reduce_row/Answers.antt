-- `regular::reduce_row` meets its contract: the entries before j are made.
use Rattle.regular.proofs.Stepping.{row_first, row_turn, row_all}
use Rattle.regular.proofs.reduce_row.Goals as goal

pub loop-j-init : goal.loop-j-init
loop-j-init c = row_first _ _ _ _ _ c.requires.1 c.told-row c.crossed_square.ensures.at

pub loop-j-preserved : goal.loop-j-preserved
loop-j-preserved c = row_turn _ _ _ _ _ _ _ c.loop-j-test.true c.loop-j.invariant c.crossed.ensures.at

pub returns : goal.returns
returns c = row_all _ _ _ _ _ _ c.loop-j-test.false c.loop-j.invariant
