-- `regular::reduce` meets its contract: the rows before row i are made.
use borrow.Author.Rules.{rules}
use Rattle.regular.proofs.Stepping.{rows_none, rows_turn, rows_all}
use Rattle.regular.proofs.reduce.Goals as goal

pub loop-i-init : goal.loop-i-init
loop-i-init c = search (rows_none, rules)

pub loop-i-preserved : goal.loop-i-preserved
loop-i-preserved c = rows_turn _ _ _ _ _ c.loop-i-test.true c.loop-i.invariant c.reduce_row.ensures

pub returns : goal.returns
returns c = search (rows_all, rules)
