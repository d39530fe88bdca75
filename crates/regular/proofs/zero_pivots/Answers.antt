-- `regular::zero_pivots` meets its contract: n steps are made.
use borrow.Author.Rules.{rules}
use Rattle.regular.proofs.Stepping.{steps_none, steps_turn, steps_all}
use Rattle.regular.proofs.zero_pivots.Goals as goal

pub loop-n-init : goal.loop-n-init
loop-n-init c = search (steps_none, rules)

pub loop-n-preserved : goal.loop-n-preserved
loop-n-preserved c = search (steps_turn, rules)

pub returns : goal.returns
returns c = search (steps_all, rules)
