-- `lanes::scale` meets its contract: after each turn one more of the six bits of f is added to every lane.
use borrow.Author.Rules.{rules}
use Rattle.lanes.proofs.Loops.{bit_fits, scaled_none, scaled_again, scaled_all}
use Rattle.lanes.proofs.scale.Goals as goal

pub loop-init : goal.loop-init
loop-init c = search (scaled_none, rules)

pub overflow_mul-s : goal.overflow_mul-s
overflow_mul-s c = search (bit_fits, rules)

pub loop-preserved : goal.loop-preserved
loop-preserved c = search (scaled_again, rules)

pub returns : goal.returns
returns c = scaled_all _ _ _ _ _ _ (search rules) c.loop.invariant
