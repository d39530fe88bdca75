-- `lanes::products` meets its contract: after each turn one more of the six bits of each lane of q is added.
use borrow.Author.Rules.{rules}
use Rattle.lanes.proofs.Loops.{spread_fits, products_none, products_again, products_all}
use Rattle.lanes.proofs.products.Goals as goal

pub loop-init : goal.loop-init
loop-init c = search (products_none, rules)

pub overflow_mul-s : goal.overflow_mul-s
overflow_mul-s c = search (spread_fits, rules)

pub loop-preserved : goal.loop-preserved
loop-preserved c = search (products_again, rules)

pub returns : goal.returns
returns c = products_all _ _ _ _ _ _ (search rules) c.loop.invariant
