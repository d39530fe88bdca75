-- `points::part_values` meets its contract: the loop keeps the values of the characters passed, the last ones of the part.
use borrow.Author.Rules.{rules}
use Rattle.points.proofs.Steps.{part_none, part_again, part_all}
use Rattle.points.proofs.part_values.Goals as goal

pub loop-n-init : goal.loop-n-init
loop-n-init c = search (part_none, rules)

pub loop-n-preserved : goal.loop-n-preserved
loop-n-preserved c = part_again _ _ _ _ _ c.loop-n.invariant (search rules) (c.at-p.ensures.inside (search rules))

pub returns : goal.returns
returns c = search (part_all, rules)
