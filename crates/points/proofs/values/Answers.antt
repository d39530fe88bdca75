-- `points::values` meets its contract: the loop keeps the values of the parts passed, and three are joined.
use borrow.Author.Rules.{rules}
use Rattle.points.proofs.Steps.{parts_none, parts_again, other_length, values_joined}
use Rattle.points.proofs.values.Goals as goal

pub returns-then-word-ne63 : goal.returns-then-word-ne63
returns-then-word-ne63 c = search (other_length, rules)

pub loop-k-init : goal.loop-k-init
loop-k-init c = search (parts_none, rules)

pub loop-k-preserved : goal.loop-k-preserved
loop-k-preserved c = search (parts_again, rules)

pub returns : goal.returns
returns c = search (values_joined, rules)
