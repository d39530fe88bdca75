-- `ring::list_where` meets its contract: the loop keeps that of the starts below this one those that pass are listed, so that whatever lists the rest completes the list.
use borrow.Author.Rules.{rules}
use Rattle.ring.proofs.Loops.{listed_none, listed_one, listed_not, listed_all}
use Rattle.ring.proofs.list_where.Goals as goal
use Rattle.ring.proofs.list_where.Goals.{then-passes, else-passes}

pub loop-start-init : goal.loop-start-init
loop-start-init g c = search (listed_none, rules)

pub loop-start-preserved : goal.loop-start-preserved
loop-start-preserved g c = elim c.if-passes.branch [ then-passes w ↦ search (listed_one, rules) | else-passes w ↦ search (listed_not, rules) ]

pub returns : goal.returns
returns g c = search (listed_all, rules)
