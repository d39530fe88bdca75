-- `blots::set_of` meets its contract: of the bytes passed each that is not 0 has its bit.
use borrow.Author.Rules.{rules}
use Rattle.blots.proofs.Loops.{holds_none, holds_more, holds_skip, holds_all}
use Rattle.blots.proofs.set_of.Goals as goal
use Rattle.blots.proofs.set_of.Goals.{else-b-ne0, then-b-ne0}

pub loop-a-init : goal.loop-a-init
loop-a-init c = search (holds_none, rules)

pub loop-a-preserved : goal.loop-a-preserved
loop-a-preserved c = elim c.if-b-ne0.branch [ then-b-ne0 w ↦ search (holds_more, rules) | else-b-ne0 w ↦ search (holds_skip, rules) ]

pub returns : goal.returns
returns c = search (holds_all, rules)
