-- `paper::last_changed` meets its contract: the addresses passed, from the end, have the same characters.
use borrow.Author.Rules.{rules}
use Rattle.paper.proofs.Correcting.{from_none, from_again, last_here, last_nowhere}
use Rattle.paper.proofs.last_changed.Goals as goal

pub loop-a-init : goal.loop-a-init
loop-a-init c = search (from_none, rules)

pub returns-then-word-a : goal.returns-then-word-a
returns-then-word-a c = search (last_here, rules)

pub loop-a-preserved : goal.loop-a-preserved
loop-a-preserved c = search (from_again, rules)

pub returns : goal.returns
returns c = search (last_nowhere, rules)
