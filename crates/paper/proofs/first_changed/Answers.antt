-- `paper::first_changed` meets its contract: the addresses passed have the same characters.
use borrow.Author.Rules.{rules}
use Rattle.paper.proofs.Correcting.{same_none, same_again, first_here, first_nowhere}
use Rattle.paper.proofs.first_changed.Goals as goal

pub loop-a-init : goal.loop-a-init
loop-a-init c = search (same_none, rules)

pub returns-then-word-a : goal.returns-then-word-a
returns-then-word-a c = search (first_here, rules)

pub loop-a-preserved : goal.loop-a-preserved
loop-a-preserved c = search (same_again, rules)

pub returns : goal.returns
returns c = search (first_nowhere, rules)
