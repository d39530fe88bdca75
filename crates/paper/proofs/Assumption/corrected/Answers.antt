-- `paper::Assumption::corrected` meets its contract: each magnitude is added at the address of its place.
use borrow.Author.Rules.{rules}
use Rattle.paper.proofs.Correcting.{corrected_none, corrected_again, corrected_all}
use Rattle.paper.proofs.Assumption.corrected.Goals as goal

pub loop-k-init : goal.loop-k-init
loop-k-init c = search (corrected_none, rules)

pub loop-k-preserved : goal.loop-k-preserved
loop-k-preserved c = search (corrected_again, rules)

pub returns : goal.returns
returns c = search (corrected_all, rules)
