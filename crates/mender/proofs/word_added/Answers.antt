-- `mender::word_added` meets its contract: the characters passed so far are added.
use borrow.Author.Rules.{rules}
use Rattle.mender.proofs.Loops.{summed_none, summed_second, summed_all}
use Rattle.mender.proofs.word_added.Goals as goal

pub loop-a-init : goal.loop-a-init
loop-a-init c = search (summed_none, rules)

pub loop-a-preserved : goal.loop-a-preserved
loop-a-preserved c = search (summed_second, rules)

pub returns : goal.returns
returns c = search (summed_all, rules)
