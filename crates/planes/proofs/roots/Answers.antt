-- `planes::roots` meets its contract: by Horner's rule, from the highest coefficient down, at every place.
use borrow.Author.Rules.{rules}
use Rattle.planes.proofs.Loops.{taken_last, taken_again, taken_all}
use Rattle.planes.proofs.roots.Goals as goal

pub loop-k-init : goal.loop-k-init
loop-k-init c = search (taken_last, rules)

pub loop-k-preserved : goal.loop-k-preserved
loop-k-preserved c = search (taken_again, rules)

pub returns : goal.returns
returns c = search (taken_all, rules)
