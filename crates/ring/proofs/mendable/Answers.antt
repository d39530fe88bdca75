-- `ring::mendable` meets its contract: what the mender finds, or not, is told as it is.
use borrow.Author.Rules.{rules}
use Rattle.ring.proofs.Loops.{mend_told}
use Rattle.ring.proofs.mendable.Goals as goal

pub returns : goal.returns
returns c = search (mend_told, rules)
