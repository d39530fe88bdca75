-- `mender::sixth_window` meets its contract: the products lane by lane are the terms of the sixth window.
use borrow.Author.Rules.{rules}
use Rattle.mender.proofs.Repairing.{sixth_told}
use Rattle.mender.proofs.sixth_window.Goals as goal

pub returns : goal.returns
returns c = search (sixth_told, rules)
