-- `mender::corrected` meets its contract: errors are added to 63 characters, and to no others.
use borrow.Author.Rules.{rules}
use Rattle.mender.proofs.Repairing.{corrects_whole}
use Rattle.mender.proofs.corrected.Goals as goal

pub returns : goal.returns
returns c = search (corrects_whole, rules)
