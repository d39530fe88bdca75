-- `mender::changed` meets its contract: one address differs.
use borrow.Author.Rules.{rules}
use Rattle.mender.proofs.Repairing.{one_changed}
use Rattle.mender.proofs.changed.Goals as goal

pub returns : goal.returns
returns c = search (one_changed, rules)
