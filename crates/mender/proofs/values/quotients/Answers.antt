-- `mender::values::quotients` meets its contract: one quotient in each of five lanes, raised.
use borrow.Author.Rules.{rules}
use Rattle.mender.proofs.values.Dividing.{quotients_are}
use Rattle.mender.proofs.values.quotients.Goals as goal

pub returns : goal.returns
returns c = search (quotients_are, rules)
