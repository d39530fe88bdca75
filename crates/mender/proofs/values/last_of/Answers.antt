-- `mender::values::last_of` meets its contract: by whether there are any.
use borrow.Author.Rules.{rules}
use Rattle.mender.proofs.values.Placing.{last_none, last_some}
use Rattle.mender.proofs.values.last_of.Goals as goal

pub returns-then-last-eq-NOWHERE : goal.returns-then-last-eq-NOWHERE
returns-then-last-eq-NOWHERE c = search (last_none, rules)

pub returns : goal.returns
returns c = search (last_some, rules)
