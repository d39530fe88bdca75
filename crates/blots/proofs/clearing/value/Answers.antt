-- `blots::clearing::value` meets its contract: times the fifth power of the place.
use borrow.Author.Rules.{rules}
use Rattle.blots.proofs.Restoring.{value_is}
use Rattle.blots.proofs.clearing.value.Goals as goal

pub returns : goal.returns
returns c = search (value_is, rules)
