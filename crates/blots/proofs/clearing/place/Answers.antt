-- `blots::clearing::place` meets its contract: the power of α that the address has.
use borrow.Author.Rules.{rules}
use Rattle.blots.proofs.Restoring.{place_is}
use Rattle.blots.proofs.clearing.place.Goals as goal

pub returns : goal.returns
returns c = search (place_is, rules)
