-- `blots::clearing::cleared` meets its contract: in each lane the next sum and the place times its own.
use borrow.Author.Rules.{rules}
use Rattle.blots.proofs.Restoring.{cleared_is}
use Rattle.blots.proofs.clearing.cleared.Goals as goal

pub returns : goal.returns
returns c = search (cleared_is, rules)
