-- `blots::clearing::divided` meets its contract: two places differ, so their sum may be divided by.
use borrow.Author.Rules.{rules}
use Rattle.blots.proofs.Restoring.{divides, divided_is, inverse_fits}
use Rattle.blots.proofs.clearing.divided.Goals as goal

pub inverse-inverse-requires : goal.inverse-inverse-requires
inverse-inverse-requires c = search (divides, rules)

pub times_power-requires : goal.times_power-requires
times_power-requires c = search (inverse_fits, rules)

pub returns : goal.returns
returns c = search (divided_is, rules)
