-- `field::times` meets its contract: the entry of the table.
use borrow.Author.Rules.{rules}
use Rattle.field.proofs.Lookup.{looked_up_lem}
use Rattle.field.proofs.times.Goals as goal

pub returns : goal.returns
returns c = search (looked_up_lem, rules)
