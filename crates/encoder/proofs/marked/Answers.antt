-- The marks are added one at a time, at the places of addresses 52, 55 and 62.
use borrow.Author.Rules.{rules}
use Rattle.encoder.proofs.Loops.{marked_is}
use Rattle.encoder.proofs.marked.Goals as goal

pub returns : goal.returns
returns c = search (marked_is, rules)
