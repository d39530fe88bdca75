-- `ring::is_undecided` meets its contract: the bit of the start is looked at.
use borrow.Author.Rules.{rules}
use Rattle.ring.proofs.Filtering.{forward_told, backward_told}
use Rattle.ring.proofs.is_undecided.Goals as goal

pub returns-then-start-ge63 : goal.returns-then-start-ge63
returns-then-start-ge63 c = search (backward_told, rules)

pub returns : goal.returns
returns c = search (forward_told, rules)
