-- `ring::listable` meets its contract: where the filter decides, there are no errors; elsewhere they are looked for.
use borrow.Author.Rules.{rules}
use Rattle.ring.proofs.Filtering.{told_not}
use Rattle.ring.proofs.listable.Goals as goal

pub returns-else-is_undecided : goal.returns-else-is_undecided
returns-else-is_undecided c = search (told_not, rules)
