-- `clarity::spool_clarity` meets its contract: each return is one way in which a spool ends.
use borrow.Author.Rules.{rules}
use Rattle.clarity.proofs.Ways.{no_spool, all_counted}
use Rattle.clarity.proofs.spool_clarity.Goals as goal

pub returns-then-cells-ne0 : goal.returns-then-cells-ne0
returns-then-cells-ne0 c = search (no_spool, rules)

pub returns : goal.returns
returns c = search (all_counted, rules)
