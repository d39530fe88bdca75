-- `spool::read_spool` meets its contract: each return is one way in which reading a spool ends, in the order of the refusals.
use borrow.Author.Rules.{rules}
use Rattle.spool.proofs.Ways.{no_whole, too_many, other_room, spooled}
use Rattle.spool.proofs.read_spool.Goals as goal

pub returns-then-lines-ne0 : goal.returns-then-lines-ne0
returns-then-lines-ne0 c = search (no_whole, rules)

pub returns-then-lines-gt-SPOOL : goal.returns-then-lines-gt-SPOOL
returns-then-lines-gt-SPOOL c = search (too_many, rules)

pub returns-then-output-lines : goal.returns-then-output-lines
returns-then-output-lines c = search (other_room, rules)

pub returns : goal.returns
returns c = search (spooled, rules)
