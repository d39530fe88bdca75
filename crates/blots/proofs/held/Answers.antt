-- `blots::held` meets its contract: 63 bytes are copied over 63.
use borrow.Author.Rules.{rules}
use Rattle.line.proofs.Ways.{copied}
use Rattle.blots.proofs.held.Goals as goal

pub returns : goal.returns
returns c = search (copied, rules)
