-- `line::error_sums` meets its contract: the sums of the word and those of the marks are added.
use borrow.Author.Rules.{rules}
use Rattle.line.proofs.Ways.{errors_are}
use Rattle.line.proofs.error_sums.Goals as goal

pub returns : goal.returns
returns c = search (errors_are, rules)
