-- `line::nearest_line` meets its contract: a line is a word with the power sums of the marks.
use borrow.Author.Rules.{rules}
use Rattle.line.proofs.Ways.{nearest_line_is}
use Rattle.line.proofs.nearest_line.Goals as goal

pub returns : goal.returns
returns c = search (nearest_line_is, rules)
