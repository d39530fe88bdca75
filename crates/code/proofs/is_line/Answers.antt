-- `code::is_line` meets its contract: a line has 63 characters in range and the sums of the marks, and what has them is a line.
use borrow.Author.Rules.{rules}
use Rattle.code.proofs.Loops.{wrong_length, wrong_characters, line_by_sums}
use Rattle.code.proofs.is_line.Goals as goal

pub returns-then-word-ne63 : goal.returns-then-word-ne63
returns-then-word-ne63 c = search (wrong_length, rules)

pub returns-then-not-in_range : goal.returns-then-not-in_range
returns-then-not-in_range c = search (wrong_characters, rules)

pub returns : goal.returns
returns c = search (line_by_sums, rules)
