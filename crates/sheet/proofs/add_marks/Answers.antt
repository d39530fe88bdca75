-- `sheet::add_marks` meets its contract: the three marks are added to a line, and to nothing else.
use borrow.Author.Rules.{rules}
use Rattle.sheet.proofs.Loops.{marks_put, no_marks_put}
use Rattle.sheet.proofs.add_marks.Goals as goal

pub returns-then-line-ne-SIDE : goal.returns-then-line-ne-SIDE
returns-then-line-ne-SIDE c = search (no_marks_put, rules)

pub returns : goal.returns
returns c = search (marks_put, rules)
