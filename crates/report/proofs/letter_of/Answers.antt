-- letter_of gives the letter of each kind.
use borrow.Author.Rules.{rules}
use Rattle.report.proofs.Fields.{letter_line, letter_ring, letter_block}
use Rattle.report.proofs.letter_of.Goals as goal

pub returns-in-Line : goal.returns-in-Line
returns-in-Line c = search (letter_line, rules)

pub returns-in-Ring : goal.returns-in-Ring
returns-in-Ring c = search (letter_ring, rules)

pub returns-in-Block : goal.returns-in-Block
returns-in-Block c = search (letter_block, rules)
