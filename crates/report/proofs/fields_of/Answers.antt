-- fields_of gives the fields of an item, for each kind by its reader.
use borrow.Author.Rules.{rules}
use Rattle.report.proofs.Fields.{of_line, of_ring, of_block}
use Rattle.report.proofs.fields_of.Goals as goal

pub returns-in-Line : goal.returns-in-Line
returns-in-Line c = search (of_line, rules)

pub returns-in-Ring : goal.returns-in-Ring
returns-in-Ring c = search (of_ring, rules)

pub returns-in-Block : goal.returns-in-Block
returns-in-Block c = search (of_block, rules)
