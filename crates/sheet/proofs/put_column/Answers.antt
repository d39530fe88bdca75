-- `sheet::put_column` meets its contract: the entries passed are written, and no others.
use borrow.Author.Rules.{rules}
use Rattle.sheet.proofs.Loops.{written_start, written_again, written_all, written_nowhere, written_beyond}
use Rattle.sheet.proofs.put_column.Goals as goal

pub returns-then-s-ne-SHEET : goal.returns-then-s-ne-SHEET
returns-then-s-ne-SHEET c = search (written_nowhere, rules)

pub returns-then-from-ge-SIDE : goal.returns-then-from-ge-SIDE
returns-then-from-ge-SIDE c = search (written_beyond, rules)

pub loop-i-init : goal.loop-i-init
loop-i-init c = search (written_start, rules)

pub loop-i-preserved : goal.loop-i-preserved
loop-i-preserved c = search (written_again, rules)

pub returns : goal.returns
returns c = search (written_all, rules)
