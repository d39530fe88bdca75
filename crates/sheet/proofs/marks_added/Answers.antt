-- `sheet::marks_added` meets its contract: the lines passed have their marks added.
use borrow.Author.Rules.{rules}
use Rattle.sheet.proofs.Loops.{added_start, added_again, added_all}
use Rattle.sheet.proofs.marks_added.Goals as goal

pub loop-i-init : goal.loop-i-init
loop-i-init c = search (added_start, rules)

pub loop-i-preserved : goal.loop-i-preserved
loop-i-preserved c = search (added_again, rules)

pub returns : goal.returns
returns c = search (added_all, rules)
