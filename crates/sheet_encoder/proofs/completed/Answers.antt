-- `sheet_encoder::completed` meets its contract: the columns passed are completed, and the others are as they were.
use borrow.Author.Rules.{rules}
use Rattle.sheet_encoder.proofs.Loops.{completed_none, column_low, completed_again, completed_all}
use Rattle.sheet_encoder.proofs.completed.Goals as goal

pub loop-a-init : goal.loop-a-init
loop-a-init c = search (completed_none, rules)

pub clean_word-word-requires : goal.clean_word-word-requires
clean_word-word-requires c = search (column_low, rules)

pub loop-a-preserved : goal.loop-a-preserved
loop-a-preserved c = search (completed_again, rules)

pub returns : goal.returns
returns c = search (completed_all, rules)
