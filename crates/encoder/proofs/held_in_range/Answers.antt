-- `encoder::held_in_range` meets its contract: one number over 63 among those passed makes their union over 63.
use borrow.Author.Rules.{rules}
use Rattle.encoder.proofs.Loops.{all_none, all_again, all_over, all_low}
use Rattle.encoder.proofs.held_in_range.Goals as goal

pub loop-i-init : goal.loop-i-init
loop-i-init c = search (all_none, rules)

pub loop-i-preserved : goal.loop-i-preserved
loop-i-preserved c = search (all_again, rules)

pub returns-then-all-gt63 : goal.returns-then-all-gt63
returns-then-all-gt63 c = search (all_over, rules)

pub returns : goal.returns
returns c = search (all_low, rules)
