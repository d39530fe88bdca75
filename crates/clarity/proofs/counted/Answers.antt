-- `clarity::counted` meets its contract: in each arm one count is greater by 1.
use borrow.Author.Rules.{rules}
use Rattle.clarity.proofs.Loops.{ratio_more, no_spread_more, refusal_more}
use Rattle.clarity.proofs.counted.Goals as goal

pub returns-in-Ok-Ratio : goal.returns-in-Ok-Ratio
returns-in-Ok-Ratio c = search (ratio_more, rules)

pub returns-in-Ok-NoSpread : goal.returns-in-Ok-NoSpread
returns-in-Ok-NoSpread c = search (no_spread_more, rules)

pub returns-in-Err : goal.returns-in-Err
returns-in-Err c = search (refusal_more, rules)
