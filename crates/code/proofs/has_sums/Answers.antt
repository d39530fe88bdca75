-- `code::has_sums` meets its contract: the loop keeps that the sums passed are the word's, and the point of the next.
use borrow.Author.Rules.{rules}
use Rattle.code.proofs.Loops.{sums_none, sums_again, sums_all, sums_not}
use Rattle.code.proofs.has_sums.Goals as goal

pub loop-sum-init : goal.loop-sum-init
loop-sum-init c = search (sums_none, rules)

pub returns-then-value_at-sum : goal.returns-then-value_at-sum
returns-then-value_at-sum c = search (sums_not, rules)

pub loop-sum-preserved : goal.loop-sum-preserved
loop-sum-preserved c = search (sums_again, rules)

pub returns : goal.returns
returns c = search (sums_all, rules)
