-- `clarity::ratio_of` meets its contract: either the denominator is 0, or it divides.
use borrow.Author.Rules.{rules}
use Rattle.clarity.proofs.Ratio.{flat, steep}
use Rattle.clarity.proofs.ratio_of.Goals as goal

pub returns-then-d-eq0 : goal.returns-then-d-eq0
returns-then-d-eq0 c = search (flat, rules)

pub returns : goal.returns
returns c = search (steep, rules)
