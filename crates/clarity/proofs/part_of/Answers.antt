-- `clarity::part_of` meets its contract: a cell is dark or it is not.
use borrow.Author.Rules.{rules}
use Rattle.clarity.proofs.Tallying.{dark_adds, bright_adds}
use Rattle.clarity.proofs.part_of.Goals as goal

pub returns-then-c-threshold : goal.returns-then-c-threshold
returns-then-c-threshold c = dark_adds _ _ _ _ c.if-c-threshold.true (search rules) c.from-value.ensures c.square_of-square.ensures

pub returns : goal.returns
returns c = bright_adds _ _ _ _ c.if-c-threshold.false (search rules) c.from-value.ensures c.square_of-square.ensures
