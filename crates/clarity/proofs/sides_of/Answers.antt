-- `clarity::sides_of` meets its contract: each turn adds one cell to all, and to the dark side where it is dark.
use borrow.Author.Rules.{rules}
use Rattle.clarity.proofs.Tallying.{sides_none, sides_more, dark_tally, bright_tally, bounded}
use Rattle.clarity.proofs.Order.{ordered}
use Rattle.clarity.specs.Scan.{dark_side, bright_side}
use Rattle.clarity.proofs.sides_of.Goals as goal

pub loop-c-init : goal.loop-c-init
loop-c-init c = search (sides_none, rules)

pub loop-c-preserved : goal.loop-c-preserved
loop-c-preserved c = search (sides_more, rules)

pub returns : goal.returns
returns c = search (dark_tally, bright_tally, rules)

-- the ghost fields of what is returned: the spread of each side, and which mean is the greater
pub invariant_of-result : goal.invariant_of-result
invariant_of-result c =
    record { bounded = bounded dark_side _ _ _ _ _ (dark_tally _ _ _ _ _ _ _ _ c.loop-c.invariant c.loop-c-test.false) }

pub invariant_of-result-2 : goal.invariant_of-result-2
invariant_of-result-2 c =
    record { bounded = bounded bright_side _ _ _ _ _ (bright_tally _ _ _ _ _ _ _ _ c.loop-c.invariant c.loop-c-test.false) }

pub invariant_of-result-3 : goal.invariant_of-result-3
invariant_of-result-3 c =
    record {
      ordered = ordered _ _ _ _ _ _ _ _ (dark_tally _ _ _ _ _ _ _ _ c.loop-c.invariant c.loop-c-test.false)
          (bright_tally _ _ _ _ _ _ _ _ c.loop-c.invariant c.loop-c-test.false);
    }
