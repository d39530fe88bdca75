-- `block::checked_row` meets its contract: it computes what the definition says.
use Rattle.block.specs.Inside.{checked}
use Rattle.block.proofs.checked_row.Goals as goal

pub returns : goal.returns
unfolding checked
returns c = simp c.ones_of.ensures
