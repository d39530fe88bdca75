-- `mender::rows::lane_of` meets its contract: a shift by six bits for each lane before it.
use borrow.Author.Rules.{rules}
use Rattle.mender.proofs.rows.Loops.{lane_shift}
use Rattle.mender.proofs.rows.lane_of.Goals as goal

pub returns : goal.returns
returns c = search (lane_shift, rules)
