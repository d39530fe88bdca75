-- `blots::bit` meets its contract: 63 bits hold it.
use Rattle.blots.proofs.Loops.{bit_is}
use Rattle.blots.proofs.bit.Goals as goal

pub returns : goal.returns
returns c = bit_is _ c.requires
