-- `blots::set_in` meets its contract: the bytes passed are counted.
use Rattle.std.proofs.Common.{arith}
use Rattle.std.proofs.lemmas.Grind.{common_steps}
use Rattle.blots.proofs.Loops.{counted}
use Rattle.blots.proofs.set_in.Goals as goal

pub returns : goal.returns
returns c = counted c.args.bytes c.from.result (grind (arith, common_steps))
