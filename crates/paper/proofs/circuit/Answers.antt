-- `paper::circuit` meets its contract: it takes each character in, by Horner's rule.
use Rattle.std.proofs.Common.{rules}
use Rattle.paper.proofs.Loops.{circuit_is}
use Rattle.paper.proofs.circuit.Goals as goal

pub returns : goal.returns
returns c = search (circuit_is, rules)
