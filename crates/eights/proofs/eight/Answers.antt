-- `eights::eight` meets its contract: the bytes joined are the number, and each is below 256.
use native.Mathlib.Omega.{arith}
use Rattle.eights.proofs.Laws.{eight_holds}
use Rattle.eights.proofs.eight.Goals as goal

pub returns : goal.returns
returns c = eight_holds _ _ _ _ _ _ _ _ _ (omega arith) (omega arith) (omega arith) (omega arith) (omega arith) (omega arith) (omega arith) (omega arith) (omega arith)
