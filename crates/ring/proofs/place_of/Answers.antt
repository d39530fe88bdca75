-- `ring::place_of` meets its contract: each return is one of the two directions.
use native.Mathlib.Omega.{arith}
use Rattle.ring.proofs.Loops.{place_forward, place_backward}
use Rattle.ring.proofs.place_of.Goals as goal

pub returns-then-start-lt63 : goal.returns-then-start-lt63
returns-then-start-lt63 c = place_forward _ _ (omega arith)

pub returns : goal.returns
returns c = place_backward _ _ (omega arith)
