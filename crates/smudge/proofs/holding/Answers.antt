-- `smudge::holding` meets its contract: each arm is a case of the definition.
use mathlib.Core.Path.{refl}
use native.Mathlib.Omega.{arith}
use Rattle.smudge.specs.Inside.{holding}
use Rattle.smudge.proofs.Functions.{holding_four}
use Rattle.smudge.proofs.holding.Goals as goal

pub returns-in-0 : goal.returns-in-0
unfolding holding
returns-in-0 c = rw c.in-0.is refl

pub returns-in-1 : goal.returns-in-1
unfolding holding
returns-in-1 c = rw c.in-1.is refl

pub returns-in-2 : goal.returns-in-2
unfolding holding
returns-in-2 c = rw c.in-2.is refl

pub returns-in-3 : goal.returns-in-3
unfolding holding
returns-in-3 c = rw c.in-3.is refl

pub returns-in_default : goal.returns-in_default
returns-in_default c = holding_four _ _ _ _ _ (omega arith)
