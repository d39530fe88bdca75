-- `smudge::first_with` meets its contract: either no window holds so many, or the lowest first cell is that of the window.
use native.Mathlib.Omega.{arith}
use Rattle.smudge.proofs.Functions.{trailing_fits, trailing_inside, with_none, with_some}
use Rattle.smudge.proofs.first_with.Goals as goal

pub returns-then-firsts-eq0 : goal.returns-then-firsts-eq0
returns-then-firsts-eq0 c = with_none _ _ c.holding-firsts.result c.holding-firsts.ensures (omega arith)

pub overflow_cast-result : goal.overflow_cast-result
overflow_cast-result c = trailing_fits _

pub overflow_shl-result : goal.overflow_shl-result
overflow_shl-result c = trailing_inside c.holding-firsts.result _ tt (λ z. absurd (omega arith))

pub returns : goal.returns
returns c = with_some _ _ c.holding-firsts.result c.holding-firsts.ensures (λ z. absurd (omega arith))
