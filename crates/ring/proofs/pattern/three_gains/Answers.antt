-- `ring::pattern::three_gains` meets its contract: a gain is at most 2, so the sum of three fits.
use native.Mathlib.Omega.{arith}
use Rattle.ring.proofs.pattern.Gains.{gain_most}
use Rattle.ring.proofs.pattern.three_gains.Goals as goal

pub overflow_add-result : goal.overflow_add-result
overflow_add-result c = let a = c.args in
    omega (arith, gain_most a.first 32, gain_most a.second 8)

pub overflow_add-result-2 : goal.overflow_add-result-2
overflow_add-result-2 c = let a = c.args in
    omega (arith, gain_most a.first 32, gain_most a.second 8, gain_most a.third 1)
