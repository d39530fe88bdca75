-- `mender::rows::coefficients` meets its contract: the coefficients before k are set, and q has those from k on.
use Rattle.mender.proofs.rows.Loops.{CoefficientsTo}
use Rattle.mender.proofs.rows.coefficients.Given as goal

abbrev pub invariant-loop-c : goal.invariant-loop-c
invariant-loop-c l = CoefficientsTo l.x l.c-items l.q l.c-index
