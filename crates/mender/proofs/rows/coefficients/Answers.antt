-- `mender::rows::coefficients` meets its contract: the coefficients before k are set, and q has those from k on.
use borrow.Author.Rules.{rules}
use Rattle.mender.proofs.rows.Loops.{coefficients_none, coefficients_again, coefficients_all}
use Rattle.mender.proofs.rows.coefficients.Goals as goal

pub loop-c-init : goal.loop-c-init
loop-c-init c = search (coefficients_none, rules)

pub loop-c-preserved : goal.loop-c-preserved
loop-c-preserved c = search (coefficients_again, rules)

pub returns : goal.returns
returns c = search (coefficients_all, rules)
