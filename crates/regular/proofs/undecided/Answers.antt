-- `regular::undecided` meets its contract: the sums before sum k are set, and their windows have no pivot of 0 where the answer has a 0.
use borrow.Author.Rules.{rules}
use native.Mathlib.Omega.{arith}
use Rattle.regular.proofs.Stepping.{sums_none, sums_turn}
use Rattle.regular.proofs.Loops.{no_errors_where}
use Rattle.regular.proofs.undecided.Goals as goal

pub loop-k-init : goal.loop-k-init
loop-k-init c = search (sums_none, rules)

pub loop-k-preserved : goal.loop-k-preserved
loop-k-preserved c = search (sums_turn, rules)

pub returns : goal.returns
returns c = no_errors_where _ _ _ _ c.loop-k-test.array_long (λ k l. c.loop-k.invariant.at k (omega arith)) c.singular.ensures
