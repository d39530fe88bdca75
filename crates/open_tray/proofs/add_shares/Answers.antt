-- `open_tray::add_shares` meets its contract: the sums passed have their shares, and the logarithm is that of the next share.
use native.Mathlib.Omega.{arith}
use borrow.Author.Rules.{rules}
use Rattle.open_tray.proofs.Sums.{shared_none, shared_again, shared_all, unchanged}
use Rattle.open_tray.proofs.add_shares.Goals as goal

pub returns-then-change-eq0 : goal.returns-then-change-eq0
returns-then-change-eq0 c = search (unchanged, rules)

pub loop-sum-init : goal.loop-sum-init
loop-sum-init c = search (shared_none, rules)

pub loop-sum-preserved : goal.loop-sum-preserved
loop-sum-preserved c =
    let so_far = c.loop-sum.invariant in
    shared_again _ _ _ _ _ _ _ so_far (omega (arith, so_far.long)) (search rules)

pub returns : goal.returns
returns c = search (shared_all, rules)
