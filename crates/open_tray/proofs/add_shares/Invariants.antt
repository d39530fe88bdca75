-- `open_tray::add_shares` meets its contract: the sums passed have their shares, and the logarithm is that of the next share.
use Rattle.open_tray.proofs.Sums.{SharedTo}
use Rattle.open_tray.proofs.add_shares.Given as goal

abbrev pub invariant-loop-sum : goal.invariant-loop-sum
invariant-loop-sum l = SharedTo l.initial.sum-items l.address l.change l.sum-items l.log l.sum-index
