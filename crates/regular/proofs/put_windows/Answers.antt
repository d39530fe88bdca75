-- `regular::put_windows` meets its contract: the rows before row i are windows.
use borrow.Author.Rules.{rules}
use Rattle.regular.proofs.Stepping.{windows_none, windows_turn, windows_all}
use Rattle.regular.proofs.put_windows.Goals as goal

pub loop-i-init : goal.loop-i-init
loop-i-init c = search (windows_none, rules)

pub loop-i-preserved : goal.loop-i-preserved
loop-i-preserved c = windows_turn _ _ _ _ (search rules) c.loop-i-test.true c.loop-i.invariant c.copy_from_slice.ensures.after

pub returns : goal.returns
returns c = search (windows_all, rules)
