-- `regular::put_windows` meets its contract: the rows before row i are windows.
use Rattle.regular.proofs.Stepping.{WindowsTo}
use Rattle.regular.proofs.put_windows.Given as goal

abbrev pub invariant-loop-i : goal.invariant-loop-i
invariant-loop-i l = WindowsTo l.s l.m l.i
