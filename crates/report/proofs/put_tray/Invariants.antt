-- put_tray puts all lines but the header. After j sections, whatever completes the rest completes the tray.
use Rattle.report.proofs.Loops.{SectionsTo}
use Rattle.report.proofs.put_tray.Given as goal

abbrev pub invariant-loop-j : goal.invariant-loop-j
invariant-loop-j l = SectionsTo l.radius l.initial.rest l.initial.out l.out l.to l.counts l.next l.rest l.j
