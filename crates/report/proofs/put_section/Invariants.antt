-- put_section puts the lines of a section. After i items, whatever lines complete the rest complete the section.
use Rattle.report.proofs.Loops.{ItemsTo}
use Rattle.report.proofs.put_section.Given as goal

abbrev pub invariant-loop-i : goal.invariant-loop-i
invariant-loop-i l = ItemsTo l.kind l.radius l.initial.rest l.count l.initial.out l.out l.to l.next l.rest l.i
