-- put_section puts the lines of a section. After i items, whatever lines complete the rest complete the section.
use Rattle.report.proofs.Loops.{section_missing, items_all, items_cut, items_more}
use Rattle.report.proofs.put_section.Goals as goal

pub returns-in_default-clause-cut : goal.returns-in_default-clause-cut
returns-in_default-clause-cut c = section_missing _ _ _ _ _ c.in_default.ensures.cases

pub returns-in_default-first_item-clause-cut : goal.returns-in_default-first_item-clause-cut
returns-in_default-first_item-clause-cut c =
    items_cut _ _ _ _ _ _ _ _ _ _ c.loop-i.invariant _ c.in-Some.count.now c.in-Some.ensures.cases.0 c.from-count.ensures c.loop-i-test.true c.in_default-first_item.ensures

pub loop-i-preserved : goal.loop-i-preserved
loop-i-preserved c = items_more _ _ _ _ _ _ _ _ _ _ c.loop-i.invariant c.loop-i-test.true _ _ c.in-Some-first_item.ensures _ _ c.put_item-next.ensures

pub returns-clause-whole : goal.returns-clause-whole
returns-clause-whole c = items_all _ _ _ _ _ _ _ _ _ _ c.loop-i.invariant _ c.in-Some.count.now c.in-Some.ensures.cases.0 c.from-count.ensures c.loop-i-test.false
