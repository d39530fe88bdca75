-- `clarity::scan_clarity` meets its contract: each return is one way in which a scan ends, in the order of the refusals.
use borrow.Author.Rules.{rules}
use Rattle.clarity.proofs.Ways.{no_scan, one_sided, found}
use Rattle.clarity.proofs.scan_clarity.Goals as goal

pub returns-then-cells-ne-CELLS : goal.returns-then-cells-ne-CELLS
returns-then-cells-ne-CELLS c = search (no_scan, rules)

pub returns-then-sides-eq0 : goal.returns-then-sides-eq0
returns-then-sides-eq0 c = search (one_sided, rules)

pub returns : goal.returns
returns c = search (found, rules)
