-- `open_tray::sums_of` meets its contract: the sums of a line and those of the marks, added, are those of the line with its marks off.
use borrow.Author.Rules.{rules}
use Rattle.open_tray.proofs.Sums.{afresh}
use Rattle.open_tray.proofs.sums_of.Goals as goal

pub returns : goal.returns
returns c = search (afresh, rules)
