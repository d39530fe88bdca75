-- `sheet::taken` meets its contract: a sheet is copied over zeros, and for anything else they stand.
use borrow.Author.Rules.{rules}
use Rattle.sheet.proofs.Loops.{taken_none, taken_whole}
use Rattle.sheet.proofs.taken.Goals as goal

pub returns-then-given-ne-SHEET : goal.returns-then-given-ne-SHEET
returns-then-given-ne-SHEET c = search (taken_none, rules)

pub returns : goal.returns
returns c = search (taken_whole, rules)
