-- `sheet::put` meets its contract: a sheet is copied over an output of its length, and over no other.
use borrow.Author.Rules.{rules}
use Rattle.sheet.proofs.Loops.{put_none, put_whole}
use Rattle.sheet.proofs.put.Goals as goal

pub returns-then-output-ne-SHEET : goal.returns-then-output-ne-SHEET
returns-then-output-ne-SHEET c = search (put_none, rules)

pub returns : goal.returns
returns c = search (put_whole, rules)
