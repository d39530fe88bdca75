-- `sheet_reader::is_clean` meets its contract: its eleven sums tell.
use borrow.Author.Rules.{rules}
use Rattle.sheet_reader.proofs.Tests.{clean_told}
use Rattle.sheet_reader.proofs.is_clean.Goals as goal

pub returns : goal.returns
returns c = search (clean_told, rules)
