-- `sheet_reader::is_proper` meets its contract: 52 lines and the columns tell.
use borrow.Author.Rules.{rules}
use Rattle.sheet_reader.proofs.Tests.{no_lines, by_columns}
use Rattle.sheet_reader.proofs.is_proper.Goals as goal

pub returns-then-not-words_clean : goal.returns-then-not-words_clean
returns-then-not-words_clean c = search (no_lines, rules)

pub returns : goal.returns
returns c = search (by_columns, rules)
