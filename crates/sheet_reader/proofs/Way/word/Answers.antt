-- `sheet_reader::Way::word` meets its contract: a line or a column is copied.
use borrow.Author.Rules.{rules}
use Rattle.sheet_reader.proofs.Words.{line_taken}
use Rattle.sheet_reader.proofs.Way.word.Goals as goal

pub returns-in-Lines : goal.returns-in-Lines
returns-in-Lines c = search (line_taken, rules)
