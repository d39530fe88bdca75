-- `sheet_reader::Way::put` meets its contract: a line or a column is written, and no other.
use borrow.Author.Rules.{rules}
use Rattle.sheet_reader.proofs.Words.{line_put, column_put}
use Rattle.sheet_reader.proofs.Way.put.Goals as goal

pub returns-in-Lines : goal.returns-in-Lines
returns-in-Lines c = rw c.in-Lines.is (search (line_put, rules))

pub returns-in-Columns : goal.returns-in-Columns
returns-in-Columns c = search (column_put, rules)
