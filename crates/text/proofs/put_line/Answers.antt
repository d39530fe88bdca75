-- put_line puts a word, numbers and the line end: three texts one after another.
use borrow.Author.Rules.{rules}
use Rattle.text.proofs.Writing.{line_text}
use Rattle.text.proofs.put_line.Goals as goal

pub returns : goal.returns
returns c = search (line_text, rules)
