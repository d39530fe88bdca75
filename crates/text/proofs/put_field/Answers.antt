-- put_field puts a space and the number: one text after another.
use borrow.Author.Rules.{rules}
use Rattle.text.proofs.Writing.{field_text}
use Rattle.text.proofs.put_field.Goals as goal

pub returns : goal.returns
returns c = search (field_text, rules)
