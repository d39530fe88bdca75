-- put_item puts the line of an item: the letter of its kind, its number, and its three fields.
use borrow.Author.Rules.{rules}
use Rattle.report.proofs.Fields.{item_line}
use Rattle.report.proofs.put_item.Goals as goal

pub returns : goal.returns
returns c = search (item_line, rules)
