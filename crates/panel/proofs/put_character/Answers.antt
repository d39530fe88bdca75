-- `panel::put_character` meets its contract: each arm puts what is written for its byte.
use borrow.Author.Rules.{rules}
use Rattle.panel.specs.Escaping.{written_by}
use Rattle.panel.proofs.Writing.{puts_named, puts_itself}
use Rattle.panel.proofs.put_character.Goals as goal

pub returns-in-38 : goal.returns-in-38
unfolding written_by
returns-in-38 c = search (puts_named, rules)

pub returns-in-60 : goal.returns-in-60
unfolding written_by
returns-in-60 c = search (puts_named, rules)

pub returns-in-62 : goal.returns-in-62
unfolding written_by
returns-in-62 c = search (puts_named, rules)

pub returns-in-34 : goal.returns-in-34
unfolding written_by
returns-in-34 c = search (puts_named, rules)

pub returns-in-39 : goal.returns-in-39
unfolding written_by
returns-in-39 c = search (puts_named, rules)

pub returns-in_default : goal.returns-in_default
returns-in_default c = search (puts_itself, rules)
