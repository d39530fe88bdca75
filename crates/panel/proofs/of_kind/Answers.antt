-- `panel::of_kind` meets its contract: each kind has its answer.
use borrow.Author.Rules.{rules}
use Rattle.panel.proofs.Ways.{plain_kind, template_kind, unknown_kind}
use Rattle.panel.proofs.of_kind.Goals as goal

pub returns-in-0 : goal.returns-in-0
returns-in-0 c = search (plain_kind, rules)

pub returns-in-1 : goal.returns-in-1
returns-in-1 c = search (template_kind, rules)

pub returns-in_default : goal.returns-in_default
returns-in_default c = search (unknown_kind, rules)
