-- put_fields puts the numbers, each after a space: after i turns the first i of them.
use borrow.Author.Rules.{rules}
use Rattle.text.proofs.Writing.{fields_none, fields_more, fields_all}
use Rattle.text.proofs.put_fields.Goals as goal

pub loop-n-init : goal.loop-n-init
loop-n-init c = search (fields_none, rules)

pub loop-n-preserved : goal.loop-n-preserved
loop-n-preserved c = search (fields_more, rules)

pub returns : goal.returns
returns c = fields_all _ _ _ _ _ _ c.loop-n.invariant c.loop-n-test.false
