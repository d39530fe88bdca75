-- put_word puts the word: after i turns its first i bytes.
use borrow.Author.Rules.{rules}
use Rattle.text.proofs.Writing.{puts_none, word_more, word_all}
use Rattle.text.proofs.put_word.Goals as goal

pub loop-x-init : goal.loop-x-init
loop-x-init c = search (puts_none, rules)

pub loop-x-preserved : goal.loop-x-preserved
loop-x-preserved c = search (word_more, rules)

pub returns : goal.returns
returns c = word_all _ _ _ _ _ _ c.loop-x.invariant c.loop-x-test.false
