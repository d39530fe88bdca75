-- put_word puts the word: after i turns its first i bytes.
use Rattle.std.proofs.Common.{take}
use Rattle.text.specs.Writing.{Puts}
use Rattle.text.proofs.put_word.Given as goal

abbrev pub invariant-loop-x : goal.invariant-loop-x
invariant-loop-x l = Puts l.fn.out l.out l.at l.next (take l.x-index l.word)
