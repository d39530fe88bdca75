-- `mender::word_added` meets its contract: the characters passed so far are added.
use Rattle.mender.proofs.Loops.{SummedTo}
use Rattle.mender.proofs.word_added.Given as goal

abbrev pub invariant-loop-a : goal.invariant-loop-a
invariant-loop-a l = SummedTo 63 l.word l.fn.pattern l.fn.pattern l.c-items l.a
