-- `sheet_reader::words_clean` meets its contract: the words passed are clean, and one that is not tells.
use Rattle.sheet_reader.proofs.Tests.{CleanTo}
use Rattle.sheet_reader.proofs.words_clean.Given as goal

abbrev pub invariant-loop-i : goal.invariant-loop-i
invariant-loop-i l = CleanTo l.way l.s.cells l.i
