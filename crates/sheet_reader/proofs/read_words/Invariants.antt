-- `sheet_reader::read_words` meets its contract: each turn reads one word more, or leaves it.
use Rattle.sheet_reader.proofs.Loops.{ReadTo}
use Rattle.sheet_reader.proofs.read_words.Given as goal

abbrev pub invariant-loop-i : goal.invariant-loop-i
invariant-loop-i l = ReadTo l.way l.initial.sheet.cells l.sheet.cells l.i
