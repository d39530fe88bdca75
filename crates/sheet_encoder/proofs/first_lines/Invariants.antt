-- `sheet_encoder::first_lines` meets its contract: the lines passed have their texts and numbers.
use Rattle.sheet_encoder.proofs.Loops.{LinesTo}
use Rattle.sheet_encoder.proofs.first_lines.Given as goal

abbrev pub invariant-loop-i : goal.invariant-loop-i
invariant-loop-i l = LinesTo l.texts l.numbers l.s l.i
