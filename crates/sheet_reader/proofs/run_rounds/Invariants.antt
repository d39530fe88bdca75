-- `sheet_reader::run_rounds` meets its contract: each turn runs one round more, unless the sheet is proper or the round leaves it as it was.
use Rattle.sheet_reader.proofs.Running.{RunTo}
use Rattle.sheet_reader.proofs.run_rounds.Given as goal

abbrev pub invariant-loop-rounds : goal.invariant-loop-rounds
invariant-loop-rounds l = RunTo l.initial.s.cells l.s.cells l.rounds
