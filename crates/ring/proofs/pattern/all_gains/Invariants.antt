-- `ring::pattern::all_gains` meets its contract: the loop keeps that the starts passed, of each direction, have what their marks add.
use Rattle.ring.specs.Inside.{Twice}
use Rattle.ring.proofs.pattern.Gains.{GainsTo}
use Rattle.ring.proofs.pattern.all_gains.Given as goal

abbrev pub invariant-loop-turn : goal.invariant-loop-turn
invariant-loop-turn l = Twice l.errors l.round × GainsTo l.errors l.gains l.turn
