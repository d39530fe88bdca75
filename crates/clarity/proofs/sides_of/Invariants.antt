-- `clarity::sides_of` meets its contract: each turn adds one cell to all, and to the dark side where it is dark.
use Rattle.clarity.proofs.Tallying.{SidesTo}
use Rattle.clarity.proofs.sides_of.Given as goal

abbrev pub invariant-loop-c : goal.invariant-loop-c
invariant-loop-c l = SidesTo l.threshold l.cells l.c-index l.n l.s l.q l.sum l.squares
