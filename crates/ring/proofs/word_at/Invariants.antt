-- `ring::word_at` meets its contract: the loop keeps that the first a characters are those of the word at the start.
use mathlib.Core.Path.{◌≡◌}
use lib.ListN.{length}
use Rattle.ring.proofs.Loops.{PlacedTo}
use Rattle.ring.proofs.word_at.Given as goal

abbrev pub invariant-loop-a : goal.invariant-loop-a
invariant-loop-a l = (length l.ring ≡ 63) × PlacedTo l.ring l.start l.c-items l.a
