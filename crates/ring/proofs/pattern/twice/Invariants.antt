-- `ring::pattern::twice` meets its contract: the loop keeps that the places passed have their errors, in the first round and in the second.
use Rattle.ring.proofs.pattern.Gains.{TwiceTo}
use Rattle.ring.proofs.pattern.twice.Given as goal

abbrev pub invariant-loop-place : goal.invariant-loop-place
invariant-loop-place l = TwiceTo l.errors l.round l.place
