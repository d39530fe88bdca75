-- `lanes::products` meets its contract: after so many turns as many bits are added to every lane.
use Rattle.lanes.proofs.Loops.{ProductsTo}
use Rattle.lanes.proofs.products.Given as goal

abbrev pub invariant-loop : goal.invariant-loop
invariant-loop l = ProductsTo l.p l.q l.a l.b l.s l.counter
