-- `block::faults_of` meets its contract. The invariant: the rows passed are counted, from the last of the eights on.
use native.Mathlib.Omega.{arith}
use borrow.Author.Rules.{rules}
use Rattle.block.proofs.Loops.{counted_odd, counted_even, counted_all}
use Rattle.block.proofs.faults_of.Goals as goal
use Rattle.block.proofs.faults_of.Goals.{else-ones_of-eq1, then-ones_of-eq1}

pub loop-i-preserved : goal.loop-i-preserved
loop-i-preserved c = elim c.if-ones_of-eq1.branch [ then-ones_of-eq1 w ↦ search (counted_odd, rules) | else-ones_of-eq1 w ↦ search (counted_even, rules) ]

pub returns : goal.returns
returns c = let w = c.loop-i in
    let rows = c.args.rows.now in
    counted_all rows w.i w.odd w.row w.columns (λ i. omega (arith, c.type_inv.rows i)) w.invariant (search rules)
