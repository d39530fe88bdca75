-- `block::faults_of_eights` meets its contract: the loop keeps that the rows passed are counted, and that they are eights.
use native.Mathlib.Omega.{arith}
use borrow.Author.Rules.{rules}
use Rattle.block.specs.Inside.{wanted}
use Rattle.block.proofs.Loops.{chunk_holds, eights_none, eights_odd, eights_even, eights_all}
use Rattle.block.proofs.faults_of_eights.Goals as goal
use Rattle.block.proofs.faults_of_eights.Goals.{else-p-ne0, then-p-ne0}

pub loop-k-init : goal.loop-k-init
loop-k-init c = search (eights_none, rules)

pub loop-k-preserved : goal.loop-k-preserved
loop-k-preserved c =
    let l = c.as_chunks.ensures.front_len in
    let s = chunk_holds c.args.rows.now _ _ c.loop-k.k c.from_le_bytes-x.result (λ i. omega (arith, c.type_inv.rows i)) c.as_chunks.ensures.front (omega arith) c.from_le_bytes-x.ensures in
    elim c.if-p-ne0.branch [
      | then-p-ne0 w ↦
          eights_odd _ _ _ _ _ _ _ _ _ c.loop-k.invariant (omega arith) s c.odd_bytes-p.ensures w.if-p-ne0.true _ w.some_byte.ensures w.odd-is w.row-is
      | else-p-ne0 w ↦ eights_even _ _ _ _ _ _ _ _ _ c.loop-k.invariant (omega arith) s c.odd_bytes-p.ensures w.if-p-ne0.false w.odd-is w.row-is
    ]

-- the code's constant meets the definition's here
pub returns : goal.returns
unfolding wanted
returns c =
    let l = c.as_chunks.ensures.front_len in
    eights_all _ _ _ _ _ _ c.loop-k.invariant (omega arith) (omega arith) c.folded.ensures
