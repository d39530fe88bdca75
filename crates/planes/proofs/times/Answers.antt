-- `planes::times` meets its contract: the product is made bit by bit.
use Rattle.planes.proofs.Loops.{multiplied}
use Rattle.planes.proofs.times.Goals as goal

pub returns : goal.returns
returns c =
    multiplied _ _ _ _ _ _ _ _ c.only_at-s5.ensures c.next_bit-s4.ensures c.next_bit-s3.ensures c.next_bit-s2.ensures c.next_bit-s1.ensures
    c.next_bit.ensures
