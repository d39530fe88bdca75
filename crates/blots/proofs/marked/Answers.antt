-- `blots::marked` meets its contract: the chain tests each byte.
use Rattle.std.proofs.Common.{rules, tests, leb}
use Rattle.std.proofs.lemmas.Iterator.{YieldsList-from_slice}
use Rattle.std.proofs.lemmas.Iterator.Search.{all_from_yields_List}
use Rattle.blots.proofs.Loops.{tells_marked}
use Rattle.blots.proofs.marked.Goals as goal

pub returns : goal.returns
returns c =
    tells_marked _ _
    (all_from_yields_List (λ x. leb x 1) _ _ _ c.all.ensures.ran (YieldsList-from_slice c.args.map.now (cc)) (λ x b q k. search (rules, tests)))
