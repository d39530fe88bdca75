-- `block::all_sevens` meets its contract: the chain tests each row.
use Rattle.std.proofs.Common.{rules, tests, leb}
use Rattle.std.proofs.lemmas.Iterator.{YieldsList-from_slice}
use Rattle.std.proofs.lemmas.Iterator.Search.{all_from_yields_List}
use Rattle.block.proofs.Loops.{tells_sevens}
use Rattle.block.proofs.all_sevens.Goals as goal

pub returns : goal.returns
returns c =
    tells_sevens _ _
    (all_from_yields_List (λ x. leb x 127) _ _ _ c.all.ensures.ran (YieldsList-from_slice c.args.given.now (cc)) (λ x b q k. search (rules, tests)))
