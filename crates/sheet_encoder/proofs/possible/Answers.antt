-- `sheet_encoder::possible` meets its contract: a number over 4095 tells.
use Rattle.std.proofs.Common.{leb, rules, tests}
use Rattle.std.proofs.lemmas.Iterator.{YieldsList-from_slice}
use Rattle.std.proofs.lemmas.Iterator.Search.{all_from_yields_List}
use Rattle.sheet_encoder.proofs.Loops.{tells_possible}
use Rattle.sheet_encoder.proofs.possible.Goals as goal

pub returns : goal.returns
returns c =
    tells_possible _ _
    (all_from_yields_List (λ n. leb n 4095) _ _ _ c.all.ensures.ran (YieldsList-from_slice c.args.numbers.now (cc)) (λ n b q k. search (rules, tests)))
