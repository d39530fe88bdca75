-- `code::in_range` meets its contract: it tests each character.
use Rattle.std.proofs.Common.{rules, tests, leb}
use Rattle.std.proofs.lemmas.Iterator.{YieldsList-from_slice}
use Rattle.std.proofs.lemmas.Iterator.Search.{all_from_yields_List}
use Rattle.code.proofs.Loops.{tells_low}
use Rattle.code.proofs.in_range.Goals as goal

pub returns : goal.returns
returns c = tells_low _ _ (all_from_yields_List (λ x. leb x 63) _ _ _ c.all.ensures.ran (YieldsList-from_slice c.args.word.now (cc)) (λ x b q k. search (rules, tests)))
