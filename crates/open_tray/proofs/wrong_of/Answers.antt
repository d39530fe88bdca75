-- `open_tray::wrong_of` meets its contract: what `any` tells of the sums is whether one of them is not 0.
use Rattle.std.proofs.Common.{rules, tests, ◌∙◌, not}
use lib.Dec.{eqb}
use Rattle.std.proofs.lemmas.Iterator.{YieldsList-from_slice}
use Rattle.std.proofs.lemmas.Iterator.Search.{any_from_yields_List}
use Rattle.open_tray.proofs.Sums.{some_wrong}
use Rattle.open_tray.proofs.wrong_of.Goals as goal

pub returns : goal.returns
returns c =
    c.from.ensures
    ∙ some_wrong _ _ (any_from_yields_List (λ x. not (eqb x 0)) _ _ _ c.any.ensures.ran (YieldsList-from_slice c.args.sums.now (cc)) (λ x b q k. search (rules, tests)))
