-- `mender::elements_to` meets its contract: each of the first c sums is looked at.
use borrow.Author.Rules.{rules}
use borrow.Author.Tests.{tests}
use lib.Dec.{leb}
use lib.ListN.{take}
use native.Mathlib.Omega.{arith}
use Rattle.std.proofs.lemmas.Grind.{common_steps}
use Rattle.std.proofs.lemmas.Iterator.{YieldsList-from_slice}
use Rattle.std.proofs.lemmas.Iterator.Search.{all_from_yields_List}
use Rattle.mender.proofs.Loops.{elements_are}
use Rattle.mender.proofs.elements_to.Goals as goal

pub returns : goal.returns
returns c = elements_are _ _ _ (search rules)
    (all_from_yields_List {all = take c.args.c c.args.sums} (λ x. leb x 63) _ _ _ c.all.ensures.ran (YieldsList-from_slice _ (grind (arith, common_steps))) (λ x b q k. search (rules, tests)))
