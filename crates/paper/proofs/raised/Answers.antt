-- `paper::raised` meets its contract: 1 is multiplied by x, j times.
use mathlib.Core.Path.{refl}
use Rattle.std.proofs.Common.{rules, arith}
use Rattle.std.proofs.lemmas.Iterator.{YieldsList-from_range}
use Rattle.std.proofs.lemmas.Iterator.Consumers.{fold_from_yields_List}
use Rattle.field.specs.Field.{product}
use Rattle.paper.proofs.Loops.{raised_is}
use Rattle.paper.proofs.raised.Goals as goal

pub returns : goal.returns
returns c =
    let x = c.args.x in
    let j = c.args.j in
    raised_is x c.fold.result j
    (fold_from_yields_List _ (λ v k. product x v) 1 c.fold.result c.fold.ensures.ran
    (YieldsList-from_range 0 j j refl (omega arith)) (λ a k b q h. search rules))
