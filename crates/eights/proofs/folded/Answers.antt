-- `eights::folded` meets its contract: eight bytes, four, two and then one.
use mathlib.Core.Path.{refl}
use Rattle.eights.proofs.Laws.{folds}
use Rattle.eights.proofs.folded.Goals as goal

pub returns : goal.returns
returns c = folds c.args.z _ _ _ refl refl refl
