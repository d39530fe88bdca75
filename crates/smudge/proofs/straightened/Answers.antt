-- `smudge::straightened` meets its contract: it computes what the definition says.
use mathlib.Core.Path.{refl}
use Rattle.smudge.specs.Inside.{up, left, straight}
use Rattle.smudge.proofs.straightened.Goals as goal

pub returns : goal.returns
unfolding straight left up
returns c = refl
