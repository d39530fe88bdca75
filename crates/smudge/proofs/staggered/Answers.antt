-- `smudge::staggered` meets its contract: it computes what the definition says.
use mathlib.Core.Path.{refl}
use Rattle.smudge.specs.Inside.{right, down, stagger}
use Rattle.smudge.proofs.staggered.Goals as goal

pub returns : goal.returns
unfolding stagger down right
returns c = refl
