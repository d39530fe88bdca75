-- `smudge::odd_rows` meets its contract: those of the straightened block.
use mathlib.Core.Path.{ap, ◌∙◌}
use Rattle.smudge.specs.Inside.{odd_bytes}
use Rattle.smudge.proofs.Parities.{odd_is}
use Rattle.smudge.proofs.odd_rows.Goals as goal

pub returns : goal.returns
returns c = odd_is _ _ c.odd_bytes.ensures ∙ ap odd_bytes c.straightened.ensures
