-- `smudge::wrong_columns` meets its contract: the exclusive or of the rows of the straightened block, beside the wanted one.
use mathlib.Core.Path.{ap, ◌∙◌}
use Prim.Native.Nat.{ℕ}
use lib.Bits.{bit_xor}
use Rattle.numbers.specs.Total.{total}
use Rattle.eights.specs.Inside.{byte}
use Rattle.block.specs.Inside.{wanted}
use Rattle.smudge.proofs.wrong_columns.Goals as goal

-- the code's constant meets the definition's here
pub returns : goal.returns
unfolding wanted
returns c = ap (bit_xor wanted) (c.folded.ensures ∙ ap (λ (y : ℕ). total 8 (byte y)) c.straightened.ensures)
