-- `block::odd_bytes` meets its contract: halves added keep the parity, and the mask leaves one bit of each byte.
use mathlib.Core.Path.{refl}
use Rattle.block.proofs.Lanes.{odd_bytes_lem}
use Rattle.block.proofs.odd_bytes.Goals as goal

pub returns : goal.returns
returns c = odd_bytes_lem c.args.x _ _ _ refl refl refl
