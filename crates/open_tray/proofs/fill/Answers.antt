-- `open_tray::fill` meets its contract: the line is copied over the first 63 bytes of the room, and the sums over the others.
use native.Mathlib.Omega.{arith}
use borrow.Author.Rules.{rules}
use mathlib.Core.Path.{sym, ◌∙◌}
use lib.Seq.{length-take-le}
use Rattle.open_tray.proofs.Rooms.{filled}
use Rattle.open_tray.proofs.fill.Goals as goal

pub slice_bounds-copy_from_slice-end-2 : goal.slice_bounds-copy_from_slice-end-2
slice_bounds-copy_from_slice-end-2 c = sym (length-take-le 63 c.args.room.now (omega arith))

pub copy_from_slice-requires : goal.copy_from_slice-requires
copy_from_slice-requires c = length-take-le 63 c.args.room.now (omega arith) ∙ sym c.told-line

pub returns : goal.returns
returns c = search (filled, rules)
