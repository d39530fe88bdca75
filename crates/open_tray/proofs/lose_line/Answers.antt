-- `open_tray::lose_line` meets its contract: the two bytes after the rooms are written, and no room.
use borrow.Author.Rules.{rules}
use Rattle.open_tray.proofs.Ways.{enough, dropped_bytes}
use Rattle.open_tray.proofs.lose_line.Goals as goal

pub overflow_sub-tray-2 : goal.overflow_sub-tray-2
overflow_sub-tray-2 c = search (enough, rules)

pub returns : goal.returns
returns c = search (dropped_bytes, rules)
