-- `open_tray::put_line` meets its contract: the first free room is filled, and the two bytes after the rooms are written.
use native.Mathlib.Omega.{arith}
use borrow.Author.Rules.{rules}
use Rattle.open_tray.proofs.Ways.{small_more, still_inside, added_bytes}
use Rattle.open_tray.proofs.put_line.Goals as goal

pub overflow_add-tray-2 : goal.overflow_add-tray-2
overflow_add-tray-2 c = search (small_more, rules)

pub bounds-tray-4737-2 : goal.bounds-tray-4737-2
bounds-tray-4737-2 c = let t = c.args.tray.now in
    still_inside t c.fill.new.room _ _ c.requires.fit (omega (arith, c.from-start.ensures)) c.fill.auto.room

pub returns : goal.returns
returns c = search (added_bytes, rules)
