-- `open_tray::wrong_in` meets its contract: the sums stand after the characters.
use borrow.Author.Rules.{rules}
use Rattle.open_tray.proofs.Rooms.{sums_told}
use Rattle.open_tray.proofs.wrong_in.Goals as goal

pub returns : goal.returns
returns c = search (sums_told, rules)
