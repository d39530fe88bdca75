-- `open_tray::first_log` meets its contract: the logarithm of a product is the sum of the logarithms, modulo 63.
use borrow.Author.Rules.{rules}
use Rattle.open_tray.proofs.Sums.{first_log}
use Rattle.open_tray.proofs.first_log.Goals as goal

pub returns : goal.returns
returns c = search (first_log, rules)
