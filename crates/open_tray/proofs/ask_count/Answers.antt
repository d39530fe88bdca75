-- `open_tray::ask_count` meets its contract: a tray that is fit tells its count.
use borrow.Author.Rules.{rules}
use Rattle.refusal.proofs.Ladder.{verdicts}
use Rattle.open_tray.proofs.Ways.{ask_refused, count_told}
use Rattle.open_tray.proofs.ask_count.Goals as goal

pub returns-then-not-fits : goal.returns-then-not-fits
returns-then-not-fits c = ask_refused _ 0 (search verdicts)

pub returns : goal.returns
returns c = count_told _ _ (search verdicts) (search rules)
