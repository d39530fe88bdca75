-- `scans::choose_scan` meets its contract: the choice is made by the two answers.
use borrow.Author.Rules.{rules}
use Rattle.scans.proofs.Laws.{choice_made}
use Rattle.scans.proofs.choose_scan.Goals as goal

pub returns : goal.returns
returns c = search (choice_made, rules)
