-- `blots::errors_near` meets its contract: the errors have the sums of what the word and a line differ by.
use borrow.Author.Rules.{rules}
use Rattle.blots.proofs.Finding.{found_near}
use Rattle.blots.proofs.errors_near.Goals as goal

pub returns : goal.returns
returns c = search (found_near, rules)
