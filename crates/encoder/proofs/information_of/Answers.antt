-- `encoder::information_of` meets its contract: the text is copied and the two characters of the number are stored behind it.
use borrow.Author.Rules.{rules}
use Rattle.encoder.proofs.Loops.{information_copied, no_information}
use Rattle.encoder.proofs.information_of.Goals as goal

pub returns-then-text-ne50 : goal.returns-then-text-ne50
returns-then-text-ne50 c = search (no_information, rules)

pub returns : goal.returns
returns c = search (information_copied, rules)
