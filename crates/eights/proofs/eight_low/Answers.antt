-- `eights::eight_low` meets its contract: the mask leaves nothing exactly where no byte has one of its two high bits.
use borrow.Author.Rules.{rules}
use Rattle.eights.proofs.Laws.{mask_tells}
use Rattle.eights.proofs.eight_low.Goals as goal

pub returns : goal.returns
returns c = search (mask_tells, rules)
