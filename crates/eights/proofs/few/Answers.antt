-- `eights::few` meets its contract: each byte is that of the list, or 0 past its end.
use borrow.Author.Rules.{rules}
use Rattle.eights.proofs.Loops.{few_holds}
use Rattle.eights.proofs.few.Goals as goal

pub returns : goal.returns
returns c = search (few_holds, rules)
