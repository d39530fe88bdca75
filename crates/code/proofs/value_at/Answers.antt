-- `code::value_at` meets its contract: it takes each character in, by Horner's rule.
use Rattle.std.proofs.Common.{rules}
use Rattle.code.proofs.Loops.{value_by_fold}
use Rattle.code.proofs.value_at.Goals as goal

pub returns : goal.returns
returns c = search (value_by_fold, rules)
