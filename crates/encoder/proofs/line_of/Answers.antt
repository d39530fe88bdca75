-- `encoder::line_of` meets its contract: the checks with the word's power sums, and the marks, are written after its first 52 characters.
use borrow.Author.Rules.{rules}
use Rattle.encoder.proofs.Loops.{line_ended}
use Rattle.encoder.proofs.line_of.Goals as goal

pub returns : goal.returns
returns c = search (line_ended, rules)
