-- `line::answered` meets its contract: the line that was found is written, and told.
use borrow.Author.Rules.{rules}
use Rattle.refusal.proofs.Ladder.{verdicts}
use Rattle.line.proofs.Ways.{line_answered}
use Rattle.line.proofs.answered.Goals as goal

pub returns : goal.returns
returns c = search (line_answered, verdicts, rules)
