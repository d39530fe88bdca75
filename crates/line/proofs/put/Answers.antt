-- `line::put` meets its contract: 63 bytes are copied over 63, and another output is left alone.
use borrow.Author.Rules.{rules}
use Rattle.line.proofs.Ways.{put_over, left_alone}
use Rattle.line.proofs.put.Goals as goal

pub returns-then-output-ne63 : goal.returns-then-output-ne63
returns-then-output-ne63 c = search (left_alone, rules)

pub returns : goal.returns
returns c = search (put_over, rules)
