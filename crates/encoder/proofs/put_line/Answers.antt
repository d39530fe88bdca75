-- `encoder::put_line` meets its contract: the line is copied over an output of 63 bytes, and over no other.
use borrow.Author.Rules.{rules}
use Rattle.encoder.proofs.Loops.{line_put, no_line_put}
use Rattle.encoder.proofs.put_line.Goals as goal

pub returns-then-output-ne63 : goal.returns-then-output-ne63
returns-then-output-ne63 c = search (no_line_put, rules)

pub returns : goal.returns
returns c = search (line_put, rules)
