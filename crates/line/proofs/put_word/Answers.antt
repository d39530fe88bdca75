-- `line::put_word` meets its contract: 63 bytes are copied over 63, and these over 63 again.
use mathlib.Core.Path.{refl}
use borrow.Author.Rules.{rules}
use Rattle.line.proofs.Ways.{copy_written, copy_written_long}
use Rattle.line.proofs.put_word.Goals as goal

pub shape_of-output : goal.shape_of-output
shape_of-output c = search (copy_written_long, rules)

pub returns : goal.returns
returns c = copy_written _ _ _ _ _ c.requires.0 refl c.copy.ensures.written c.requires.1 c.put.ensures
