-- `paper::read_line` meets its contract: what the tests before refuse is refused, and the rest is answered for the nearest line.
use borrow.Author.Rules.{rules}
use Rattle.refusal.proofs.Ladder.{verdicts}
use Rattle.line.proofs.Ways.{refused_before, word_long}
use Rattle.paper.proofs.Reading.{near_enough, held_word, read_nearest, read_long}
use Rattle.paper.proofs.read_line.Goals as goal

pub returns-then-not-fits : goal.returns-then-not-fits
returns-then-not-fits c = search (refused_before, verdicts, rules)

pub held-requires : goal.held-requires
held-requires c = search (word_long, rules)

pub nearest-found-requires : goal.nearest-found-requires
nearest-found-requires c = search (held_word, near_enough, rules)

pub shape_of-output : goal.shape_of-output
shape_of-output c = search (read_long, rules)

pub returns : goal.returns
returns c = search (read_nearest, rules)
