-- `line::fits` meets its contract: each return is one of the tests before reading, in their order.
use borrow.Author.Rules.{rules}
use Rattle.refusal.proofs.Ladder.{verdicts}
use Rattle.line.proofs.Ways.{unfit_word, unfit_room, unfit_characters, unfit_radius, fit_possible}
use Rattle.line.proofs.fits.Goals as goal

pub returns-then-word-ne63 : goal.returns-then-word-ne63
returns-then-word-ne63 c = search (unfit_word, rules)

pub returns-then-room-ne63 : goal.returns-then-room-ne63
returns-then-room-ne63 c = search (unfit_room, rules)

pub returns-then-not-all_low : goal.returns-then-not-all_low
returns-then-not-all_low c = search (unfit_characters, verdicts, rules)

pub returns-then-radius-gt5 : goal.returns-then-radius-gt5
returns-then-radius-gt5 c = search (unfit_radius, rules)

pub returns : goal.returns
returns c = search (fit_possible, verdicts, rules)
