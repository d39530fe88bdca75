-- `line::read_line` meets its contract: what the tests before refuse is refused; then a line itself, one with another number, or what is answered for the nearest line.
use borrow.Author.Rules.{rules}
use Rattle.refusal.proofs.Ladder.{verdicts}
use Rattle.line.proofs.Ways.{refused_before, word_long, room_long, itself_other, itself_read, all_long, mended_read, same_long, mended_long}
use Rattle.line.proofs.read_line.Goals as goal

pub returns-then-not-fits : goal.returns-then-not-fits
returns-then-not-fits c = search (refused_before, verdicts, rules)

pub returns-then-not-is_wanted : goal.returns-then-not-is_wanted
returns-then-not-is_wanted c = search (itself_other, verdicts, rules)

pub put_word-requires : goal.put_word-requires
put_word-requires c = search (word_long, room_long, rules)

pub shape_of-output-then-all_zero : goal.shape_of-output-then-all_zero
shape_of-output-then-all_zero c = search (same_long, word_long, room_long, rules)

pub returns-then-all_zero : goal.returns-then-all_zero
returns-then-all_zero c = search (itself_read, verdicts, rules)

pub slice_bounds-without_errors-end : goal.slice_bounds-without_errors-end
slice_bounds-without_errors-end c = search (all_long, word_long, rules)

pub shape_of-output : goal.shape_of-output
shape_of-output c = search (mended_long, verdicts, rules)

pub returns : goal.returns
returns c = search (mended_read, verdicts, rules)
