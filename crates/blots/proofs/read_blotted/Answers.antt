-- `blots::read_blotted` meets its contract: each return is one way in which reading ends, in the order of the refusals.
use borrow.Author.Rules.{rules}
use Rattle.refusal.proofs.Ladder.{verdicts}
use Rattle.line.proofs.Ways.{written, written_long}
use Rattle.blots.proofs.Finding.{none_before}
use Rattle.blots.proofs.Reading.{refused, read, none_near, found_legible, first_byte, last_byte, count_byte, read_as}
use Rattle.blots.proofs.read_blotted.Goals as goal

pub returns-then-word-ne-LINE : goal.returns-then-word-ne-LINE
returns-then-word-ne-LINE c = refused _ _ _ 0 (search verdicts)

pub returns-then-map-ne-LINE : goal.returns-then-map-ne-LINE
returns-then-map-ne-LINE c = refused _ _ _ 1 (search verdicts)

pub returns-then-output-ne-LINE : goal.returns-then-output-ne-LINE
returns-then-output-ne-LINE c = refused _ _ _ 2 (search verdicts)

pub returns-then-not-all_low : goal.returns-then-not-all_low
returns-then-not-all_low c = refused _ _ _ 3 (search verdicts)

pub returns-then-not-marked : goal.returns-then-not-marked
returns-then-not-marked c = refused _ _ _ 4 (search verdicts depth 9)

pub returns-in_default : goal.returns-in_default
returns-in_default c = refused _ _ _ 5 (search (none_near, verdicts) depth 9)

pub overflow_cast-result : goal.overflow_cast-result
overflow_cast-result c = search (count_byte, rules)

pub first_set-requires : goal.first_set-requires
first_set-requires c = search (none_before, rules)

pub overflow_cast-result-2 : goal.overflow_cast-result-2
overflow_cast-result-2 c = search (first_byte, rules)

pub overflow_cast-result-3 : goal.overflow_cast-result-3
overflow_cast-result-3 c = search (last_byte, rules)

pub shape_of-output : goal.shape_of-output
shape_of-output c = search (written_long, rules)

pub returns : goal.returns
returns c = read _ _ _ _ _ (search (found_legible, verdicts) depth 12) (search (read_as, written, verdicts) depth 9)
