-- Each refusal by its own test, in the paper's order; and the line of the text and the number.
use native.Mathlib.Omega.{arith}
use borrow.Author.Rules.{rules}
use Rattle.refusal.proofs.Ladder.{verdicts}
use Rattle.encoder.proofs.Loops.{line_refused, line_written, the_line}
use Rattle.encoder.proofs.encode_line.Goals as goal

pub returns-then-text-ne50 : goal.returns-then-text-ne50
returns-then-text-ne50 c = line_refused _ _ _ 0 (search verdicts)

pub returns-then-output-ne63 : goal.returns-then-output-ne63
returns-then-output-ne63 c = line_refused _ _ _ 1 (search verdicts)

pub returns-then-not-all_low : goal.returns-then-not-all_low
returns-then-not-all_low c = line_refused _ _ _ 2 (search verdicts)

pub returns-then-number-gt4095 : goal.returns-then-number-gt4095
returns-then-number-gt4095 c = line_refused _ _ _ 3 (search (verdicts, arith) depth 9)

pub returns : goal.returns
returns c = line_written _ _ _ _ (search verdicts depth 9) (search (the_line, verdicts, rules))
