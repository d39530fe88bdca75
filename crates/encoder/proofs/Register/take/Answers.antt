-- Each refusal by its own test, with the register as it was; and the step by the division.
use native.Mathlib.Omega.{arith}
use borrow.Author.Rules.{rules}
use Rattle.refusal.proofs.Ladder.{denied, verdicts}
use Rattle.encoder.proofs.Loops.{step_refused, step_taken}
use Rattle.encoder.proofs.Register.take.Goals as goal

pub returns-then-self-ge52 : goal.returns-then-self-ge52
returns-then-self-ge52 c = step_refused _ _ 0 (denied (λ g. omega arith))

pub returns-then-not-held_in_range : goal.returns-then-not-held_in_range
returns-then-not-held_in_range c = step_refused _ _ 1 (search verdicts)

pub returns-then-c-gt63 : goal.returns-then-c-gt63
returns-then-c-gt63 c = step_refused _ _ 2 (search verdicts)

pub returns : goal.returns
returns c = step_taken _ _ _ (search verdicts) (search rules)
