-- Each refusal by its own test; and the checks by the marks.
use native.Mathlib.Omega.{arith}
use borrow.Author.Rules.{rules}
use Rattle.refusal.proofs.Ladder.{◌then◌, denied, verdicts}
use Rattle.encoder.proofs.Loops.{asking_refused, checks_given}
use Rattle.encoder.proofs.Register.checks.Goals as goal

pub returns-then-self-gt52 : goal.returns-then-self-gt52
returns-then-self-gt52 c = asking_refused _ 0 (denied (λ g. omega arith))

pub returns-then-self-lt52 : goal.returns-then-self-lt52
returns-then-self-lt52 c = asking_refused _ 1 (omega arith then denied (λ g. omega arith))

pub returns-then-not-held_in_range : goal.returns-then-not-held_in_range
returns-then-not-held_in_range c = asking_refused _ 2 (search verdicts)

pub returns : goal.returns
returns c = checks_given _ _ (search verdicts) (search rules)
