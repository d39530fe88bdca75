-- `panel::read_text` meets its contract: each return is the first test that fails, or what the kind answers.
use native.Mathlib.Omega.{arith}
use borrow.Author.Rules.{rules}
use Rattle.refusal.proofs.Ladder.{◌then◌, denied, verdicts}
use Rattle.panel.proofs.Ways.{not_read, by_kind}
use Rattle.panel.proofs.read_text.Goals as goal

pub returns-then-text-ne50 : goal.returns-then-text-ne50
returns-then-text-ne50 c = not_read _ _ 0 (search verdicts)

pub returns-then-room-lt-ROOM : goal.returns-then-room-lt-ROOM
returns-then-room-lt-ROOM c = not_read _ _ 1 (omega arith then denied (λ g. omega arith))

pub returns-then-not-all_low : goal.returns-then-not-all_low
returns-then-not-all_low c = not_read _ _ 2 (search verdicts)

pub returns : goal.returns
returns c = by_kind _ _ (search verdicts) _ (search rules)
