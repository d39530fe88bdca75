-- report keeps its promise: a buffer too short is refused, and any other has room for the header and what put_tray puts.
use native.Mathlib.Omega.{arith}
use borrow.Author.Rules.{rules}
use Rattle.refusal.proofs.Ladder.{denied}
use Rattle.report.proofs.Whole.{refused, whole_text}
use Rattle.report.proofs.report.Goals as goal

pub returns-then-out-lt-ROOM : goal.returns-then-out-lt-ROOM
returns-then-out-lt-ROOM c = refused _ _ 0 (denied (λ g. omega arith))

pub returns : goal.returns
returns c = search (whole_text, rules)
