-- `line::first_refusal` meets its contract: each return is the first test that fails, in the order of the refusals.
use mathlib.Core.Path.{refl}
use borrow.Author.Rules.{rules}
use Rattle.refusal.proofs.Ladder.{verdicts}
use Rattle.line.proofs.Ways.{refused_at, refused_last}
use Rattle.line.proofs.first_refusal.Goals as goal

pub returns-then-word-ne63 : goal.returns-then-word-ne63
returns-then-word-ne63 c = refused_at _ _ _ _ 0 _ refl (search verdicts)

pub returns-then-room-ne63 : goal.returns-then-room-ne63
returns-then-room-ne63 c = refused_at _ _ _ _ 1 _ refl (search verdicts)

pub returns-then-not-all_low : goal.returns-then-not-all_low
returns-then-not-all_low c = refused_at _ _ _ _ 2 _ refl (search verdicts)

pub returns-then-radius-gt5 : goal.returns-then-radius-gt5
returns-then-radius-gt5 c = refused_at _ _ _ _ 3 _ refl (search verdicts)

pub returns : goal.returns
returns c = search (refused_last, verdicts, rules)
