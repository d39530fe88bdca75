-- `paper::nearest` meets its contract: no line differs in fewer characters than are assumed.
use mathlib.Core.Path.{subst}
use Prim.Native.Nat.{ℕ}
use native.Mathlib.Omega.{arith}
use borrow.Author.Rules.{rules}
use Rattle.paper.specs.Inside.{Attempted, NoneApart}
use Rattle.paper.proofs.Reading.{missed_none, missed_more, nearest_found, nearest_none}
use Rattle.paper.proofs.nearest.Goals as goal

pub loop-n-init : goal.loop-n-init
loop-n-init c = search (missed_none, rules)

pub returns-in-Some : goal.returns-in-Some
returns-in-Some c =
    nearest_found _ _ _ _ _ _ c.requires.word (omega arith) c.loop-n.invariant
    (subst (λ (n : ℕ). Attempted c.args.word n c.in-Some.line) c.from.ensures c.in-Some.ensures) c.first_changed-first.ensures c.last_changed-last.ensures

pub loop-n-preserved : goal.loop-n-preserved
loop-n-preserved c = missed_more _ _ (subst (NoneApart c.args.word) c.from.ensures c.in_default.ensures) c.loop-n.invariant

pub returns : goal.returns
returns c = search (nearest_none, rules)
