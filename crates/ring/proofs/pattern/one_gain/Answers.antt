-- `ring::pattern::one_gain` meets its contract: each return is one case of the gain.
use borrow.Author.Rules.{rules}
use Rattle.ring.proofs.pattern.Gains.{gain_same, gain_none, gain_other}
use Rattle.ring.proofs.pattern.one_gain.Goals as goal

pub returns-then-error-mark : goal.returns-then-error-mark
returns-then-error-mark c = search (gain_same, rules)

pub returns-then-error-eq0 : goal.returns-then-error-eq0
returns-then-error-eq0 c = search (gain_none, rules)

pub returns : goal.returns
returns c = search (gain_other, rules)
