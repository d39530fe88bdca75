-- `mender::values::looked_ahead` meets its contract: one is left, or five are new.
use borrow.Author.Rules.{rules}
use Rattle.mender.proofs.values.Dividing.{ahead_same, ahead_new, places_small}
use Rattle.mender.proofs.values.looked_ahead.Goals as goal

pub returns-then-ahead-gt0 : goal.returns-then-ahead-gt0
returns-then-ahead-gt0 c = search (ahead_same, rules)

pub quotients-values-requires : goal.quotients-values-requires
quotients-values-requires c = search (places_small, rules)

pub returns : goal.returns
returns c = search (ahead_new, rules)
