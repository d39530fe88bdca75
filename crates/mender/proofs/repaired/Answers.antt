-- `mender::repaired` meets its contract: each return is one way in which the repair ends.
use borrow.Author.Rules.{rules}
use Rattle.mender.proofs.Repairing.{repairs_none, one_inside, address_fits, repairs_one, repairs_more}
use Rattle.mender.proofs.repaired.Goals as goal

pub returns-then-all_zero : goal.returns-then-all_zero
returns-then-all_zero c = search (repairs_none, rules)

pub changed-mended-requires : goal.changed-mended-requires
changed-mended-requires c = search (one_inside, rules)

pub overflow_cast-address : goal.overflow_cast-address
overflow_cast-address c = search (address_fits, rules)

pub returns-in-Some : goal.returns-in-Some
returns-in-Some c = search (repairs_one, rules)

pub returns : goal.returns
returns c = search (repairs_more, rules)
