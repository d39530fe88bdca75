-- `encoder::checks_from` meets its contract: the ten, and the eleventh.
use Rattle.encoder.proofs.checks_from.Goals as goal

pub returns : goal.returns
returns c = rw c.unpacked.ensures c.ten_checks.ensures
