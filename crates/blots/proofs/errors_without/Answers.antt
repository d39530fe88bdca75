-- `blots::errors_without` meets its contract: what the mender finds from the first c sums, up to half as many, and where it is.
use borrow.Author.Rules.{rules}
use Rattle.blots.proofs.Finding.{without_any}
use Rattle.blots.proofs.errors_without.Goals as goal

pub returns-then-mended-eq0 : goal.returns-then-mended-eq0
returns-then-mended-eq0 c = without_any _ _ (search rules) _ c.in_ok-mended.ensures (search rules)
