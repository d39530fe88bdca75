-- `mender::nearest` meets its contract: each return is one way in which looking for the nearest word ends.
use borrow.Author.Rules.{rules}
use borrow.Author.Tests.{not-true}
use Rattle.mender.proofs.Finding.{other_length, out_of_range}
use Rattle.mender.proofs.Repairing.{not_wanted, wanted_near}
use Rattle.mender.proofs.nearest.Goals as goal

pub returns-then-word-ne63 : goal.returns-then-word-ne63
returns-then-word-ne63 c = search (other_length, rules)

pub returns-then-not-all_low : goal.returns-then-not-all_low
returns-then-not-all_low c = search (out_of_range, not-true, rules)

pub returns-then-not-elements_to : goal.returns-then-not-elements_to
returns-then-not-elements_to c = search (not_wanted, not-true, rules)

pub returns : goal.returns
returns c = search (wanted_near, rules)
