-- `ring::list_starts` meets its contract: each return is one way of listing.
use mathlib.Core.Path.{refl}
use borrow.Author.Rules.{rules}
use Rattle.ring.proofs.OnePattern.{word_of, by_pattern, by_none}
use Rattle.ring.proofs.Starts.{by_sums}
use Rattle.ring.proofs.list_starts.Goals as goal

pub returns-in-Some : goal.returns-in-Some
returns-in-Some c =
    by_pattern _ _ (word_of _ _ c.requires) c.eleven_sums-sums.ensures _ _ _ c.deciding_errors.ensures c.in-Some.errors (rw c.from.ensures at c.in-Some.ensures) _ refl _ _
    c.list_by_pattern.ensures

pub returns-then-radius-le-DECIDED : goal.returns-then-radius-le-DECIDED
returns-then-radius-le-DECIDED c = search (word_of, by_none, rules)

pub returns : goal.returns
returns c = search (by_sums, rules)
