-- `mender::find` meets its contract: each return is one way in which the search ends.
use borrow.Author.Rules.{rules}
use borrow.Author.Tests.{not-true, not-false}
use Rattle.mender.proofs.Locating.{locator_kills, no_row, not_sixth, too_heavy, other_sums, this_word}
use Rattle.mender.proofs.find.Goals as goal

pub returns-then-not-sixth_window : goal.returns-then-not-sixth_window
returns-then-not-sixth_window c = search (not_sixth, not-true, rules)

pub returns-in_err-row : goal.returns-in_err-row
returns-in_err-row c = search (no_row, rules)

pub returns-then-from-e : goal.returns-then-from-e
returns-then-from-e c =
    too_heavy _ _ _ _ c.requires c.spanned_rows-x.ensures _ c.in_ok-row.ensures _ c.coefficients.ensures _ c.values_at_roots-pattern.ensures _ c.from.ensures c.if-from-e.true

pub values_at_roots-pattern-requires : goal.values_at_roots-pattern-requires
values_at_roots-pattern-requires c = search (locator_kills, rules)

pub returns-then-not-has_sums : goal.returns-then-not-has_sums
returns-then-not-has_sums c = search (other_sums, not-true, rules)

pub returns : goal.returns
returns c = search (this_word, not-false, rules)
