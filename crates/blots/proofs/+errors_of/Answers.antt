-- `blots::errors_of` meets its contract, by the count of sums: each call of itself has one sum and one blot less.
use mathlib.Core.Path.{◌≡◌}
use native.Mathlib.Omega.{arith}
use lib.ListN.{get_or}
use borrow.Author.Rules.{rules}
use Rattle.blots.proofs.Finding.{found_blank, some_sum, one_fewer, next_call, none_cleared, none_there, found_restored}
use Rattle.blots.proofs.+errors_of.Goals as goal

pub returns-in_default : goal.returns-in_default
returns-in_default t c =
    found_blank _ _ _ _ (search rules) c.in_default.ensures c.errors_without.ensures

pub overflow_sub-c : goal.overflow_sub-c
overflow_sub-c t c = some_sum _ _ _ (search rules) (search rules) c.in-Some.ensures

pub errors_of-requires : goal.errors_of-requires
errors_of-requires t c =
    (search (one_fewer, rules), next_call c.in-Some.ensures (search rules) (search rules) (search rules))

pub returns-in_err-cleared : goal.returns-in_err-cleared
returns-in_err-cleared t c = rw c.from_residual.ensures (search (none_cleared, rules))

pub returns-then-pattern-blot-ne0 : goal.returns-then-pattern-blot-ne0
returns-then-pattern-blot-ne0 t c =
    let some : get_or c.in_ok-cleared.cleared.word c.in-Some.blot 0 ≡ 0 → ⊥ = λ z. omega arith in
    search (none_there, rules)

pub returns : goal.returns
returns t c =
    found_restored _ _ _ (search rules) (search rules) c.in-Some.ensures _ _ _ (search rules) c.place.ensures c.cleared.ensures _ c.in_ok-cleared.ensures _ _
    (search rules) c.restored-word.ensures c.bit.ensures
