-- `matrix::reduced` meets its contract: the columns passed are unit columns, and what is divided by is a pivot.
use mathlib.Core.Path.{refl}
use native.Mathlib.Omega.{arith}
use borrow.Author.Rules.{rules}
use Rattle.matrix.proofs.Reducing.{reduced_none, pivot_divides, reduced_turn, reduced_all, reduced_stuck}
use Rattle.matrix.proofs.reduced.Goals as goal

pub loop-t-init : goal.loop-t-init
loop-t-init c = search (reduced_none, rules)

pub swap-requires-clause-b_in_bounds : goal.swap-requires-clause-b_in_bounds
swap-requires-clause-b_in_bounds c =
    let inside = (c.in-Some.ensures.found _ refl).inside in
    let long = c.loop-t.invariant.long in
    omega (arith, c.requires.n_bound)

pub cleared-m-requires : goal.cleared-m-requires
cleared-m-requires c =
    record {
      t_lt_n = search rules;
      nonzero = pivot_divides _ _ _ _ _ _ (c.in-Some.ensures.found _ refl) c.loop-t.invariant c.swap.ensures.len c.swap.ensures.by_index;
    }

pub loop-t-preserved : goal.loop-t-preserved
loop-t-preserved c =
    reduced_turn _ _ _ _ _ _ _ (c.in-Some.ensures.found _ refl) c.loop-t.invariant c.swap.ensures.len c.swap.ensures.by_index c.cleared-m.ensures (search rules)

pub returns-in_default : goal.returns-in_default
returns-in_default c = search (reduced_stuck, rules)

pub returns : goal.returns
returns c = search (reduced_all, rules)
