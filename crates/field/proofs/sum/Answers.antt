-- `field::sum` meets its contract: each return is one way in which an operation ends.
use borrow.Author.Rules.{rules}
use Rattle.std.proofs.lemmas.Result.{err_from_is_err_and}
use Rattle.refusal.proofs.Ladder.{◌then◌, denied}
use Rattle.field.proofs.Loops.{refused, with_value}
use Rattle.field.proofs.sum.Goals as goal

pub returns-in_err-elements : goal.returns-in_err-elements
returns-in_err-elements c =
    let p = err_from_is_err_and c.from_residual.result c.from_residual.ensures.1 in
    rw (p.1, p.2, c.in_err-elements.ensures.1) (refused _ _ 0 (denied c.in_err-elements.ensures.0))

pub returns : goal.returns
returns c = with_value _ _ _ (c.in_ok-elements.ensures then tt) (search rules)
