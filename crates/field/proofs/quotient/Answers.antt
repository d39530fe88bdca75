-- `field::quotient` meets its contract: each return is one way in which a division ends; what is divided by is not 0.
use Rattle.std.proofs.lemmas.Result.{err_from_is_err_and}
use Rattle.refusal.proofs.Ladder.{◌then◌, given, denied}
use Rattle.field.proofs.Loops.{refused, with_value, by_nothing, not_nothing, by_something, by_low_bits}
use Rattle.field.proofs.quotient.Goals as goal

pub returns-in_err-elements : goal.returns-in_err-elements
returns-in_err-elements c =
    let p = err_from_is_err_and c.from_residual.result c.from_residual.ensures.1 in
    rw (p.1, p.2, c.in_err-elements.ensures.1) (refused _ _ 0 (denied c.in_err-elements.ensures.0))

pub returns-then-v-eq-NOTHING : goal.returns-then-v-eq-NOTHING
returns-then-v-eq-NOTHING c = refused _ _ 1 (c.in_ok-elements.ensures then by_nothing c.if-v-eq-NOTHING.true)

pub over-requires : goal.over-requires
over-requires c = not_nothing _ _ (given c.in_ok-elements.ensures) c.if-v-eq-NOTHING.false

pub returns : goal.returns
returns c =
    let e = given c.in_ok-elements.ensures in
    with_value _ _ _ (e, (by_something c.if-v-eq-NOTHING.false, tt)) (by_low_bits _ _ e _ c.over.ensures)
