-- `matrix::pivot` meets its contract: the first row that has not 0 in the column is found.
use mathlib.Core.Path.{◌≡◌}
use Rattle.std.proofs.Common.{rules, tests}
use Rattle.std.proofs.lemmas.Iterator.{first_from_Range}
use Rattle.matrix.specs.System.{at}
use Rattle.matrix.proofs.Turns.{pivot_found}
use Rattle.matrix.proofs.pivot.Goals as goal

pub returns : goal.returns
returns c =
    let m = c.args.m in
    let t = c.args.t in
    pivot_found m t c.args.n c.find.result
    (first_from_Range _ _ _ _ (λ i. at m i t ≡ 0 → ⊥) (λ i. at m i t ≡ 0) c.find.ensures.ran (λ x q k. search (rules, tests)) (λ x q k. search (rules, tests)))
