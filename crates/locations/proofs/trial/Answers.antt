-- `locations::trial` meets its contract: the first element that divides with no remainder is a root.
use mathlib.Core.Path.{◌≡◌}
use Rattle.std.proofs.Common.{rules, tests}
use Rattle.std.proofs.lemmas.Iterator.{first_from_Range}
use Rattle.polynomial.specs.Polynomial.{poly_at}
use Rattle.locations.proofs.Loops.{root_told, root_denied, tried_all}
use Rattle.locations.proofs.trial.Goals as goal

pub returns : goal.returns
returns c =
    let p = c.args.p in
    tried_all p c.find.result
    (first_from_Range _ _ _ _ (λ x. poly_at p x ≡ 0) (λ x. poly_at p x ≡ 0 → ⊥) c.find.ensures.ran (λ x q k. search (root_told, rules, tests))
    (λ x q k. search (root_denied, rules, tests)))
