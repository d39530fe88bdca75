-- `locations::roots_of` meets its contract, by the degree: a root is divided out before each call of itself.
use Rattle.std.proofs.Common.{rules}
use Rattle.locations.proofs.Finding.{no_root, root_twice, rest_none, one_more}
use Rattle.locations.proofs.+roots_of.Goals as goal

pub returns-in_err-x-in-3-to-5 : goal.returns-in_err-x-in-3-to-5
returns-in_err-x-in-3-to-5 t c = rw c.from_residual.ensures (no_root _ _ (search rules) c.in_err-x-in-3-to-5.ensures)

pub returns-then-twice-eq0 : goal.returns-then-twice-eq0
returns-then-twice-eq0 t c = root_twice _ _ _ _ _ (search rules) c.in_ok-x-in-3-to-5.ensures c.divided-once.ensures c.divided-twice.ensures (search rules)

pub returns-in_err-roots-in-3-to-5 : goal.returns-in_err-roots-in-3-to-5
returns-in_err-roots-in-3-to-5 t c =
    rw c.from_residual-in_err-roots-in-3-to-5.ensures
    (rest_none _ _ _ _ (search rules) c.in_ok-x-in-3-to-5.ensures c.divided-once.ensures c.in_err-roots-in-3-to-5.ensures)

pub returns-in_ok-roots-in-3-to-5 : goal.returns-in_ok-roots-in-3-to-5
returns-in_ok-roots-in-3-to-5 t c =
    one_more _ _ _ _ _ _ (search rules) (search rules) c.in_ok-x-in-3-to-5.ensures c.divided-once.ensures c.divided-twice.ensures (search rules)
    c.in_ok-roots-in-3-to-5.ensures
