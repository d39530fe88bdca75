-- `smudge::smudge_in` meets its contract: what the definition finds from the two kinds of parities.
use native.Mathlib.Omega.{arith}
use Rattle.smudge.specs.Inside.{straight}
use Rattle.smudge.proofs.Parities.{odd_most}
use Rattle.smudge.proofs.Functions.{smudge_is}
use Rattle.smudge.proofs.smudge_in.Goals as goal

pub overflow_mul-odd_rows : goal.overflow_mul-odd_rows
overflow_mul-odd_rows c = omega (arith, odd_most (straight c.args.x), c.odd_rows.ensures)

pub overflow_cast-columns : goal.overflow_cast-columns
overflow_cast-columns c = omega (arith, lib.Count.ones-le 8 c.wrong_columns-columns.result (omega arith))

pub returns : goal.returns
returns c = smudge_is _ _ _ _ _ c.odd_rows.ensures c.wrong_columns-columns.ensures (omega arith) (rw c.from.ensures at c.staggered-crossings.ensures) c.first_with.ensures
