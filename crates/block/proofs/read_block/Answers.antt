-- `block::read_block` meets its contract: each return is one way in which reading ends.
use Prim.Native.Nat.{◌<◌, ◌≤◌}
use native.Mathlib.Omega.{arith}
use borrow.Author.Rules.{rules}
use Rattle.refusal.proofs.Ladder.{denied, verdicts}
use Rattle.block.proofs.Reading.{refused, many_odd, many_columns, row_inside, found}
use Rattle.block.proofs.read_block.Goals as goal

pub returns-then-n-lt2 : goal.returns-then-n-lt2
returns-then-n-lt2 c = refused _ _ 0 (denied (λ g. omega arith))

pub returns-then-output-n : goal.returns-then-output-n
returns-then-output-n c = refused _ _ 1 (search verdicts)

pub returns-then-faults-gt1 : goal.returns-then-faults-gt1
returns-then-faults-gt1 c = let many : 1 < c.faults_of-faults.result.rows = omega arith in
    refused _ _ 2 (search (many_odd, verdicts))

pub returns-then-distance-gt1 : goal.returns-then-distance-gt1
returns-then-distance-gt1 c = let many : 1 < c.ones_of-distance.result = omega arith in
    refused _ _ 2 (search (many_columns, verdicts))

pub bounds-output-faults : goal.bounds-output-faults
bounds-output-faults c = search row_inside

pub bounds-output-faults-2 : goal.bounds-output-faults-2
bounds-output-faults-2 c = search row_inside

pub returns : goal.returns
returns c = let few : c.faults_of-faults.result.rows ≤ 1 = omega arith in
    let small : c.ones_of-distance.result ≤ 1 = omega arith in
    search (found, rules)
