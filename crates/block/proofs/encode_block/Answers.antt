-- `block::encode_block` meets its contract: each return is one way in which encoding ends.
use native.Mathlib.Omega.{arith}
use borrow.Author.Rules.{rules}
use Rattle.refusal.proofs.Ladder.{denied, verdicts}
use Rattle.block.proofs.Encoding.{refused, written}
use Rattle.block.proofs.encode_block.Goals as goal

pub returns-then-n-lt1 : goal.returns-then-n-lt1
returns-then-n-lt1 c = refused _ _ 0 (denied (λ g. omega arith))

pub returns-then-output-n : goal.returns-then-output-n
returns-then-output-n c = refused _ _ 1 (search verdicts)

pub returns-then-not-all_sevens : goal.returns-then-not-all_sevens
returns-then-not-all_sevens c = refused _ _ 2 (search verdicts)

pub returns : goal.returns
returns c = written _ _ (search verdicts depth 9) _ (search rules)
