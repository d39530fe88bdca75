-- `ring::list_by_pattern` meets its contract: the starts whose marks leave few enough errors are listed.
use borrow.Author.Rules.{rules}
use Rattle.ring.proofs.Loops.{light_told, lists_those}
use Rattle.ring.proofs.list_by_pattern.Goals as goal

pub returns : goal.returns
returns c = lists_those _ _ _ _ _ (λ j b h t. light_told _ c.all_gains-gains.result _ j b c.all_gains-gains.ensures h (search rules)) c.list_where.ensures
