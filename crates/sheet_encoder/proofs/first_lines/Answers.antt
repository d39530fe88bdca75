-- `sheet_encoder::first_lines` meets its contract: the lines passed have their texts and numbers.
use borrow.Author.Rules.{rules}
use Rattle.sheet_encoder.proofs.Loops.{lines_none, lines_again, lines_all}
use Rattle.sheet_encoder.proofs.first_lines.Goals as goal

pub loop-i-init : goal.loop-i-init
loop-i-init c = search (lines_none, rules)

pub loop-i-preserved : goal.loop-i-preserved
loop-i-preserved c =
    lines_again _ _ _ _ _ c.loop-i.invariant c.as_chunks.ensures.front_len _ _ _ c.as_chunks.ensures.front c.loop-i-test.true
    c.information_of-known.ensures c.put_line.ensures

pub returns : goal.returns
returns c = lines_all _ _ _ _ _ c.loop-i.invariant c.as_chunks.ensures.front_len c.loop-i-test.false
