-- `ring::read_ring` meets its contract: each return is one way in which reading ends.
use native.Mathlib.Omega.{arith}
use Prim.Native.Nat.{◌<◌}
use Rattle.refusal.proofs.Ladder.{told_yes, verdicts}
use Rattle.ring.proofs.Ways.{listable, found_here, refused, read, empty, not_empty, many, not_many, the_line}
use Rattle.ring.proofs.read_ring.Goals as goal

pub returns-then-ring-ne63 : goal.returns-then-ring-ne63
returns-then-ring-ne63 c = refused _ _ _ 0 (search verdicts)

pub returns-then-output-ne63 : goal.returns-then-output-ne63
returns-then-output-ne63 c = refused _ _ _ 1 (search verdicts)

pub returns-then-not-all_low : goal.returns-then-not-all_low
returns-then-not-all_low c = refused _ _ _ 2 (search verdicts)

pub returns-then-radius-gt5 : goal.returns-then-radius-gt5
returns-then-radius-gt5 c = refused _ _ _ 3 (search verdicts)

pub list_starts-count-requires : goal.list_starts-count-requires
list_starts-count-requires c = listable _ _ (omega arith) (told_yes c.all_low.ensures c.if-not-all_low.false-raw) (omega arith)

pub returns-then-count-eq0 : goal.returns-then-count-eq0
returns-then-count-eq0 c = refused _ _ _ 4 (search (empty, verdicts) depth 9)

pub returns-then-count-gt1 : goal.returns-then-count-gt1
returns-then-count-gt1 c = let more : 1 < c.list_starts-count.result = omega arith in
    refused _ _ _ 5 (search (not_empty, many, verdicts) depth 9)

pub unwrap-found-requires : goal.unwrap-found-requires
unwrap-found-requires c = found_here _ _ (told_yes c.all_low.ensures c.if-not-all_low.false-raw) (omega arith) _ _ _ c.list_starts-count.ensures (omega arith) (omega arith) _ c.word_at-word.ensures _ c.nearest_line.ensures

pub returns : goal.returns
returns c =
    read _ _ _ _ _ (search (not_empty, not_many, verdicts) depth 12)
    (the_line _ _ (told_yes c.all_low.ensures c.if-not-all_low.false-raw) (omega arith) _ _ _ c.list_starts-count.ensures (omega arith) (omega arith) _ c.word_at-word.ensures _
    c.unwrap-found.result c.unwrap-found.ensures c.nearest_line.ensures _ c.number_of.ensures _ (c.put.ensures.over (omega arith)))
