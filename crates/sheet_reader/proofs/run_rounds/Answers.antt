-- `sheet_reader::run_rounds` meets its contract: each turn runs one round more, unless the sheet is proper or the round leaves it as it was.
use borrow.Author.Rules.{rules}
use Rattle.sheet_reader.proofs.Running.{same_told, other_told, run_start, run_proper, run_same, run_more, eight_proper, eight_improper}
use Rattle.sheet_reader.proofs.run_rounds.Goals as goal

pub loop-rounds-init : goal.loop-rounds-init
loop-rounds-init c = search (run_start, rules)

pub returns-then-is_proper : goal.returns-then-is_proper
returns-then-is_proper c = search (run_proper, rules)

pub returns-then-eq : goal.returns-then-eq
returns-then-eq c =
    run_same _ c.loop-rounds.s _ c.loop-rounds.invariant _ c.loop-rounds-test.true c.is_proper.ensures c.if-is_proper.false c.read_words.new.sheet c.read_words-in-loop-rounds.new.sheet c.read_words.ensures
    c.read_words-in-loop-rounds.ensures (same_told _ _ _ c.eq.ensures c.if-eq.true)

pub loop-rounds-preserved : goal.loop-rounds-preserved
loop-rounds-preserved c =
    run_more _ c.loop-rounds.s _ c.loop-rounds.invariant _ c.loop-rounds-test.true c.is_proper.ensures c.if-is_proper.false c.read_words.new.sheet c.read_words-in-loop-rounds.new.sheet c.read_words.ensures
    c.read_words-in-loop-rounds.ensures (other_told _ _ _ c.eq.ensures c.if-eq.false)

pub returns-then-is_proper-2 : goal.returns-then-is_proper-2
returns-then-is_proper-2 c = search (eight_proper, rules)

pub returns : goal.returns
returns c = search (eight_improper, rules)
