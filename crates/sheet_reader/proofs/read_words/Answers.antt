-- `sheet_reader::read_words` meets its contract: each turn reads one word more, or leaves it.
use mathlib.Core.Path.{refl, ap}
use borrow.Author.Rules.{rules}
use Rattle.sheet_reader.specs.declared.unmarked.Unmarked.{Unmarked}
use Rattle.sheet_reader.proofs.Loops.{read_none, read_left, read_put, read_all, read_held}
use Rattle.sheet_reader.proofs.read_words.Goals as goal
use Rattle.sheet_reader.proofs.read_words.Goals.{in-Some, in_default}

pub loop-i-init : goal.loop-i-init
loop-i-init c = search (read_none, rules)

pub invariant_of-sheet : goal.invariant_of-sheet
invariant_of-sheet c =
    record {
      held = read_held _ _ _ _
          (read_put _ _ _ _ _ c.loop-i.invariant c.loop-i-test.true c.word.ensures _ _ _ _ c.clean_within-found.ensures c.in-Some.is c.put.ensures refl) (search rules);
    }

pub loop-i-preserved : goal.loop-i-preserved
loop-i-preserved c =
    elim c.match-found.branch [
      | in-Some w ↦
          read_put _ _ _ _ _ c.loop-i.invariant c.loop-i-test.true c.word.ensures _ _ _ _ c.clean_within-found.ensures w.in-Some.is w.put.ensures
          (ap (λ (u : Unmarked). u.cells) w.sheet-is)
      | in_default w ↦ search (read_left, rules)
    ]

pub returns : goal.returns
returns c = search (read_all, rules)
