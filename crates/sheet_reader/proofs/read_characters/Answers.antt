-- `sheet_reader::read_characters` meets its contract: rounds are run from the sheet with its marks off, and what they leave is written with its marks on.
use borrow.Author.Rules.{rules}
use Rattle.refusal.proofs.Ladder.{given}
use Rattle.sheet_reader.proofs.Ways.{held_start, rounds_written}
use Rattle.sheet_reader.proofs.read_characters.Goals as goal

pub invariant_of-run_rounds : goal.invariant_of-run_rounds
invariant_of-run_rounds c = search (held_start, given, rules)

pub returns : goal.returns
returns c =
    rounds_written _ _ (given c.requires.sheet_len, (given c.requires.output_len, (given c.requires.characters, tt))) _ _ c.taken.ensures c.marks_added.ensures _ _ _
    c.run_rounds-left.ensures c.marks_added-2.ensures c.put.ensures
