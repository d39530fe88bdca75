-- `sheet_reader::read_sheet` meets its contract: each return is one way in which reading ends, in the order of the refusals.
use Rattle.refusal.proofs.Ladder.{verdicts}
use Rattle.sheet_reader.proofs.Ways.{refused}
use Rattle.sheet_reader.proofs.read_sheet.Goals as goal

pub returns-then-sheet-ne-SHEET : goal.returns-then-sheet-ne-SHEET
returns-then-sheet-ne-SHEET c = refused _ _ 0 (search verdicts)

pub returns-then-output-ne-SHEET : goal.returns-then-output-ne-SHEET
returns-then-output-ne-SHEET c = refused _ _ 1 (search verdicts)

pub returns-then-not-all_low : goal.returns-then-not-all_low
returns-then-not-all_low c = refused _ _ 2 (search verdicts)
