-- `sheet_encoder::encode_sheet` meets its contract: each return is one way in which encoding a sheet ends, in the order of the refusals.
use borrow.Author.Rules.{rules}
use Rattle.refusal.proofs.Ladder.{told_yes, verdicts}
use Rattle.sheet_encoder.proofs.Written.{unmarked_low}
use Rattle.sheet_encoder.proofs.Ways.{encodable, refused, written, put_sheet}
use Rattle.sheet_encoder.proofs.encode_sheet.Goals as goal

pub returns-then-texts-ne-TEXTS : goal.returns-then-texts-ne-TEXTS
returns-then-texts-ne-TEXTS c = refused _ _ _ 0 (search verdicts)

pub returns-then-numbers-ne-FREE : goal.returns-then-numbers-ne-FREE
returns-then-numbers-ne-FREE c = refused _ _ _ 1 (search verdicts)

pub returns-then-output-ne-SHEET : goal.returns-then-output-ne-SHEET
returns-then-output-ne-SHEET c = refused _ _ _ 2 (search verdicts)

pub returns-then-not-all_low : goal.returns-then-not-all_low
returns-then-not-all_low c = refused _ _ _ 3 (search verdicts depth 9)

pub returns-then-not-possible : goal.returns-then-not-possible
returns-then-not-possible c = refused _ _ _ 4 (search verdicts depth 9)

pub first_lines-requires : goal.first_lines-requires
first_lines-requires c = encodable _ _ (search rules) (search rules) (told_yes c.all_low.ensures c.if-not-all_low.false-raw)
    (told_yes c.possible.ensures c.if-not-possible.false-raw)

pub completed-requires : goal.completed-requires
completed-requires c = search (unmarked_low, rules)

pub returns : goal.returns
returns c = written _ _ _ _ (search verdicts depth 9) (search (put_sheet, rules))
