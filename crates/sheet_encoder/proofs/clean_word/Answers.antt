-- `sheet_encoder::clean_word` meets its contract: a line with the column's first 52 characters, its marks taken off, is the clean word.
use borrow.Author.Rules.{rules}
use Rattle.sheet_encoder.proofs.Loops.{known_long, known_fits, word_completed}
use Rattle.sheet_encoder.proofs.clean_word.Goals as goal

pub slice_bounds-copy_from_slice-end-2 : goal.slice_bounds-copy_from_slice-end-2
slice_bounds-copy_from_slice-end-2 c = search (known_long, rules)

pub copy_from_slice-requires : goal.copy_from_slice-requires
copy_from_slice-requires c = search (known_fits, rules)

pub returns : goal.returns
returns c = search (word_completed, rules)
