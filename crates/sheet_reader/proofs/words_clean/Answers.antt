-- `sheet_reader::words_clean` meets its contract: the words passed are clean, and one that is not tells.
use borrow.Author.Rules.{rules}
use Rattle.sheet_reader.proofs.Tests.{clean_start, a_word, clean_again, unclean, clean_all}
use Rattle.sheet_reader.proofs.words_clean.Goals as goal

pub loop-i-init : goal.loop-i-init
loop-i-init c = search (clean_start, rules)

pub is_clean-requires : goal.is_clean-requires
is_clean-requires c = search (a_word, rules)

pub returns-then-not-is_clean : goal.returns-then-not-is_clean
returns-then-not-is_clean c = search (unclean, rules)

pub loop-i-preserved : goal.loop-i-preserved
loop-i-preserved c = search (clean_again, rules)

pub returns : goal.returns
returns c = search (clean_all, rules)
