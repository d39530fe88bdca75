-- put_number puts the number in decimal: by the last digit apart from the others, whose number is smaller.
use Rattle.std.proofs.Common.{rules}
use Rattle.text.proofs.Writing.{number_small, number_more}
use Rattle.text.proofs.+put_number.Goals as goal

pub returns-then-n-lt10 : goal.returns-then-n-lt10
returns-then-n-lt10 t c = search (number_small, rules)

pub returns : goal.returns
returns t c = search (number_more, rules)
