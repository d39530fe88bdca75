-- put_number calls itself with the number that is left without its last digit.
use Rattle.text.proofs.+put_number.Given as goal

abbrev pub decreases-put_number : goal.decreases-put_number
decreases-put_number l = l.n
