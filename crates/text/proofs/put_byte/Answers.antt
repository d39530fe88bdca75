-- put_byte puts its byte: past the end it writes nothing, and inside it sets one place.
use borrow.Author.Rules.{rules}
use Rattle.text.proofs.Writing.{byte_out, byte_in}
use Rattle.text.proofs.put_byte.Goals as goal

pub returns-then-at-out : goal.returns-then-at-out
returns-then-at-out c = search (byte_out, rules)

pub returns : goal.returns
returns c = search (byte_in, rules)
