-- `open_tray::put_character` meets its contract: one room is changed, and the count goes with its sums.
use borrow.Author.Rules.{rules}
use Rattle.open_tray.proofs.Ways.{enough, small_after, may_replace_in, replaced_bytes}
use Rattle.open_tray.proofs.put_character.Goals as goal

pub replace-requires : goal.replace-requires
replace-requires c =
    let both =
    may_replace_in {t = c.args.tray.now} {i = c.args.i} c.requires.fit c.requires.i_bound.0 c.requires.i_bound.1 c.requires.address_bound.0
    c.requires.address_bound.1
    in
    record { room_len = both.0; address_bound = both.1 }

pub overflow_sub-tray : goal.overflow_sub-tray
overflow_sub-tray c = search (enough, rules)

pub overflow_add-tray : goal.overflow_add-tray
overflow_add-tray c = search (small_after, rules)

pub returns : goal.returns
returns c = search (replaced_bytes, rules)
