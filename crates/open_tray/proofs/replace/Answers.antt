-- `open_tray::replace` meets its contract: one character of a room is replaced, and the sums after the characters get the share of the change.
use borrow.Author.Rules.{rules}
use Rattle.open_tray.proofs.Rooms.{set_reaches, sums_after_lem, change_low, replaced_at, replaced_same_long}
use Rattle.open_tray.proofs.replace.Goals as goal

pub slice_bounds-add_shares-count : goal.slice_bounds-add_shares-count
slice_bounds-add_shares-count c = search (set_reaches, rules)

pub slice_bounds-add_shares-start : goal.slice_bounds-add_shares-start
slice_bounds-add_shares-start c = search (set_reaches, rules)

pub add_shares-requires : goal.add_shares-requires
add_shares-requires c =
    let r = c.args.room.now in
    record {
      sums_len = sums_after_lem r c.from-at.result c.args.character c.requires.room_len.0;
      address_bound = (
        c.requires.address_bound.0,
        change_low r c.from-at.result c.args.character c.requires.room_len.0 c.requires.room_len.1 c.requires.address_bound.1,
      );
    }

pub shape_of-room : goal.shape_of-room
shape_of-room c = search (replaced_same_long, rules)

pub returns : goal.returns
returns c = search (replaced_at, rules)
