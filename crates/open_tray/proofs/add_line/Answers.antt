-- `open_tray::add_line` meets its contract: each refusal by its own test, in the paper's order; and the line put.
use native.Mathlib.Omega.{arith}
use borrow.Author.Rules.{rules}
use Rattle.refusal.proofs.Ladder.{verdicts, given, told_yes}
use Rattle.open_tray.proofs.Ways.{no_room, some_room, as_told, as_added, add_refused, line_added}
use Rattle.open_tray.proofs.add_line.Goals as goal

pub returns-then-not-fits : goal.returns-then-not-fits
returns-then-not-fits c = add_refused _ _ 0 (search verdicts)

pub returns-in_default : goal.returns-in_default
returns-in_default c = let other = c.in_default.ensures.1 in add_refused _ _ 1 (search (other, verdicts))

pub returns-then-not-all_low : goal.returns-then-not-all_low
returns-then-not-all_low c =
    let fit = told_yes c.fits.ensures (search rules) in
    let long = given c.in-Ok.ensures.1.long in
    let told = as_told c.in-Ok.ensures.1.same c.all_low.ensures in
    add_refused _ _ 2 (search (fit, long, told, verdicts) depth 9)

pub returns-then-byte_at-ge-ROOMS : goal.returns-then-byte_at-ge-ROOMS
returns-then-byte_at-ge-ROOMS c =
    let fit = told_yes c.fits.ensures (search rules) in
    let long = given c.in-Ok.ensures.1.long in
    let told = as_told c.in-Ok.ensures.1.same c.all_low.ensures in
    let full = no_room c.args.tray.now c.byte_at.result c.byte_at.ensures (search rules) in
    add_refused _ _ 3 (search (fit, long, told, full, verdicts) depth 9)

pub put_line-requires : goal.put_line-requires
put_line-requires c =
    let fit = told_yes c.fits.ensures (search rules) in
    let free = some_room c.args.tray.now c.byte_at.result c.byte_at.ensures (omega (arith, c.if-byte_at-ge-ROOMS.false)) in
    record { fit = fit.is; free = free.is }

pub returns : goal.returns
returns c =
    let fit = told_yes c.fits.ensures (search rules) in
    let long = given c.in-Ok.ensures.1.long in
    let told = as_told c.in-Ok.ensures.1.same c.all_low.ensures in
    let free = some_room c.args.tray.now c.byte_at.result c.byte_at.ensures (omega (arith, c.if-byte_at-ge-ROOMS.false)) in
    line_added _ _ _ (search (fit, long, told, free, verdicts) depth 9) (as_added c.in-Ok.ensures.1.same c.put_line.ensures)
