-- `open_tray::drop_line` meets its contract: each refusal by its own test, in the paper's order; and the line lost.
use native.Mathlib.Omega.{arith}
use mathlib.Core.Path.{◌∙◌}
use borrow.Author.Rules.{rules}
use Rattle.numbers.proofs.Cases.{pos_of_not_zero}
use Rattle.refusal.proofs.Ladder.{verdicts, told_yes}
use Rattle.open_tray.proofs.Ways.{none_left, one_left, may_look_last, last_unsound, last_sound, may_drop, drop_refused, line_dropped}
use Rattle.open_tray.proofs.drop_line.Goals as goal

pub returns-then-not-fits : goal.returns-then-not-fits
returns-then-not-fits c = drop_refused _ 0 (search verdicts)

pub returns-then-held-eq0 : goal.returns-then-held-eq0
returns-then-held-eq0 c = drop_refused _ 1 (search (none_left, verdicts, rules) depth 9)

pub overflow_sub-last : goal.overflow_sub-last
overflow_sub-last c = let some = pos_of_not_zero _ c.if-held-eq0.false in omega (arith, c.from-last.ensures)

pub sound-requires : goal.sound-requires
sound-requires c =
    let t = c.args.tray.now in
    let h = c.byte_at-held in
    let both = may_look_last t c.from-last.result (c.from-last.ensures ∙ h.ensures) (told_yes c.fits.ensures (search rules)) (one_left t h.result h.ensures c.if-held-eq0.false) in
    record { fit = both.0; i_bound = both.1 }

pub returns-then-not-sound : goal.returns-then-not-sound
returns-then-not-sound c =
    let t = c.args.tray.now in
    let unsound = last_unsound t c.from-last.result (c.from-last.ensures ∙ c.byte_at-held.ensures) _ c.sound.ensures (search rules) in
    drop_refused _ 2 (search (unsound, one_left, verdicts, rules) depth 9)

pub lose_line-requires : goal.lose_line-requires
lose_line-requires c =
    let t = c.args.tray.now in
    let h = c.byte_at-held in
    let both = may_drop t c.from-last.result (c.from-last.ensures ∙ h.ensures) (told_yes c.fits.ensures (search rules)) (one_left t h.result h.ensures c.if-held-eq0.false)
    (told_yes c.sound.ensures (search rules)) in
    record { fit = both.0; tray_nonzero = both.1 }

pub returns : goal.returns
returns c =
    let t = c.args.tray.now in
    let sound = last_sound t c.from-last.result (c.from-last.ensures ∙ c.byte_at-held.ensures) _ c.sound.ensures (search rules) in
    line_dropped _ _ (search (sound, one_left, verdicts, rules) depth 9) (search rules)
