-- `open_tray::replace_character` meets its contract: each refusal by its own test, in the paper's order; and the character put.
use native.Mathlib.Omega.{arith}
use borrow.Author.Rules.{rules}
use Rattle.refusal.proofs.Ladder.{verdicts, told_yes}
use Rattle.open_tray.proofs.Ways.{no_line, some_line, as_sound, as_replaced, replace_refused, character_replaced}
use Rattle.open_tray.proofs.replace_character.Goals as goal

pub returns-then-not-fits : goal.returns-then-not-fits
returns-then-not-fits c = replace_refused _ _ _ _ 0 (search verdicts)

pub returns-then-line-byte_at : goal.returns-then-line-byte_at
returns-then-line-byte_at c = replace_refused _ _ _ _ 1 (search (no_line, verdicts, rules) depth 9)

pub returns-then-address-gt-LAST_ADDRESS : goal.returns-then-address-gt-LAST_ADDRESS
returns-then-address-gt-LAST_ADDRESS c = replace_refused _ _ _ _ 2 (search (some_line, verdicts, rules) depth 9)

pub returns-then-character-gt-HIGHEST : goal.returns-then-character-gt-HIGHEST
returns-then-character-gt-HIGHEST c = replace_refused _ _ _ _ 3 (search (some_line, verdicts, rules) depth 9)

pub sound-requires : goal.sound-requires
sound-requires c =
    let fit = told_yes c.fits.ensures (search rules) in
    record { fit = fit.is; i_bound = omega (arith, c.from-i.ensures, c.byte_at.ensures, c.if-line-byte_at.false) }

pub returns-then-not-sound : goal.returns-then-not-sound
returns-then-not-sound c =
    let told = as_sound c.from-i.ensures c.sound.ensures in
    replace_refused _ _ _ _ 4 (search (told, some_line, verdicts, rules) depth 9)

pub put_character-requires : goal.put_character-requires
put_character-requires c =
    let fit = told_yes c.fits.ensures (search rules) in
    let sound = told_yes c.sound.ensures (search rules) in
    record {
      fit = fit.is;
      i_bound = (omega (arith, c.from-i.ensures, c.byte_at.ensures, c.if-line-byte_at.false), sound.is);
      address_bound = (c.if-address-gt-LAST_ADDRESS.false, c.if-character-gt-HIGHEST.false);
    }

pub returns : goal.returns
returns c =
    let told = as_sound c.from-i.ensures c.sound.ensures in
    character_replaced _ _ _ _ _ (search (told, some_line, verdicts, rules) depth 9) (as_replaced _ _ _ _ c.from-i.ensures c.put_character.ensures)
