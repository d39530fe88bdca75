-- `open_tray::sound` meets its contract: every byte of the room is below 64, and a sum that is not 0 has a count.
use Rattle.open_tray.proofs.Ways.{not_low, sound_told}
use Rattle.open_tray.proofs.sound.Goals as goal

pub returns-else-all_low : goal.returns-else-all_low
returns-else-all_low c = not_low _ _ _ c.all_low.ensures c.if-all_low.false

pub returns-then-all_low : goal.returns-then-all_low
returns-then-all_low c = sound_told _ _ _ _ c.all_low.ensures c.if-all_low.true c.wrong_in.ensures
