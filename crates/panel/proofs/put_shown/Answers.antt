-- `panel::put_shown` meets its contract: before each turn the characters passed are written.
use borrow.Author.Rules.{rules}
use Rattle.panel.proofs.Writing.{shown_character, shown_none, shown_more}
use Rattle.panel.proofs.put_shown.Goals as goal

pub loop-v-init : goal.loop-v-init
loop-v-init c = shown_none _

pub put_character-next-requires : goal.put_character-next-requires
put_character-next-requires c = shown_character _ c.requires.1 _

pub loop-v-preserved : goal.loop-v-preserved
loop-v-preserved c = search (shown_more, rules)
