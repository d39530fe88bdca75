-- `panel::put_shown` meets its contract: before each turn the characters passed are written.
use lib.ListN.{take}
use Rattle.text.specs.Writing.{Puts}
use Rattle.panel.specs.Escaping.{escaped}
use Rattle.panel.proofs.put_shown.Given as goal

abbrev pub invariant-loop-v : goal.invariant-loop-v
invariant-loop-v l = Puts l.initial.output l.output 0 l.next (escaped (take l.v-index l.v-items))
