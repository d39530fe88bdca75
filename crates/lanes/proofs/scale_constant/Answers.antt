-- `lanes::scale_constant` meets its contract: three bits of f choose among the first doublings, and three among the others.
use Rattle.lanes.proofs.Choices.{by_choices}
use Rattle.lanes.proofs.scale_constant.Goals as goal

pub returns : goal.returns
returns c = by_choices _ _ _ _ _ _ _ _ _
    c.doubled-b.ensures
    c.doubled-c.ensures
    c.doubled-d.ensures
    c.doubled-e.ensures
    c.doubled-g.ensures
    c.chosen.ensures
    c.chosen-2.ensures
