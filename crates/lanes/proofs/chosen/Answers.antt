-- `lanes::chosen` meets its contract: each arm by the three bits that choose it.
use Rattle.lanes.proofs.Choices.{chosen_none, chosen_a, chosen_b, chosen_ab, chosen_c, chosen_ac, chosen_bc, chosen_abc}
use Rattle.lanes.proofs.chosen.Goals as goal

pub returns-in-0 : goal.returns-in-0
returns-in-0 c = chosen_none _ _ _ _ c.in-0.is

pub returns-in-1 : goal.returns-in-1
returns-in-1 c = chosen_a _ _ _ _ c.in-1.is

pub returns-in-2 : goal.returns-in-2
returns-in-2 c = chosen_b _ _ _ _ c.in-2.is

pub returns-in-3 : goal.returns-in-3
returns-in-3 c = chosen_ab _ _ _ _ c.in-3.is

pub returns-in-4 : goal.returns-in-4
returns-in-4 c = chosen_c _ _ _ _ c.in-4.is

pub returns-in-5 : goal.returns-in-5
returns-in-5 c = chosen_ac _ _ _ _ c.in-5.is

pub returns-in-6 : goal.returns-in-6
returns-in-6 c = chosen_bc _ _ _ _ c.in-6.is

pub returns-in_default : goal.returns-in_default
returns-in_default c = chosen_abc _ _ _ _ c.in_default.in_default-own.rest
