-- `line::plain` gives a reading's numbers: in each arm the struct has the fields of that case.
use Rattle.line.proofs.plain.Goals as goal

pub returns-in-Ok : goal.returns-in-Ok
returns-in-Ok c = simp c.in-Ok.is

pub returns-in-Err : goal.returns-in-Err
returns-in-Err c = simp (c.number.ensures, c.in-Err.is)
