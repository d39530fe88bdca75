-- `panel::panel_text` meets its contract: a refusal is passed on, and plain text is written whole.
use native.Mathlib.Omega.{arith}
use Rattle.std.proofs.lemmas.Result.{MatchResult-at_err}
use Rattle.panel.proofs.Ways.{text_left, a_kind, characters, next_few, text_put, tested}
use Rattle.panel.proofs.panel_text.Goals as goal

pub returns-in_default : goal.returns-in_default
returns-in_default c = let m = MatchResult-at_err _ _ _ c.in_default.is c.map.ensures.cases in rw m (text_left _ _ _ c.in_default.ensures)

pub put_shown-length-requires : goal.put_shown-length-requires
put_shown-length-requires c =
    let output = c.args.output.now in
    let t = tested _ _ _ c.read_text-reading.ensures _ c.in-Ok.is in (a_kind _ output t, characters _ output t)

pub overflow_cast-result : goal.overflow_cast-result
overflow_cast-result c = omega (arith, next_few _ _ (tested _ _ _ c.read_text-reading.ensures _ c.in-Ok.is) _ _ c.put_shown-length.ensures)

pub returns : goal.returns
returns c = text_put _ _ (tested _ _ _ c.read_text-reading.ensures _ c.in-Ok.is) _ _ c.put_shown-length.ensures
