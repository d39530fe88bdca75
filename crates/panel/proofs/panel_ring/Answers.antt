-- `panel::panel_ring` meets its contract: a refusal of the ring's reading passes through, and a line that is read goes on as its text.
use native.Mathlib.Omega.{arith}
use lib.ListN.{length-take}
use borrow.Author.Rules.{rules}
use Rattle.std.proofs.lemmas.Result.{err_from_is_err_and}
use Rattle.refusal.proofs.Ladder.{◌then◌, denied, verdicts}
use Rattle.panel.proofs.RingWays.{ring_refused, reading_refused, ring_put}
use Rattle.panel.proofs.panel_ring.Goals as goal

pub returns-then-ring-ne63 : goal.returns-then-ring-ne63
returns-then-ring-ne63 c = ring_refused _ _ _ 0 (search verdicts)

pub returns-then-output-lt-ROOM : goal.returns-then-output-lt-ROOM
returns-then-output-lt-ROOM c = ring_refused _ _ _ 1 (omega arith then denied (λ g. omega arith))

pub returns-in_err-read_ring : goal.returns-in_err-read_ring
returns-in_err-read_ring c =
    let p = err_from_is_err_and c.from_residual.result c.from_residual.ensures.1 in
    rw (p.1, p.2) (reading_refused _ _ _ (search rules) _ _ (search rules) _ c.in_err-read_ring.ensures)

pub slice_bounds-panel_text-end : goal.slice_bounds-panel_text-end
slice_bounds-panel_text-end c = simp length-take (omega arith)

pub returns : goal.returns
returns c = ring_put _ _ _ (search rules) _ _ (search rules) _ c.in_ok-read_ring.ensures _ _ c.panel_text.ensures
