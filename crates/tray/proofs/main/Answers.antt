-- main is safe: the text that the report answers lies inside the buffer.
use Rattle.report.proofs.Theorems.{text_fits, text_length}
use Rattle.tray.proofs.main.Goals as goal

pub slice_bounds-text-end : goal.slice_bounds-text-end
slice_bounds-text-end c = text_fits _ _ _ _ _ c.report.ensures c.in-Ok.is

pub slice_bounds-write_all-end : goal.slice_bounds-write_all-end
slice_bounds-write_all-end c = text_length _ _ _ _ _ c.report.ensures c.in-Ok.is
