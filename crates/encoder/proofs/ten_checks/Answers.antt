-- `encoder::ten_checks` meets its contract: after each sum the lanes hold what the words so far add up to.
use Rattle.encoder.proofs.Interpolation.{tens_first, tens_more, tens_with}
use Rattle.encoder.proofs.ten_checks.Goals as goal

pub returns : goal.returns
returns c = let s = c.args.sums in
    tens_with s _
    (tens_more s 10 _ _
    (tens_more s 9 _ _
    (tens_more s 8 _ _
    (tens_more s 7 _ _
    (tens_more s 6 _ _
    (tens_more s 5 _ _
    (tens_more s 4 _ _
    (tens_more s 3 _ _
    (tens_more s 2 _ _
    (tens_more s 1 _ _
    (tens_first s _ c.scale_constant-ten.ensures)
    c.scale_constant-ten-2.ensures)
    c.scale_constant-ten-3.ensures)
    c.scale_constant-ten-4.ensures)
    c.scale_constant-ten-5.ensures)
    c.scale_constant-ten-6.ensures)
    c.scale_constant-ten-7.ensures)
    c.scale_constant-ten-8.ensures)
    c.scale_constant-ten-9.ensures)
    c.scale_constant-ten-10.ensures)
    c.scale_constant-ten-11.ensures)
