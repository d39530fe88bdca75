-- `paper::Assumption::attempt` meets its contract: no line is that far where a step finds nothing, and what the recheck passes is a line.
use borrow.Author.Rules.{rules}
use Rattle.paper.proofs.Reading.{unsolved, unlocated, measured, roots_places, values_elements, rechecked, no_line}
use Rattle.paper.proofs.Assumption.attempt.Goals as goal

pub returns-in_err-polynomial : goal.returns-in_err-polynomial
returns-in_err-polynomial c =
    rw c.from_residual.ensures
    (unsolved _ _ _ c.args.self.few c.args.self.held c.args.self.have _ c.sum_rows.ensures c.in_err-polynomial.ensures)

pub returns-in_err-places : goal.returns-in_err-places
returns-in_err-places c =
    rw c.from_residual-in_err-places.ensures
    (unlocated _ _ _ c.args.self.few c.args.self.held c.args.self.have _ c.sum_rows.ensures _ c.in_ok-polynomial.ensures c.in_err-places.ensures)

pub returns-in_err-magnitudes : goal.returns-in_err-magnitudes
returns-in_err-magnitudes c =
    rw c.from_residual-in_err-magnitudes.ensures
    (measured _ _ _ c.args.self.few c.args.self.held c.args.self.have _ c.sum_rows.ensures _ c.in_ok-polynomial.ensures _ c.in_ok-places.ensures _
    c.power_rows.ensures c.in_err-magnitudes.ensures)

pub corrected-line-requires : goal.corrected-line-requires
corrected-line-requires c =
    record {
      elements =
          values_elements _ _ _ c.args.self.few c.args.self.held c.args.self.have _ c.sum_rows.ensures _ c.in_ok-polynomial.ensures _
          c.in_ok-places.ensures _ c.power_rows.ensures _ c.in_ok-magnitudes.ensures;
      places =
          roots_places _ _ _ c.args.self.few c.args.self.held c.args.self.have _ c.sum_rows.ensures _ c.in_ok-polynomial.ensures _ c.in_ok-places.ensures;
    }

pub returns-then-not-all_zero : goal.returns-then-not-all_zero
returns-then-not-all_zero c =
    no_line _ _ _ c.args.self.few c.args.self.held c.args.self.have _ c.sum_rows.ensures _ c.in_ok-polynomial.ensures _ c.in_ok-places.ensures _
    c.power_rows.ensures _ c.in_ok-magnitudes.ensures _ c.corrected-line.ensures _ c.power_sums.ensures _ c.all_zero.ensures (search rules)

pub returns : goal.returns
returns c =
    rechecked _ _ _ c.args.self.few c.args.self.held c.args.self.have _ c.sum_rows.ensures _ c.in_ok-polynomial.ensures _ c.in_ok-places.ensures _
    c.power_rows.ensures _ c.in_ok-magnitudes.ensures _ c.corrected-line.ensures _ c.power_sums.ensures _ c.all_zero.ensures (search rules)
