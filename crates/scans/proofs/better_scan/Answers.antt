-- `scans::better_scan` meets its contract: where neither scan is kept, the empty part begins where the first scan does.
use borrow.Author.Rules.{rules}
use mathlib.Core.Path.{ap}
use Prim.Native.Nat.{ℕ}
use native.Mathlib.Nat.{zero-add}
use Rattle.scans.proofs.Laws.{handed_neither}
use Rattle.scans.proofs.better_scan.Goals as goal

pub returns-in-Err : goal.returns-in-Err
returns-in-Err c = let p : ℕ × ℕ = c.args.first.ref_ptr in
    let starts = ap {B = ℕ × ℕ} (λ (o : ℕ). (p.0, o)) (zero-add p.1) in
    search (handed_neither, starts, rules)
