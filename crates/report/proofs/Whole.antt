-- The ways out of the report: too little room, and the whole text at the start of the buffer.
use mathlib.Core.Path.{ap}
use mathlib.Core.List.{List, [], ◌∷◌, ◌++◌}
use Prim.Native.Nat.{ℕ, ◌≤◌}
use native.Mathlib.Omega.{arith}
use lib.ListN.{length}
use Rattle.refusal.proofs.Ladder.{FailsAt, answer_at, ◌then◌, refuses, succeeds}
use Rattle.text.specs.Text.{line}
use Rattle.text.specs.Writing.{Puts}
use Rattle.text.proofs.Writing.{puts_then, puts_whole}
use Rattle.report.specs.Printed.{words_header, header, report_room}
use Rattle.report.specs.Promises.{report_tests, Shows, Reports}
use Rattle.report.specs.Inside.{PutTray}
use Rattle.report.proofs.Lengths.{report_length}

module _ (file old : List ℕ) where
  pub refused : (n : ℕ) → FailsAt n (report_tests (length old)) → Reports file old (answer_at n (report_tests (length old)) ∷ 0 ∷ []) old
  unfolding Reports
  refused = refuses (Shows file old) 1 old (report_tests (length old))

  pub whole_text : (mid new : List ℕ) (head last : ℕ) → report_room ≤ length old → Puts old mid 0 head (line words_header []) → PutTray file mid new head last
      → Reports file old (0 ∷ last ∷ []) new
  unfolding Reports
  whole_text mid new head last h w p =
      let fits = report_length p.report p.bytes in
      let e = puts_whole old new last (header ++ p.text) (omega arith) (puts_then w p.puts) in
      succeeds (Shows file old) 1 old (report_tests (length old)) (last ∷ []) new (h then tt)
      (record { text = header ++ p.text; report = p.report; shows = ap (λ (n : ℕ). n ∷ []) e.0; output = e.1 })
