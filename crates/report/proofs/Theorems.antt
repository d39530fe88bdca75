-- The theorems of the report: one result for every file and buffer, how long a report and a file can be, and a file longer than any tray.
use mathlib.Core.Path.{◌≡◌, refl, sym, ap, ap₂, ◌∙◌, subst}
use mathlib.Core.Logic.{inl, inr, ⊎_elim}
use mathlib.Core.List.{List, [], ◌∷◌, ◌++◌, append_assoc}
use Prim.Native.Nat.{ℕ, suc, ◌+◌, ◌<◌, ◌≤◌}
use native.Mathlib.Omega.{arith}
use lib.ListN.{length, get_or, take, drop, length-take, take-append-drop}
use lib.Seq.{take_at, take_all, length-take-le}
use Rattle.refusal.proofs.Laws.{one_refusal, refusal_positive}
use Rattle.refusal.proofs.Theorems.{one_result}
use Rattle.numbers.proofs.Cases.{le_or_lt}
use Rattle.text.specs.Text.{fields, line}
use Rattle.std.specs.Prelude.{Result, Ok, Err}
use Rattle.refusal.specs.declared.Refusal.{Refusal}
use Rattle.report.specs.Tray.{Bytes, Left, rest, cut, Sections, kinds}
use Rattle.report.specs.Printed.{word_end, word_more, word_cut, header, closing, Report, empty, tray, report_room, Ends}
use Rattle.report.specs.Promises.{report_numbers, report_tests, Shows, Reports}
use Rattle.report.proofs.First.{bytes_take, sections_used, sections_longer}
use Rattle.report.proofs.Lengths.{report_length, longest_file}
use Rattle.report.proofs.Once.{one_text}

-- ---- one result

-- a file has one report
pub one_report : (file s u : List ℕ) → Report file s → Report file u → s ≡ u
one_report file s u p q = one_text p q

one_shown : (file old f g x y : List ℕ) → Shows file old f x → Shows file old g y → (f ≡ g) × (x ≡ y)
one_shown file old f g x y p q =
    let e : p.text ≡ q.text = one_text p.report q.report in
    (p.shows ∙ ap (λ (l : List ℕ). length l ∷ []) e ∙ sym q.shows, p.output ∙ ap (λ (l : List ℕ). l ++ drop (length l) old) e ∙ sym q.output)

-- the numbers fix the answer
reported_fixed : (r s : Result ℕ Refusal) → report_numbers r ≡ report_numbers s → r ≡ s
reported_fixed (Ok m) (Ok n) q = ap Ok (ap (λ (l : List ℕ). get_or l 1 0) q)
reported_fixed (Ok m) (Err s) q = absurd (refusal_positive s (sym (ap (λ (l : List ℕ). get_or l 0 0) q)))
reported_fixed (Err r) (Ok n) q = absurd (refusal_positive r (ap (λ (l : List ℕ). get_or l 0 0) q))
reported_fixed (Err r) (Err s) q = ap Err (one_refusal r s (ap (λ (l : List ℕ). get_or l 0 0) q))

-- any two results that the promise allows are equal
pub one_reporting : (file old : List ℕ) (r s : Result ℕ Refusal) (x y : List ℕ) → Reports file old (report_numbers r) x → Reports file old (report_numbers s) y → (r ≡ s) × (x ≡ y)
unfolding Reports
one_reporting file old r s x y p q =
    let e = one_result (report_tests (length old)) (Shows file old) 1 (λ _. one_shown file old) old (report_numbers r) (report_numbers s) x y p q in
    (reported_fixed r s e.0, e.1)

-- any bytes at all are taken, where the buffer has room
pub any_bytes : (file old new : List ℕ) (r : Result ℕ Refusal) → report_room ≤ length old → Reports file old (report_numbers r) new → (n : ℕ) × (r ≡ Ok n)
unfolding Reports
any_bytes file old new (Ok n) h p = (n, refl)
any_bytes file old new (Err why) h (inl a, q) = absurd (refusal_positive why a.1)
any_bytes file old new (Err why) h (inr a, q) = absurd (a.0 h)

-- ---- how long a report and a file can be

-- the report of a file of bytes has at most 13,807 bytes
pub report_at_most : (file text : List ℕ) → Bytes file → Report file text → length text ≤ 13807
report_at_most file text b p = report_length p b

-- a file that is all used has at most 97,414 bytes
pub longest_used : (t : ℕ) (file lines counts : List ℕ) → Bytes file → Sections t kinds file lines counts (rest []) → length (t ∷ file) ≤ 97414
longest_used t file lines counts b d = let u = sections_used d b in omega arith

-- and a longer one is cut nowhere and has bytes left over, as many as may follow
more_follows : {file text : List ℕ} (after : List ℕ) → Report file text → Bytes file → length file ≡ longest_file + 1 → Report (file ++ after) text
more_follows after empty b h = absurd (omega arith)
more_follows after (tray {left = cut} d) b h = let u = sections_used d (λ i. b (suc i)) in absurd (omega arith)
more_follows after (tray {left = rest []} d) b h = let u = sections_used d (λ i. b (suc i)) in absurd (omega arith)
more_follows after (tray {left = rest (x ∷ xs)} d) b h = tray (sections_longer after d (λ i. b (suc i)))

-- so of a longer file the first 97,415 bytes say what is printed
pub longer_file : (file text : List ℕ) → Bytes file → Report (take 97415 file) text → Report file text
longer_file file text b p =
    ⊎_elim (λ (h : length file ≤ 97415). rw (take_all 97415 file h) at p)
    (λ (h : 97415 < length file). rw (take-append-drop 97415 file) at (more_follows (drop 97415 file) p (bytes_take 97415 file b) (length-take-le 97415 file (omega arith))))
    (le_or_lt (length file) 97415)

-- ---- whole lines

ends_line : (before word ns : List ℕ) → Ends (before ++ line word ns)
unfolding line
ends_line before word ns = (before ++ (word ++ fields ns), simp append_assoc)

ends_closing : (before counts : List ℕ) (left : Left) → Ends (before ++ closing counts left)
ends_closing before counts (rest []) = ends_line before word_end counts
ends_closing before counts (rest (x ∷ xs)) = ends_line before word_more []
ends_closing before counts cut = ends_line before word_cut []

-- a report never stops inside a line
pub whole_lines : {file text : List ℕ} → Report file text → Ends text
whole_lines empty = ends_line header word_cut []
whole_lines (tray {lines = lines} {counts = counts} {left = left} d) = rw append_assoc at (ends_closing (header ++ lines) counts left)

-- ---- for a caller that writes the text out

module _ (file old new : List ℕ) (r : Result ℕ Refusal) (n : ℕ) (p : Reports file old (report_numbers r) new) (w : r ≡ Ok n) where
  shown : Shows file old (n ∷ []) new
  unfolding Reports
  shown = (rw w at p).1

  text-is : take n new ≡ shown.text
  text-is =
      let e : n ≡ length shown.text = ap (λ (l : List ℕ). get_or l 0 0) shown.shows in
      ap₂ take e shown.output ∙ take_at shown.text (drop (length shown.text) old) (length shown.text) refl

  -- the first n bytes of the buffer are the file's report
  pub text_first : Report file (take n new)
  text_first = subst (Report file) (sym text-is) shown.report

  pub text_length : n ≡ length (take n new)
  text_length = ap (λ (l : List ℕ). get_or l 0 0) shown.shows ∙ ap length (sym text-is)

  pub text_fits : n ≤ length new
  text_fits = omega (arith, text_length ∙ length-take n new)
