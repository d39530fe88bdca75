-- put_tray puts all lines but the header. After j sections, whatever completes the rest completes the tray.
use mathlib.Core.Path.{refl}
use native.Mathlib.Omega.{arith}
use borrow.Author.Rules.{rules}
use borrow.Author.Tests.{tests}
use Rattle.report.proofs.Loops.{tray_empty, tray_cut, sections_more, tray_more, tray_end}
use Rattle.report.proofs.put_tray.Goals as goal

pub returns-in_default : goal.returns-in_default
returns-in_default c = tray_empty _ _ _ _ _ c.in_default.ensures.cases c.put_words.ensures

pub returns-in-Err : goal.returns-in-Err
returns-in-Err c =
    tray_cut _ _ _ _ _ _ _ _ _ c.loop-j.invariant c.loop-j-test.true _ refl _ c.in-Some.ensures.cases.0 (λ i. omega (arith, c.type_inv.file i)) _ _ c.in-Err.ensures.cut _ _ c.put_words-in-Err.ensures

pub loop-j-preserved : goal.loop-j-preserved
loop-j-preserved c = sections_more _ _ _ _ _ _ _ _ _ c.loop-j.invariant c.loop-j-test.true _ refl _ _ _ _ c.in-Ok.ensures.whole

pub returns-then-not-is_empty : goal.returns-then-not-is_empty
returns-then-not-is_empty c = tray_more _ _ _ _ _ _ _ _ _ c.loop-j.invariant _ c.in-Some.ensures.cases.0 (λ i. omega (arith, c.type_inv.file i)) (omega arith) (search (rules, tests)) _ _ c.put_words-then-not-is_empty.ensures

pub returns : goal.returns
returns c = tray_end _ _ _ _ _ _ _ _ _ c.loop-j.invariant _ c.in-Some.ensures.cases.0 (λ i. omega (arith, c.type_inv.file i)) (omega arith) (search (rules, tests)) _ _ c.put_line.ensures
