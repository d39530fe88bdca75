-- `smudge::read_smudge` meets its contract: each return is one way in which reading ends.
use mathlib.Core.Path.{◌∙◌}
use native.Mathlib.Omega.{arith}
use Rattle.refusal.proofs.Ladder.{given, denied}
use Rattle.smudge.proofs.Functions.{le_rows, in_array}
use Rattle.smudge.proofs.Reading.{refused, read_whole, read_none, read_mended}
use Rattle.smudge.proofs.read_smudge.Goals as goal

pub returns-in_default : goal.returns-in_default
returns-in_default c = refused _ _ 0 (denied c.in_default.ensures.1)

pub returns-then-output-ne-SIDE : goal.returns-then-output-ne-SIDE
returns-then-output-ne-SIDE c = refused _ _ 1 (given c.in-Ok.ensures.1.long, denied (λ g. omega arith))

pub returns-then-is_sound : goal.returns-then-is_sound
returns-then-is_sound c =
    let s = in_array c.args.rows.now c.in-Ok.eight c.from_le_bytes-x.result c.in-Ok.ensures.1 (λ i. omega (arith, c.type_inv.rows i)) (omega arith) c.from_le_bytes-x.ensures in
    read_whole _ _ _ s (omega arith) _ _ c.is_sound.ensures c.if-is_sound.true
    (c.copy_from_slice.ensures.after ∙ c.to_le_bytes.ensures ∙ le_rows c.from_le_bytes-x.result)

pub returns-then-not-is_sound : goal.returns-then-not-is_sound
returns-then-not-is_sound c =
    let s = in_array c.args.rows.now c.in-Ok.eight c.from_le_bytes-x.result c.in-Ok.ensures.1 (λ i. omega (arith, c.type_inv.rows i)) (omega arith) c.from_le_bytes-x.ensures in
    read_none _ _ _ s (omega arith) _ c.smudge_in-smudge.ensures (omega arith) _ c.is_sound-2.ensures c.if-not-is_sound.true

pub returns : goal.returns
returns c =
    let s = in_array c.args.rows.now c.in-Ok.eight c.from_le_bytes-x.result c.in-Ok.ensures.1 (λ i. omega (arith, c.type_inv.rows i)) (omega arith) c.from_le_bytes-x.ensures in
    read_mended _ _ _ s (omega arith) _ c.smudge_in-smudge.ensures (omega arith) _ c.is_sound-2.ensures _ _ c.if-not-is_sound.false
    (c.copy_from_slice-2.ensures.after ∙ c.to_le_bytes-2.ensures ∙ le_rows _) c.cells_in.ensures
