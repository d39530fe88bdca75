-- `smudge::encode_smudge` meets its contract: of seven data rows it answers as encoding a block does, and staggers what was written.
use mathlib.Core.Path.{◌∙◌, sym, ap}
use native.Mathlib.Omega.{arith}
use lib.ListN.{length}
use Rattle.std.proofs.lemmas.Result.{err_from_is_err_and}
use Rattle.smudge.proofs.Functions.{le_rows}
use Rattle.smudge.proofs.Encoding.{not_seven, eight_written, staggered_encodes, refused_encodes}
use Rattle.smudge.proofs.encode_smudge.Goals as goal

pub returns-then-given-ne-DATA_ROWS : goal.returns-then-given-ne-DATA_ROWS
returns-then-given-ne-DATA_ROWS c = not_seven _ _ (λ g. omega arith)

pub returns-in_err-encode_block : goal.returns-in_err-encode_block
returns-in_err-encode_block c =
    let p = err_from_is_err_and c.from_residual.result c.from_residual.ensures.1 in
    rw (p.1, p.2) (refused_encodes _ _ (omega arith) c.in_err-encode_block.field-0.0 c.encode_block.new.output c.in_err-encode_block.ensures)

pub copy_from_slice-requires : goal.copy_from_slice-requires
copy_from_slice-requires c = sym (eight_written _ _ (omega arith) c.encode_block.new.output c.in_ok-encode_block.ensures)

pub copy_from_slice-requires-2 : goal.copy_from_slice-requires-2
copy_from_slice-requires-2 c = eight_written _ _ (omega arith) c.encode_block.new.output c.in_ok-encode_block.ensures ∙ sym (ap length c.to_le_bytes.ensures)

pub returns : goal.returns
returns c =
    staggered_encodes _ _ (omega arith) c.encode_block.new.output _ c.from_le_bytes.result c.staggered-stored.result c.in_ok-encode_block.ensures (omega arith)
    (rw c.copy_from_slice.ensures.after at c.from_le_bytes.ensures) c.staggered-stored.ensures
    (c.copy_from_slice-2.ensures.after ∙ c.to_le_bytes.ensures ∙ le_rows c.staggered-stored.result)
