-- Each way in which encoding ends: as encoding a block does, and then staggered.
use mathlib.Core.Path.{◌≡◌, refl, ap, ◌∙◌}
use mathlib.Core.List.{List, [], ◌∷◌}
use Prim.Native.Nat.{ℕ, zero, suc, ◌+◌, ◌-◌, ◌^◌, ◌<◌}
use native.Mathlib.Omega.{arith}
use lib.ListN.{length, length-append, length-map}
use Rattle.refusal.specs.declared.Refusal.{Refusal}
use Rattle.refusal.specs.declared.Refusal.TheVariants.{OutputLength}
use Rattle.refusal.specs.Number.{number_of}
use Rattle.refusal.specs.Promise.{◌else◌, Answer, Leaves}
use Rattle.refusal.proofs.Laws.{refusal_positive}
use Rattle.refusal.proofs.Ladder.{refuses}
use Rattle.refusal.proofs.Answers.{Alike, same_test, both_hold, alike_answer}
use Rattle.block.specs.Block.{Holds}
use Rattle.block.specs.Inside.{encoded, checked, with_checks}
use Rattle.block.specs.Promises as Block
use Rattle.block.proofs.Encoding.{holds_encoded}
use Rattle.smudge.specs.Smudge.{side}
use Rattle.smudge.specs.Inside.{stagger, rows_in}
use Rattle.smudge.proofs.Functions.{in_le, staggered_put}
use Rattle.std.specs.Int.{from_le_bytes}
use mir.Syntax.{w64}
use Rattle.smudge.specs.Promises.{encoding_tests, EncodedAs, Encodes}

-- the block with seven data rows has eight
pub plain_long : (given plain : List ℕ) → length given ≡ side - 1 → Holds given plain → length plain ≡ side
unfolding encoded
plain_long given plain seven h =
    ap length (holds_encoded given plain h) ∙ length-append (with_checks given) (_ ∷ []) ∙ ap (λ (n : ℕ). n + 1) (length-map given checked ∙ seven)

module _ (given old : List ℕ) where
  -- not seven data rows
  pub not_seven : (length given ≡ side - 1 → ⊥) → Encodes given old (8 ∷ []) old
  unfolding Encodes
  not_seven d = refuses (EncodedAs given) 0 old (encoding_tests given (length old)) 0 (record { not = d })

  module _ (seven : length given ≡ side - 1) where
    -- of seven data rows encoding a block asks the same
    same_answer : (n : ℕ) → Answer (Block.encoding_tests given (length old)) n → Answer (encoding_tests given (length old)) n
    same_answer n =
        alike_answer (Block.encoding_tests given (length old)) (encoding_tests given (length old)) n
        (both_hold (omega arith, omega arith) seven, (room, (same_test, tt)))
      where
        room : Alike (length old ≡ length given + 1 else OutputLength) (length old ≡ side else OutputLength)
        room = record { over = λ e. omega arith; back = λ e. omega arith; refusal = refl }

    -- a block that was written has eight rows
    pub eight_written : (mid : List ℕ) → Block.Encodes given old (0 ∷ []) mid → length mid ≡ side
    unfolding Block.Encodes
    eight_written mid p = plain_long given mid seven p.1.0

    pub staggered_encodes : (mid new : List ℕ) (x y : ℕ) → Block.Encodes given old (0 ∷ []) mid → x < 2 ^ 64 → x ≡ from_le_bytes w64 mid → y ≡ stagger x
        → new ≡ rows_in y → Encodes given old (0 ∷ []) new
    unfolding Block.Encodes Encodes
    staggered_encodes mid new x y p h e f w = (
      same_answer 0 p.0,
      (
        record { plain = mid; holds = p.1.0; stored = staggered_put mid new x y (in_le mid x (plain_long given mid seven p.1.0) p.1.0.proper.block.bytes h e) f w },
        p.1.1,
      ),
    )

    pub refused_encodes : (r : Refusal) (mid : List ℕ) → Block.Encodes given old (number_of r ∷ []) mid → Encodes given old (number_of r ∷ []) mid
    unfolding Block.Encodes Encodes
    refused_encodes r mid p = (same_answer (number_of r) p.0, leaves (number_of r) (refusal_positive r) p.1)
      where
        leaves : (n : ℕ) → (n ≡ 0 → ⊥) → Leaves (Block.EncodedAs given) 0 old n [] mid → Leaves (EncodedAs given) 0 old n [] mid
        leaves zero d l = absurd (d refl)
        leaves (suc n) d l = l
