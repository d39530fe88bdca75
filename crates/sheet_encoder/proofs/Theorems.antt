-- What is proved of encoding a sheet, in the request's order: one result; when it succeeds, and what a refusal leaves; the first 52 lines of what is written, and the last eleven.
use mathlib.Core.Path.{◌≡◌, refl, sym, ap, ◌∙◌}
use mathlib.Core.List.{List, [], ◌∷◌}
use Prim.Native.Nat.{ℕ, zero, suc, ◌<◌, ◌≤◌}
use native.Mathlib.Omega.{arith}
use lib.ListN.{length, get_or}
use Rattle.std.specs.Prelude.{Result, Ok, Err}
use Rattle.numbers.specs.Parts.{part}
use Rattle.numbers.proofs.Parts.{part_long}
use Rattle.refusal.specs.declared.Refusal.{Refusal}
use Rattle.refusal.proofs.Laws.{one_answer, one_refusal, refusal_positive, passed, Passed}
use Rattle.refusal.proofs.Ladder.{met_answer, ◌then◌}
use Rattle.refusal.proofs.Theorems.{one_result}
use Rattle.code.specs.Word.{Line}
use Rattle.encoder.specs.Promises.{LineWith, Encodes}
use Rattle.encoder.proofs.Theorems.{one_line}
use Rattle.sheet.specs.Sheet.{line_of, Proper}
use Rattle.sheet.proofs.Theorems.{one_proper_sheet}
use Rattle.sheet_encoder.specs.Promises.{encoding_numbers, encoding_tests, SheetWith, EncodedAs, EncodesSheet}
use Rattle.sheet_encoder.proofs.Loops.{encoded_there, part_characters}

-- the number fixes the answer of a call
head_of : (m n : ℕ) (ms ns : List ℕ) → m ∷ ms ≡ n ∷ ns → m ≡ n
head_of m n ms ns e = cc

one_encoding_number : (a b : Result Unit Refusal) → encoding_numbers a ≡ encoding_numbers b → a ≡ b
one_encoding_number (Ok x) (Ok y) e = refl
one_encoding_number (Ok x) (Err s) e = absurd (refusal_positive s (sym (head_of _ _ _ _ e)))
one_encoding_number (Err r) (Ok y) e = absurd (refusal_positive r (head_of _ _ _ _ e))
one_encoding_number (Err r) (Err s) e = ap Err (one_refusal r s (head_of _ _ _ _ e))

module _ (texts numbers : List ℕ) where
  -- line i has text i and number i
  line_with : (s : List ℕ) → SheetWith texts numbers s → (i : ℕ) → i < 52 → LineWith (part 50 i texts) (get_or numbers i 0) (line_of i s)
  line_with s p i h = record { line = p.proper.lines i (omega arith); its_text = p.its_texts i h; its_number = p.its_numbers i h }

  -- there is one proper sheet whose first 52 lines have these texts and numbers
  pub one_sheet_with : (s r : List ℕ) → SheetWith texts numbers s → SheetWith texts numbers r → s ≡ r
  one_sheet_with s r p q =
      one_proper_sheet s r p.proper q.proper
      (λ i h. one_line (part 50 i texts) (get_or numbers i 0) (line_of i s) (line_of i r) (line_with s p i h) (line_with r q i h))

  module _ (old : List ℕ) where
    -- ---- one result

    -- any two results that encoding a sheet allows are equal
    pub same_encoding : (a b x y : List ℕ) → EncodesSheet texts numbers old a x → EncodesSheet texts numbers old b y → (a ≡ b) × (x ≡ y)
    unfolding EncodesSheet
    same_encoding =
        one_result (encoding_tests texts numbers (length old)) (EncodedAs texts numbers) 0
        (λ _ f g x y p q. (p.0 ∙ sym q.0, one_sheet_with x y p.1 q.1)) old

    -- and so are any two answers of the call
    pub one_encoding : (a b : Result Unit Refusal) (x y : List ℕ) → EncodesSheet texts numbers old (encoding_numbers a) x
        → EncodesSheet texts numbers old (encoding_numbers b) y → (a ≡ b) × (x ≡ y)
    one_encoding a b x y p q = let e = same_encoding (encoding_numbers a) (encoding_numbers b) x y p q in (one_encoding_number a b e.0, e.1)

    -- ---- when it succeeds, and what a refusal leaves

    -- where every test holds
    pub not_refused : Passed (encoding_tests texts numbers (length old)) → (answer new : List ℕ) → EncodesSheet texts numbers old answer new → answer ≡ 0 ∷ []
    unfolding EncodesSheet
    not_refused m [] new p = absurd p
    not_refused m (zero ∷ f) new p = ap (λ (l : List ℕ). 0 ∷ l) p.1.0
    not_refused m (suc n ∷ f) new p =
        absurd
        (let e : suc n ≡ 0 =
        one_answer (encoding_tests texts numbers (length old)) (suc n) 0 p.0
        (met_answer (encoding_tests texts numbers (length old)) (m.0 then m.1.0 then m.1.1.0 then m.1.1.1.0 then m.1.1.1.1.0 then tt)) in
        omega arith)

    -- and nowhere else
    pub tests_hold : (s : List ℕ) → EncodesSheet texts numbers old (0 ∷ []) s → Passed (encoding_tests texts numbers (length old))
    unfolding EncodesSheet
    tests_hold s p = passed (encoding_tests texts numbers (length old)) 0 p.0 refl

    -- where it is refused, the output is as it was
    pub refused_unchanged : (n : ℕ) (fields new : List ℕ) → EncodesSheet texts numbers old (suc n ∷ fields) new → new ≡ old
    unfolding EncodesSheet
    refused_unchanged n fields new p = p.1.1

    -- ---- what a success writes

    module _ (s : List ℕ) (encodes : EncodesSheet texts numbers old (0 ∷ []) s) where
      sheet-with : SheetWith texts numbers s
      unfolding EncodesSheet
      sheet-with = encodes.1.1

      -- a proper sheet
      pub a_proper_sheet : Proper s
      a_proper_sheet = sheet-with.proper

      -- each of the first 52 lines is what encoding its text and number as a line by themselves writes, over any 63 bytes
      pub as_encoded_lines : (i : ℕ) → i < 52 → (over answer l : List ℕ) → length over ≡ 63 → Encodes (part 50 i texts) (get_or numbers i 0) over answer l
          → (answer ≡ 0 ∷ []) × (line_of i s ≡ l)
      as_encoded_lines i h over answer l room p =
          let held = tests_hold s encodes in
          let low = held.1.1.1.1.0 i in
          let e =
          encoded_there (part 50 i texts) (get_or numbers i 0) over answer l (part_long 50 52 i texts h held.0) room
          (part_characters 50 52 i texts h held.0 held.1.1.1.0) (omega arith) p in
          (e.0, one_line (part 50 i texts) (get_or numbers i 0) (line_of i s) l (line_with s sheet-with i h) e.1)

      -- the last eleven are lines too
      pub last_lines : (i : ℕ) → 52 ≤ i → i < 63 → Line (line_of i s)
      last_lines i l h = sheet-with.proper.lines i h

      -- and forced: a proper sheet with the same first 52 lines is this one
      pub forced_sheet : (r : List ℕ) → Proper r → ((i : ℕ) → i < 52 → line_of i r ≡ line_of i s) → r ≡ s
      forced_sheet r proper same = one_proper_sheet r s proper sheet-with.proper same
