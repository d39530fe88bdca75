-- What is proved of panel text, in the words of the request: nothing harmful is written, undoing the names gives the text back, every byte is printable, 294 are enough and are needed, which texts are refused, and one result.
use mathlib.Core.Path.{◌≡◌, refl, sym, ap, ap₂, ◌∙◌}
use mathlib.Core.Bool.{true}
use mathlib.Core.Logic.{inl, inr}
use mathlib.Core.List.{List, [], ◌∷◌, ◌++◌, map}
use Prim.Native.Nat.{ℕ, zero, suc, ◌+◌, ◌<◌, ◌≤◌}
use native.Mathlib.Omega.{arith}
use lib.ListN.{length, get_or, take, drop, replicate, length-drop, get_or-append}
use lib.Seq.{take-append_seam, drop-append_seam, drop-cons, get_or-drop}
use Rattle.refusal.specs.declared.Refusal.{Refusal}
use Rattle.refusal.specs.declared.Refusal.TheVariants.{InputLength, OutputLength, ValueOver, Template, UnknownKind}
use Rattle.refusal.proofs.Laws.{one_refusal, refusal_positive, Passed, passed}
use Rattle.refusal.proofs.Ladder.{◌then◌, denied, above}
use Rattle.refusal.proofs.Theorems.{one_result}
use Rattle.code.specs.Word.{Characters}
use Rattle.std.specs.Prelude.{Result, Ok, Err}
use Rattle.panel.specs.Escaping.{written_by, escaped}
use Rattle.panel.specs.Harmless.{Harmless, begins, begins_name, Printable, read_by, undone_after, undone}
use Rattle.panel.specs.Promises.{panel_numbers, kind, Plain, shown, text_tests, Shows, Panels}
use Rattle.panel.proofs.Names.{byte_at}
use Rattle.panel.proofs.Escaping.{escaped_long, Fine, escaped_fine, PrintableThere, escaped_printable, names_ascii, undone_escaped}
use Rattle.panel.proofs.Ways.{text_refused, text_shown}

-- ---- one result

-- the numbers fix the answer
pub one_panel : (r s : Result ℕ Refusal) → panel_numbers r ≡ panel_numbers s → r ≡ s
one_panel (Ok n) (Ok m) q = ap Ok (ap (λ (l : List ℕ). get_or l 1 0) q)
one_panel (Ok n) (Err s) q = absurd (refusal_positive s (sym (ap (λ (l : List ℕ). get_or l 0 0) q)))
one_panel (Err r) (Ok m) q = absurd (refusal_positive r (ap (λ (l : List ℕ). get_or l 0 0) q))
one_panel (Err r) (Err s) q = ap Err (one_refusal r s (ap (λ (l : List ℕ). get_or l 0 0) q))

pub one_shown : (v old f g x y : List ℕ) → Shows v old f x → Shows v old g y → (f ≡ g) × (x ≡ y)
one_shown v old f g x y p q = (p.count ∙ sym q.count, p.output ∙ sym q.output)

-- any two results of a text have the same numbers and the same output
pub same_text : (v old a b x y : List ℕ) → Panels v old a x → Panels v old b y → (a ≡ b) × (x ≡ y)
unfolding Panels
same_text v old a b x y = one_result (text_tests v (length old)) (Shows v old) 1 (λ _. one_shown v old) old a b x y

-- so they are equal
pub one_text : (v old : List ℕ) (r s : Result ℕ Refusal) (x y : List ℕ) → Panels v old (panel_numbers r) x → Panels v old (panel_numbers s) y → (r ≡ s) × (x ≡ y)
one_text v old r s x y p q = let e = same_text v old (panel_numbers r) (panel_numbers s) x y p q in (one_panel r s e.0, e.1)

-- ---- what is written, wherever the answer is a length n: the first n bytes of the output

module _ (v old new : List ℕ) (n : ℕ) (p : Panels v old (panel_numbers (Ok n)) new) where
  shows : Shows v old (n ∷ []) new
  unfolding Panels
  shows = p.1

  tests : Passed (text_tests v (length old))
  unfolding Panels
  tests = passed (text_tests v (length old)) 0 p.0 refl

  size : n ≡ length (shown v)
  size = ap (λ (l : List ℕ). get_or l 0 0) shows.count

  there : (i : ℕ) → i < n → get_or new i 0 ≡ get_or (shown v) i 0
  there i h = rw shows.output (get_or-append (shown v) (drop (length (shown v)) old) 0 i (omega (arith, size)))

  fine : (i : ℕ) → i < n → Fine (get_or (shown v) i 0) (drop (suc i) (shown v))
  fine i h = byte_at Fine (shown v) (escaped_fine (drop 1 v)) i (omega (arith, size))

  -- it is what is shown of the text
  pub writes_shown : take n new ≡ shown v
  writes_shown = ap₂ take size shows.output ∙ take-append_seam (shown v) (drop (length (shown v)) old)

  -- the rest of the output stays
  pub rest_stays : drop n new ≡ drop n old
  rest_stays = ap₂ drop size shows.output ∙ drop-append_seam (shown v) (drop (length (shown v)) old) ∙ ap (λ (k : ℕ). drop k old) (sym size)

  -- the text is plain: no other goes on
  pub writes_plain : Plain v
  writes_plain = tests.1.1.1.1.0

  -- no byte written is < > " or '
  pub writes_harmless : (i : ℕ) → i < n → Harmless (get_or new i 0)
  writes_harmless i h = rw (there i h) (fine i h).harmless

  -- every & written begins one of the five names, which is written whole
  pub writes_names : (i : ℕ) → i < n → get_or new i 0 ≡ 38 → begins_name (drop i (take n new)) ≡ true
  writes_names i h e = rw (writes_shown, drop-cons (shown v) i 0 (omega (arith, size))) ((fine i h).name (sym (there i h) ∙ e))

  -- undoing the five names gives back the byte 32 + c for each of the 49 characters c
  pub writes_undone : undone (take n new) ≡ map (λ c. 32 + c) (drop 1 v)
  writes_undone = ap undone writes_shown ∙ undone_escaped (drop 1 v)

  -- every byte written is from 32 to 95, or a letter, digit, # or ; of a name
  pub writes_printable : (i : ℕ) → i < n → Printable (get_or new i 0)
  writes_printable i h =
      rw (there i h)
      (byte_at PrintableThere (shown v) (escaped_printable (drop 1 v) (λ a _. rw (get_or-drop 1 v a 0) (tests.1.1.0 (1 + a)))) i (omega (arith, size)))

  -- at most 294 bytes are written
  pub writes_few : n ≤ 294
  writes_few = let long : length v ≡ 50 = tests.0 in omega (arith, size, escaped_long (drop 1 v), length-drop 1 v)

-- ---- two texts that look alike are the same text

one_list : (s t : List ℕ) → map (λ c. 32 + c) s ≡ map (λ c. 32 + c) t → s ≡ t
one_list [] [] e = refl
one_list [] (b ∷ t) e = absurd (omega (arith, ap (λ (l : List ℕ). length l) e))
one_list (a ∷ s) [] e = absurd (omega (arith, ap (λ (l : List ℕ). length l) e))
one_list (a ∷ s) (b ∷ t) e =
    let h : 32 + a ≡ 32 + b = ap (λ (l : List ℕ). get_or l 0 0) e in
    ap₂ (λ (x : ℕ) (l : List ℕ). x ∷ l) (omega arith) (one_list s t (ap (drop 1) e))

pub look_alike : (v w old older x y : List ℕ) (n m : ℕ) → Panels v old (panel_numbers (Ok n)) x → Panels w older (panel_numbers (Ok m)) y
    → take n x ≡ take m y → v ≡ w
look_alike v w old older x y n m p q e =
    let rest : drop 1 v ≡ drop 1 w = one_list (drop 1 v) (drop 1 w) (sym (writes_undone v old x n p) ∙ ap undone e ∙ writes_undone w older y m q) in
    whole v old x n p ∙ ap₂ (λ (k : ℕ) (l : List ℕ). k ∷ l) (writes_plain v old x n p ∙ sym (writes_plain w older y m q)) rest ∙ sym (whole w older y m q)
  where
    -- a text is its kind and the rest
    whole : (v old x : List ℕ) (n : ℕ) → Panels v old (panel_numbers (Ok n)) x → v ≡ kind v ∷ drop 1 v
    whole v old x n p = let long : length v ≡ 50 = (tests v old x n p).0 in drop-cons v 0 0 (omega arith)

-- ---- every result, for each text: 50 characters and an output of at least 294 bytes

module _ (v old : List ℕ) (r : Result ℕ Refusal) (x : List ℕ) (p : Panels v old (panel_numbers r) x) where
  refused-with : (q : Refusal) → Panels v old (panel_numbers (Err q)) old → (r ≡ Err q) × (x ≡ old)
  refused-with q = one_text v old r (Err q) x old p

  -- a text that is not 50 long
  pub long_refused : (length v ≡ 50 → ⊥) → (r ≡ Err InputLength) × (x ≡ old)
  long_refused d = refused-with InputLength (text_refused v old 0 (denied d))

  module _ (long : length v ≡ 50) where
    -- an output of less than 294 bytes
    pub short_refused : length old < 294 → (r ≡ Err OutputLength) × (x ≡ old)
    short_refused h = refused-with OutputLength (text_refused v old 1 (long then above h))

    module _ (wide : 294 ≤ length old) where
      -- a character over 63, whatever the kind is
      pub high_refused : (Characters v → ⊥) → (r ≡ Err ValueOver) × (x ≡ old)
      high_refused d = refused-with ValueOver (text_refused v old 2 (long then wide then denied d))

      module _ (range : Characters v) where
        -- a template
        pub template_refused : kind v ≡ 1 → (r ≡ Err Template) × (x ≡ old)
        template_refused e = refused-with Template (text_refused v old 3 (long then wide then range then denied (λ f. f e)))

        -- a kind that is not known
        pub unknown_refused : 1 < kind v → (r ≡ Err UnknownKind) × (x ≡ old)
        unknown_refused h = refused-with UnknownKind (text_refused v old 4 (long then wide then range then (λ e. omega arith) then denied (λ e. omega arith)))

        -- plain text is written: what is shown of it, and the rest of the output as it was
        pub plain_written : Plain v → (r ≡ Ok (length (shown v))) × (x ≡ shown v ++ drop (length (shown v)) old)
        plain_written e =
            one_text v old r (Ok (length (shown v))) x (shown v ++ drop (length (shown v)) old) p
            (text_shown v old (length (shown v)) (shown v ++ drop (length (shown v)) old)
            (long then wide then range then (λ f. omega arith) then e then tt) (record { count = refl; output = refl }))

-- ---- 294 bytes are needed: by the text of 49 quotes, which are character 2

quotes_long : length (shown (0 ∷ replicate 49 2)) ≡ 294
unfolding escaped written_by
quotes_long = refl

twos_characters : (n a : ℕ) → get_or (replicate n 2) a 0 < 64
twos_characters zero a = omega arith
twos_characters (suc n) zero = omega arith
twos_characters (suc n) (suc a) = twos_characters n a

quotes_characters : Characters (0 ∷ replicate 49 2)
quotes_characters zero = omega arith
quotes_characters (suc a) = twos_characters 49 a

pub all_quotes : (old : List ℕ) (r : Result ℕ Refusal) (x : List ℕ) → 294 ≤ length old → Panels (0 ∷ replicate 49 2) old (panel_numbers r) x → r ≡ Ok 294
all_quotes old r x wide p = (plain_written (0 ∷ replicate 49 2) old r x p refl wide quotes_characters refl).0 ∙ ap Ok quotes_long

-- ---- what the definitions say of some texts

-- a printable byte is one of ASCII's: 32 to 126
pub printable_ascii : (b : ℕ) → Printable b → (32 ≤ b) × (b ≤ 126)
printable_ascii b (inl (least, most)) = (least, omega arith)
printable_ascii b (inr e) = let a = names_ascii b e in (a.least, a.most)

-- the characters of &, <, >, ", ' and A are written as &amp;&lt;&gt;&quot;&#39;A
pub escaped_five : escaped (6 ∷ 28 ∷ 30 ∷ 2 ∷ 7 ∷ 33 ∷ [])
    ≡ 38 ∷ 97 ∷ 109 ∷ 112 ∷ 59 ∷ 38 ∷ 108 ∷ 116 ∷ 59 ∷ 38 ∷ 103 ∷ 116 ∷ 59 ∷ 38 ∷ 113 ∷ 117 ∷ 111 ∷ 116 ∷ 59 ∷ 38 ∷ 35 ∷ 51 ∷ 57 ∷ 59 ∷ 65 ∷ []
unfolding escaped written_by
escaped_five = refl

-- undoing passes over a name that is not whole and over an ampersand that begins none; and it is done once: &amp;lt; gives &lt;
pub undone_once : (undone (38 ∷ 97 ∷ 109 ∷ 112 ∷ 59 ∷ 108 ∷ 116 ∷ 59 ∷ []) ≡ 38 ∷ 108 ∷ 116 ∷ 59 ∷ [])
    × (undone (38 ∷ 108 ∷ 116 ∷ []) ≡ 38 ∷ 108 ∷ 116 ∷ [])
    × (undone (38 ∷ 38 ∷ 103 ∷ 116 ∷ 59 ∷ 59 ∷ []) ≡ 38 ∷ 62 ∷ 59 ∷ [])
unfolding begins read_by undone_after
undone_once = (refl, refl, refl)
