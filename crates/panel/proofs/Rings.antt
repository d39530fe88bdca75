-- What is proved of panel text from a ring: it is the text of the one line that reading gives, or the refusal of reading; a plain note recorded anywhere gives its own text, a template never any; and one result.
use mathlib.Core.Path.{◌≡◌, refl, ap}
use mathlib.Core.Bool.{true}
use mathlib.Core.List.{List, ◌++◌, map}
use Prim.Native.Nat.{ℕ, ◌+◌, ◌<◌, ◌≤◌}
use native.Mathlib.Omega.{arith}
use lib.ListN.{length, get_or, take, drop}
use Rattle.refusal.specs.declared.Refusal.{Refusal}
use Rattle.refusal.specs.declared.Refusal.TheVariants.{InputLength, OutputLength, ManyStarts, Template, UnknownKind}
use Rattle.refusal.proofs.Laws.{Passed, passed}
use Rattle.refusal.proofs.Ladder.{◌then◌, denied, above}
use Rattle.refusal.proofs.Theorems.{one_result}
use Rattle.code.specs.Word.{Characters, Line, text, distance}
use Rattle.code.proofs.Lines.{line_long, line_characters}
use Rattle.ring.specs.Recording.{recorded}
use Rattle.ring.specs.FalseStarts.{recorded_starts}
use Rattle.ring.specs.Promises.{reading_numbers, line_read, ReadsRing}
use Rattle.ring.proofs.Those.{one_those}
use Rattle.ring.proofs.Recording.{recorded_long, recorded_characters, recorded_apart}
use Rattle.ring.proofs.FalseStarts.{starts_many}
use Rattle.ring.proofs.Theorems.{recorded_alone, undamaged_list}
use Rattle.std.specs.Prelude.{Result, Ok, Err}
use Rattle.panel.specs.Harmless.{Harmless, begins_name, Printable, undone}
use Rattle.panel.specs.Promises.{panel_numbers, kind, Plain, shown, Panels, LineOf, ring_tests, ShowsRing, PanelsRing}
use Rattle.panel.proofs.Ways.{text_refused, text_shown}
use Rattle.panel.proofs.RingWays.{text_long, text_characters, one_line_of, read_line_there, text_has, as_text, ring_refused, reading_refused}
use Rattle.panel.proofs.Theorems.{one_panel, one_shown, writes_harmless, writes_names, writes_undone, writes_printable, writes_few, look_alike}

-- ---- one result

one_ring_shown : (ring : List ℕ) (t : ℕ) (old : List ℕ) → length ring ≡ 63 → t ≤ 5 → (f g x y : List ℕ) → ShowsRing ring t old f x → ShowsRing ring t old g y
    → (f ≡ g) × (x ≡ y)
one_ring_shown ring t old long small f g x y (l, p, s) (m, q, u) =
    one_shown (text l) old f g x y s (rw (one_line_of ring t m l long small q p) at u)

-- any two results of a ring have the same numbers and the same output
pub same_ring : (ring : List ℕ) (t : ℕ) (old a b x y : List ℕ) → PanelsRing ring t old a x → PanelsRing ring t old b y → (a ≡ b) × (x ≡ y)
unfolding PanelsRing
same_ring ring t old a b x y =
    one_result (ring_tests ring t (length old)) (ShowsRing ring t old) 1 (λ passed. one_ring_shown ring t old passed.0 passed.1.1.1.0) old a b x y

-- so they are equal
pub one_ring : (ring : List ℕ) (t : ℕ) (old : List ℕ) (r s : Result ℕ Refusal) (x y : List ℕ) → PanelsRing ring t old (panel_numbers r) x → PanelsRing ring t old (panel_numbers s) y
    → (r ≡ s) × (x ≡ y)
one_ring ring t old r s x y p q =
    let e = same_ring ring t old (panel_numbers r) (panel_numbers s) x y p q in (one_panel r s e.0, e.1)

-- ---- what is written, wherever the answer is a length n: for every ring and every radius

module _ (ring : List ℕ) (t : ℕ) (old new : List ℕ) (n : ℕ) (p : PanelsRing ring t old (panel_numbers (Ok n)) new) where
  tests : Passed (ring_tests ring t (length old))
  unfolding PanelsRing
  tests = passed (ring_tests ring t (length old)) 0 p.0 refl

  -- reading the ring gives a line, that line is plain, and what is written is what the text of that line gives
  pub ring_writes : (l : List ℕ) × LineOf ring t l × Plain (text l) × Panels (text l) old (panel_numbers (Ok n)) new
  unfolding PanelsRing
  ring_writes =
      let (l, of, shows) = p.1 in
      let plain : Plain (text l) =
      text_has ring t old l tests.0 tests.1.0 tests.1.1.0 tests.1.1.1.0 of Plain tests.1.1.1.1.1.1.1.0 in
      let line : Line l = of.1.within.line in (
        l,
        of,
        plain,
        text_shown (text l) old n new (text_long l line then tests.1.0 then text_characters l line then (λ f. omega arith) then plain then tt) shows,
      )

  -- no byte written is < > " or '
  pub ring_harmless : (i : ℕ) → i < n → Harmless (get_or new i 0)
  ring_harmless = writes_harmless (text ring_writes.0) old new n ring_writes.3

  -- every & written begins one of the five names, which is written whole
  pub ring_names : (i : ℕ) → i < n → get_or new i 0 ≡ 38 → begins_name (drop i (take n new)) ≡ true
  ring_names = writes_names (text ring_writes.0) old new n ring_writes.3

  -- undoing the five names gives back the byte 32 + c for each of the 49 characters c of that line's text
  pub ring_undone : undone (take n new) ≡ map (λ c. 32 + c) (drop 1 (text ring_writes.0))
  ring_undone = writes_undone (text ring_writes.0) old new n ring_writes.3

  -- every byte written is from 32 to 95, or a letter, digit, # or ; of a name
  pub ring_printable : (i : ℕ) → i < n → Printable (get_or new i 0)
  ring_printable = writes_printable (text ring_writes.0) old new n ring_writes.3

  -- at most 294 bytes are written
  pub ring_few : n ≤ 294
  ring_few = writes_few (text ring_writes.0) old new n ring_writes.3

-- two rings whose texts look alike have lines of the same text
pub rings_look_alike : (ring other : List ℕ) (t u : ℕ) (old older x y : List ℕ) (n m : ℕ) (p : PanelsRing ring t old (panel_numbers (Ok n)) x)
    (q : PanelsRing other u older (panel_numbers (Ok m)) y) → take n x ≡ take m y
    → text (ring_writes ring t old x n p).0 ≡ text (ring_writes other u older y m q).0
rings_look_alike ring other t u old older x y n m p q =
    look_alike (text (ring_writes ring t old x n p).0) (text (ring_writes other u older y m q).0) old older x y n m (ring_writes ring t old x n p).3
    (ring_writes other u older y m q).3

-- ---- every result, for each ring

module _ (ring : List ℕ) (t : ℕ) (old : List ℕ) (r : Result ℕ Refusal) (x : List ℕ) (p : PanelsRing ring t old (panel_numbers r) x) where
  -- a ring that is not 63 long
  pub ring_long_refused : (length ring ≡ 63 → ⊥) → (r ≡ Err InputLength) × (x ≡ old)
  ring_long_refused d = one_ring ring t old r (Err InputLength) x old p (ring_refused ring t old 0 (denied d))

  -- an output of less than 294 bytes, whatever the ring holds
  pub ring_short_refused : length ring ≡ 63 → length old < 294 → (r ≡ Err OutputLength) × (x ≡ old)
  ring_short_refused long h = one_ring ring t old r (Err OutputLength) x old p (ring_refused ring t old 1 (long then above h))

  module _ (wide : 294 ≤ length old) where
    -- a refusal of reading passes through
    pub passes_through : (held line : List ℕ) (why : Refusal) → length held ≡ 63 → ReadsRing ring t held (reading_numbers (Err why)) line
        → (r ≡ Err why) × (x ≡ old)
    passes_through held line why sized reads = one_ring ring t old r (Err why) x old p (reading_refused ring t old wide held line sized why reads)

    -- where reading gives a line l, all is as with the text of l
    module _ (l : List ℕ) (long : length ring ≡ 63) (range : Characters ring) (small : t ≤ 5) (of : LineOf ring t l) where
      so : (s : Result ℕ Refusal) (y : List ℕ) → Panels (text l) old (panel_numbers s) y → (r ≡ s) × (x ≡ y)
      so s y q = one_ring ring t old r s x y p (as_text ring t old l long wide range small of (panel_numbers s) y q)

      line : Line l
      line = of.1.within.line

      -- a template never gives any text
      pub ring_template : kind (text l) ≡ 1 → (r ≡ Err Template) × (x ≡ old)
      ring_template e =
          so (Err Template) old
          (text_refused (text l) old 3 (text_long l line then wide then text_characters l line then denied (λ f. f e)))

      -- nor does a line of a kind that is not known
      pub ring_unknown : 1 < kind (text l) → (r ≡ Err UnknownKind) × (x ≡ old)
      ring_unknown h =
          so (Err UnknownKind) old
          (text_refused (text l) old 4 (text_long l line then wide then text_characters l line then (λ e. omega arith) then denied (λ e. omega arith)))

      -- a plain line gives its text
      pub ring_plain : Plain (text l) → (r ≡ Ok (length (shown (text l)))) × (x ≡ shown (text l) ++ drop (length (shown (text l))) old)
      ring_plain e =
          so (Ok (length (shown (text l)))) (shown (text l) ++ drop (length (shown (text l))) old)
          (text_shown (text l) old (length (shown (text l))) (shown (text l) ++ drop (length (shown (text l))) old)
          (text_long l line then wide then text_characters l line then (λ f. omega arith) then e then tt) (record { count = refl; output = refl }))

-- ---- the line that reading gives is the one that `read_ring` answers with

pub read_line_of : (ring : List ℕ) (t : ℕ) (held l : List ℕ) (s n d f g : ℕ) → ReadsRing ring t held (reading_numbers (line_read s n d f g)) l → LineOf ring t l
read_line_of = read_line_there

-- ---- demand 3: a line l, a start m, and a ring that differs from the line's recording at m in e places, e at most the radius t, and e + t at most 3

module _ (l ring : List ℕ) (m e t : ℕ) (line : Line l) (start : m < 126) (long : length ring ≡ 63) (wrong : distance ring (recorded m l) ≡ e) (within : e ≤ t)
    (together : e + t ≤ 3) where
  pub recorded_line : LineOf ring t l
  recorded_line =
      let apart = recorded_apart m l start ring (line_long l line) long in (
        _,
        record {
          start = m;
          only = recorded_alone l ring m e t line start long wrong within together;
          within = record { line = line; near = omega arith };
          shows = refl;
        },
      )

  module _ (old : List ℕ) (wide : 294 ≤ length old) (range : Characters ring) (r : Result ℕ Refusal) (x : List ℕ) (p : PanelsRing ring t old (panel_numbers r) x) where
    -- a plain note gives its own text and no other
    pub recorded_plain : Plain (text l) → (r ≡ Ok (length (shown (text l)))) × (x ≡ shown (text l) ++ drop (length (shown (text l))) old)
    recorded_plain = ring_plain ring t old r x p wide l long range (omega arith) recorded_line

    -- a template gives none
    pub recorded_template : kind (text l) ≡ 1 → (r ≡ Err Template) × (x ≡ old)
    recorded_template = ring_template ring t old r x p wide l long range (omega arith) recorded_line

    -- and neither does a kind that is not known
    pub recorded_unknown : 1 < kind (text l) → (r ≡ Err UnknownKind) × (x ≡ old)
    recorded_unknown = ring_unknown ring t old r x p wide l long range (omega arith) recorded_line

-- ---- the old harm: a line recorded anywhere with no wrong character, read with radius 4 or 5, fits at wrong starts too

module _ (l : List ℕ) (m t : ℕ) (line : Line l) (start : m < 126) (large : 4 ≤ t) (small : t ≤ 5) (old : List ℕ) (wide : 294 ≤ length old) where
  several : PanelsRing (recorded m l) t old (panel_numbers (Err ManyStarts)) old
  several =
      let these = undamaged_list l m line start t small in
      let many = starts_many m t start large small in
      ring_refused (recorded m l) t old 5
      (recorded_long m l then wide then recorded_characters m l (line_characters l line) then small then (recorded_starts m t, these, omega arith) then denied
      (λ (starts, those, few). omega (arith, ap length (one_those those these))))

  -- no text is ever given: every result is refusal 10
  pub undamaged_refused : (r : Result ℕ Refusal) (x : List ℕ) → PanelsRing (recorded m l) t old (panel_numbers r) x → (r ≡ Err ManyStarts) × (x ≡ old)
  undamaged_refused r x p = one_ring (recorded m l) t old r (Err ManyStarts) x old p several
