-- From the packed rows to the ways out of the search: no row is left, or the first one is a locator.
use mathlib.Core.Path.{◌≡◌, sym, ap, ◌∙◌, subst}
use mathlib.Core.Bool.{Bool, true, false}
use mathlib.Core.List.{List}
use Rattle.std.specs.Prelude.{Option, None}
use Prim.Native.Nat.{ℕ, min, ◌+◌, ◌-◌, ◌/◌, ◌%◌, ◌<◌, ◌≤◌}
use native.Mathlib.Nat.{mod-eq_of_lt}
use native.Mathlib.Omega.{arith}
use lib.ListN.{get_or}
use Rattle.refusal.specs.Promise.{Tells}
use Rattle.field.specs.Field.{product}
use Rattle.numbers.proofs.Totals.{total_same}
use Rattle.lanes.specs.Lanes.{lane}
use Rattle.lanes.proofs.Laws.{lane_lt}
use Rattle.sums.specs.declared.Sums.{Sums}
use Rattle.sums.specs.Held.{eleven}
use Rattle.code.specs.Word.{listed}
use Rattle.code.proofs.Words.{listed_long, listed_get}
use Rattle.sums.proofs.Holding.{eleven_first}
use Rattle.mender.specs.declared.Mended.{Mended}
use Rattle.mender.specs.Mender.{Fitting, NoneFits, MendsTo}
use Rattle.mender.specs.Inside.{mixed, coef}
use Rattle.mender.specs.Rows.{SumsIn, RowsHold, RowsFrom, First, NoRow, Coefficients}
use Rattle.mender.specs.Found.{SumsTo, sixth}
use Rattle.mender.specs.Values.{Patterned, Kills}
use Rattle.mender.proofs.Fitting.{Least, some_row}
use Rattle.mender.proofs.Finding.{Told, found_no_sixth, found_heavy, found_other, found_word}
use Rattle.mender.proofs.rows.Elimination.{rows_none, rows_first}

sums_in_lem : (h : Sums) → SumsIn h.first (eleven h)
sums_in_lem h =
    record {
      sum_at = λ k l. sym (mod-eq_of_lt (lane_lt h.first k)) ∙ ap (λ (n : ℕ). n % 64) (sym (eleven_first h k l));
    }

module _ (h : Sums) (c e : ℕ) (x : List ℕ) (b : (c ≤ 11) × (e ≤ c / 2)) (rows : RowsFrom h.first e (min (c - c / 2) 5) x) where
  told : Told c e (min (c - c / 2) 5)
  told =
      let g = b.0 in
      let k = b.1 in
      record { few = g; most = omega arith; enough = omega arith; among = omega arith }

  held : RowsHold (eleven h) e (min (c - c / 2) 5) x
  held = rows.hold (eleven h) (sums_in_lem h)

  pub no_row : (m : Option Mended) → m ≡ None → NoRow x → MendsTo (eleven h) c e m
  no_row m q f =
      subst (MendsTo (eleven h) c e) (sym q)
      (record {
        none = λ w t.
            some_row (eleven h) c e (min (c - c / 2) 5) w told.enough told.among told.most t held.rows held.spanned
            (rows_none (eleven h) e (min (c - c / 2) 5) x held f);
      })

  module _ (r : ℕ) (f : First x r) (p : List ℕ) (k : Coefficients (get_or x r 0) p) where
    least : Least (eleven h) e (min (c - c / 2) 5) r p
    least = rows_first (eleven h) e (min (c - c / 2) 5) x held r p f k

    sixth-mixed : mixed (coef p) (eleven h) 5 ≡ sixth (get_or x r 0) (eleven h)
    unfolding mixed sixth
    sixth-mixed =
        total_same 6 (λ i. product (get_or p i 0) (get_or (eleven h) (5 + i) 0)) (λ i. product (lane (get_or x r 0) (5 + i)) (get_or (eleven h) (5 + i) 0))
        (λ i b. ap (λ (t : ℕ). product t (get_or (eleven h) (5 + i) 0)) (k.entry i b))

    module _ (y : Mended) (here : Patterned p (eleven h) y) where
      pub too_heavy : (n : ℕ) → n ≡ y.weight → e < n → NoneFits (eleven h) c e
      too_heavy n q l =
          let g : e < y.weight = omega arith in
          found_heavy (eleven h) c e (min (c - c / 2) 5) r p told least y.word here.valued y.weight here.weighs g

      module _ (a : Bool) (has : Tells (SumsTo (eleven h) y.word c) a) where
        pub other_sums : a ≡ false → NoneFits (eleven h) c e
        other_sums q = found_other (eleven h) c e (min (c - c / 2) 5) r p told least y.word here.valued y.weight here.weighs a has q

        pub this_word : (n : ℕ) → n ≡ y.weight → n ≤ e → a ≡ true
            → Fitting (eleven h) c e (record { weight = y.weight; first = y.first; last = y.last; word = y.word })
        this_word n w l q =
            let g : y.weight ≤ e = omega arith in
            found_word (eleven h) c e (min (c - c / 2) 5) r p told least y.word here.valued y.weight here.weighs a has y.first y.last here.ends g q

-- the coefficients of the first row combine the windows to 0
pub locator_kills : (h : Sums) (c e : ℕ) (x : List ℕ) (r : ℕ) (p : List ℕ) (n : ℕ) → RowsFrom h.first e (min (c - c / 2) 5) x → First x r
    → Coefficients (get_or x r 0) p → n ≡ min (c - c / 2) 5 → Kills p (eleven h) n
locator_kills h c e x r p n rows f k en =
    let a : Least (eleven h) e (min (c - c / 2) 5) r p = rows_first (eleven h) e (min (c - c / 2) 5) x (rows.hold (eleven h) (sums_in_lem h)) r p f k in
    record {
      few = omega arith;
      window = λ j g. a.kernel j (omega arith);
    }

-- the row fails the sixth window
pub not_sixth : (h : Sums) (c e : ℕ) (x : List ℕ) (r : ℕ) (a : Bool) → (c ≤ 11) × (e ≤ c / 2) → RowsFrom h.first e (min (c - c / 2) 5) x → First x r
    → c ≡ 11 → Tells (sixth (get_or x r 0) (eleven h) ≡ 0) a → a ≡ false → NoneFits (eleven h) c e
not_sixth h c e x r a b rows f q t z =
    let p : List ℕ = listed (λ k. lane (get_or x r 0) (5 + k)) 0 6 in
    let k : Coefficients (get_or x r 0) (listed (λ k. lane (get_or x r 0) (5 + k)) 0 6) =
    record { wide = listed_long (λ k. lane (get_or x r 0) (5 + k)) 0 6; entry = λ i g. listed_get (λ k. lane (get_or x r 0) (5 + k)) 6 i g }
    in
    found_no_sixth (eleven h) c e (min (c - c / 2) 5) r p (told h c e x b rows) (least h c e x b rows r f p k) q
    (λ w. t.fails z (sym (sixth-mixed h c e x b rows r f p k) ∙ w))
