-- Where edges are turned around, chains go the other way.
use Rattle.std.proofs.Common.{◌≡◌, ℕ, zero, suc, ◌+◌, ◌<◌, List, [], ◌∷◌, ◌++◌, Bool, true, false, Some, None, length, map, fold, refl, sym, subst, ap, ◌∙◌, ◌⊎◌, inl, inr, arith, if◌then◌else◌}
use Rattle.std.specs.declared.option.Option.{Option}
use Rattle.std.specs.Prelude.{nat_lt, slice_index_or, slice_set}
use Rattle.std.specs.List.{slice_get}
use Rattle.std.proofs.lemmas.Bool.Decides.{nat_tests}
use Rattle.call_cycles.specs.declared.cycles.Edge.{Edge}
use Rattle.call_cycles.specs.Cycles.{Rows, Targets, Calls, Leads, here, by}
use Rattle.call_cycles.specs.Searching.{put_caller, caller, turn, turn_from, callers}
use Rattle.call_cycles.proofs.Reaching.{some_is, none_some, set_long, push_kept, push_last, push_new, one_more, chain_inside}

-- ---- one edge put behind those of a unit

abbrev put : Rows → ℕ → Edge → Rows
put back to e = slice_set back to (slice_index_or back to [] ++ e ∷ [])

among_others : (row : List Edge) (rows : Rows) (y z : ℕ) → Calls rows y z → Calls (row ∷ rows) (suc y) z
among_others row rows y z c = record { row = c.row; stands = c.stands; targets = c.targets }

behind : (row : List Edge) (rows : Rows) (y z : ℕ) → Calls (row ∷ rows) (suc y) z → Calls rows y z
behind row rows y z c = record { row = c.row; stands = c.stands; targets = c.targets }

first_row : (row : List Edge) (rows : Rows) (z : ℕ) → Targets row z → Calls (row ∷ rows) 0 z
first_row row rows z t = record { row = row; stands = refl; targets = t }

of_first : (row : List Edge) (rows : Rows) (z : ℕ) → Calls (row ∷ rows) 0 z → Targets row z
of_first row rows z c = subst (λ r. Targets r z) (sym (some_is row c.row c.stands)) c.targets

longer : (row : List Edge) (e : Edge) (z : ℕ) → Targets row z → Targets (row ++ e ∷ []) z
longer row e z t = record { at = t.at; edge = t.edge; stands = push_kept row e t.at t.edge t.stands; leads = t.leads }

last : (row : List Edge) (e : Edge) (z : ℕ) → e.target ≡ Some z → Targets (row ++ e ∷ []) z
last row e z i = record { at = length row; edge = e; stands = push_last row e; leads = i }

or_last : (row : List Edge) (e : Edge) (z : ℕ) → Targets (row ++ e ∷ []) z → Targets row z ⊎ (e.target ≡ Some z)
or_last row e z t = elim (push_new row e t.at t.edge t.stands) [
  | inl s ↦ inl (record { at = t.at; edge = t.edge; stands = s; leads = t.leads })
  | inr h ↦ inr (ap (λ d. d.target) h.1 ∙ t.leads)
]

put_adds : (back : Rows) (to : ℕ) (e : Edge) (y z : ℕ) → Calls (put back to e) y z → Calls back y z ⊎ ((to ≡ y) × (e.target ≡ Some z))
put_adds [] to e y z c = absurd (none_some c.row c.stands)
put_adds (row ∷ back) zero e zero z c = elim (or_last row e z (of_first (row ++ e ∷ []) back z c)) [ inl t ↦ inl (first_row row back z t) | inr i ↦ inr (refl, i) ]
put_adds (row ∷ back) zero e (suc y) z c = inl (among_others row back y z (behind (row ++ e ∷ []) back y z c))
put_adds (row ∷ back) (suc to) e zero z c = inl (first_row row back z (of_first row (put back to e) z c))
put_adds (row ∷ back) (suc to) e (suc y) z c = elim (put_adds back to e y z (behind row (put back to e) y z c)) [ inl d ↦ inl (among_others row back y z d) | inr h ↦ inr (ap suc h.0, h.1) ]

put_keeps : (back : Rows) (to : ℕ) (e : Edge) (y z : ℕ) → Calls back y z → Calls (put back to e) y z
put_keeps [] to e y z c = absurd (none_some c.row c.stands)
put_keeps (row ∷ back) zero e zero z c = first_row (row ++ e ∷ []) back z (longer row e z (of_first row back z c))
put_keeps (row ∷ back) zero e (suc y) z c = among_others (row ++ e ∷ []) back y z (behind row back y z c)
put_keeps (row ∷ back) (suc to) e zero z c = first_row row (put back to e) z (of_first row back z c)
put_keeps (row ∷ back) (suc to) e (suc y) z c = among_others row (put back to e) y z (put_keeps back to e y z (behind row back y z c))

put_has : (back : Rows) (to : ℕ) (e : Edge) (z : ℕ) → to < length back → e.target ≡ Some z → Calls (put back to e) to z
put_has [] to e z l i = absurd (omega (arith, l))
put_has (row ∷ back) zero e z l i = first_row (row ++ e ∷ []) back z (last row e z i)
put_has (row ∷ back) (suc to) e z l i = among_others row (put back to e) to z (put_has back to e z (omega (arith, l)) i)

-- ---- the edges of a row

record Turned (place : ℕ) (row : List Edge) (old new : Rows) : Type 0 where
  long : length new ≡ length old
  adds : (y x : ℕ) → Calls new y x → Calls old y x ⊎ ((place ≡ x) × Targets row y)
  keeps : (y x : ℕ) → Calls old y x → Calls new y x
  has : (y : ℕ) → Targets row y → y < length old → Calls new y place

one_turned : (place : ℕ) (back : Rows) (e : Edge) → Turned place (e ∷ []) back (turn place back e)
one_turned place back e = go e.target refl
  where
    unchanged : ((y : ℕ) → e.target ≡ Some y → y < length back → ⊥) → Turned place (e ∷ []) back back
    unchanged n = record {
      long = refl;
      adds = λ y x c. inl c;
      keeps = λ y x c. c;
      has = λ y t l. absurd (elim (or_last [] e y t) [ inl s ↦ none_some s.edge s.stands | inr i ↦ n y i l ]);
    }

    changed : (to : ℕ) → e.target ≡ Some to → to < length back → Turned place (e ∷ []) back (put back to (caller place e))
    changed to i l = record {
      long = set_long back to (slice_index_or back to [] ++ caller place e ∷ []);
      adds = λ y x c. elim (put_adds back to (caller place e) y x c) [
        | inl d ↦ inl d
        | inr h ↦ inr (some_is place x h.1, last [] e y (i ∙ ap Some h.0))
      ];
      keeps = put_keeps back to (caller place e);
      has = λ y t b. elim (or_last [] e y t) [
        | inl s ↦ absurd (none_some s.edge s.stands)
        | inr j ↦ subst (λ k. Calls (put back to (caller place e)) k place) (some_is to y (sym i ∙ j)) (put_has back to (caller place e) place l refl)
      ];
    }

    within : (to : ℕ) → e.target ≡ Some to → (b : Bool) → nat_lt to (length back) ≡ b → Turned place (e ∷ []) back (if b then put back to (caller place e) else back)
    within to i true j = changed to i (grind (arith, nat_tests, j))
    within to i false j = unchanged (λ y k l. outside (nat_lt to (length back)) j (subst (λ n. n < length back) (sym (some_is to y (sym i ∙ k))) l))
      where
        outside : (b : Bool) → nat_lt to (length back) ≡ false → to < length back → ⊥
        outside b f l = grind (arith, nat_tests)

    go : (o : Option ℕ) → e.target ≡ o → Turned place (e ∷ []) back (put_caller back (caller place e) o)
    go None i = unchanged (λ y k l. none_some y (sym i ∙ k))
    go (Some to) i = within to i (nat_lt to (length back)) refl

row_turned : (place : ℕ) (back : Rows) (row : List Edge) → Turned place row back (fold (turn place) back row)
row_turned place back [] = record { long = refl; adds = λ y x c. inl c; keeps = λ y x c. c; has = λ y t l. absurd (none_some t.edge t.stands) }
row_turned place back (e ∷ row) =
    let one = one_turned place back e in
    let rest = row_turned place (turn place back e) row in
    record {
      long = rest.long ∙ one.long;
      adds = λ y x c. elim (rest.adds y x c) [
        | inl d ↦ elim (one.adds y x d) [ inl b ↦ inl b | inr h ↦ inr (h.0, of_one y h.1) ]
        | inr h ↦ inr (h.0, of_others y h.1)
      ];
      keeps = λ y x c. rest.keeps y x (one.keeps y x c);
      has = λ y t l. elim (split y t.at t.edge t.stands t.leads) [
        | inl s ↦ rest.keeps y place (one.has y s l)
        | inr s ↦ rest.has y s (omega (arith, l, one.long))
      ];
    }
  where
    of_others : (y : ℕ) → Targets row y → Targets (e ∷ row) y
    of_others y t = record { at = suc t.at; edge = t.edge; stands = t.stands; leads = t.leads }

    of_one : (y : ℕ) → Targets (e ∷ []) y → Targets (e ∷ row) y
    of_one y t = elim (or_last [] e y t) [ inl s ↦ absurd (none_some s.edge s.stands) | inr i ↦ record { at = 0; edge = e; stands = refl; leads = i } ]

    split : (y k : ℕ) (d : Edge) → slice_get (e ∷ row) k ≡ Some d → d.target ≡ Some y → Targets (e ∷ []) y ⊎ Targets row y
    split y zero d s i = inl (record { at = 0; edge = d; stands = s; leads = i })
    split y (suc k) d s i = inr (record { at = k; edge = d; stands = s; leads = i })

-- ---- the edges of all rows

record CallsFrom (place : ℕ) (rows : Rows) (x y : ℕ) : Type 0 where
  at : ℕ
  from : place + at ≡ x
  calls : Calls rows at y

record AllTurned (place : ℕ) (rows old new : Rows) : Type 0 where
  adds : (y x : ℕ) → Calls new y x → Calls old y x ⊎ CallsFrom place rows x y
  keeps : (y x : ℕ) → Calls old y x → Calls new y x
  has : (k y : ℕ) → Calls rows k y → y < length old → Calls new y (place + k)

all_turned : (place : ℕ) (back rows : Rows) → AllTurned place rows back (turn_from place back rows)
all_turned place back [] = record { adds = λ y x c. inl c; keeps = λ y x c. c; has = λ k y c l. absurd (none_some c.row c.stands) }
all_turned place back (row ∷ rows) =
    let one = row_turned place back row in
    let rest = all_turned (suc place) (fold (turn place) back row) rows in
    record {
      adds = λ y x c. elim (rest.adds y x c) [
        | inl d ↦ elim (one.adds y x d) [ inl b ↦ inl b | inr h ↦ inr (record { at = 0; from = omega (arith, h.0); calls = first_row row rows y h.1 }) ]
        | inr f ↦ inr (record { at = suc f.at; from = omega (arith, f.from); calls = among_others row rows f.at y f.calls })
      ];
      keeps = λ y x c. rest.keeps y x (one.keeps y x c);
      has = has one rest;
    }
  where
    has : Turned place row back (fold (turn place) back row) → AllTurned (suc place) rows (fold (turn place) back row) (turn_from (suc place) (fold (turn place) back row) rows)
        → (k y : ℕ) → Calls (row ∷ rows) k y → y < length back → Calls (turn_from (suc place) (fold (turn place) back row) rows) y (place + k)
    has one rest zero y c l = subst (λ x. Calls (turn_from (suc place) (fold (turn place) back row) rows) y x) (omega arith) (rest.keeps y place (one.has y (of_first row rows y c) l))
    has one rest (suc k) y c l = subst (λ x. Calls (turn_from (suc place) (fold (turn place) back row) rows) y x) (omega arith) (rest.has k y (behind row rows k y c) (omega (arith, l, one.long)))

-- no unit has a caller yet
abbrev unturned : Rows → Rows
unturned all = map (λ _. []) all

no_calls : (rows : Rows) (y x : ℕ) → Calls (unturned rows) y x → ⊥
no_calls [] y x c = none_some c.row c.stands
no_calls (row ∷ rows) zero x c = (let t = of_first [] (unturned rows) x c in none_some t.edge t.stands)
no_calls (row ∷ rows) (suc y) x c = no_calls rows y x (behind [] (unturned rows) y x c)

as_many : (rows : Rows) → length rows ≡ length (unturned rows)
as_many [] = refl
as_many (row ∷ rows) = ap suc (as_many rows)

turned_long : (place : ℕ) (back rows : Rows) → length (turn_from place back rows) ≡ length back
turned_long place back [] = refl
turned_long place back (row ∷ rows) = turned_long (suc place) (fold (turn place) back row) rows ∙ (row_turned place back row).long

pub callers_long : (all : Rows) → length (callers all) ≡ length all
callers_long all = turned_long 0 (unturned all) all ∙ sym (as_many all)

module _ (all : Rows) where
  turned : AllTurned 0 all (unturned all) (callers all)
  turned = all_turned 0 (unturned all) all

  calls : (y x : ℕ) → Calls (callers all) y x → Calls all x y
  calls y x c = elim (turned.adds y x c) [
    | inl d ↦ absurd (no_calls all y x d)
    | inr f ↦ subst (λ k. Calls all k y) (omega (arith, f.from)) f.calls
  ]

  is_called : (x y : ℕ) → Calls all x y → y < length all → Calls (callers all) y x
  is_called x y c l = subst (λ k. Calls (callers all) y k) (omega arith) (turned.has x y c (omega (arith, l, as_many all)))

  -- A chain of calls is one of callers from its end.
  pub chain_back : (x m : ℕ) → Leads all x m → x < length all → Leads (callers all) m x
  chain_back x _ here l = here
  chain_back x _ (by m next c d) l = one_more (callers all) next m x (chain_back x next d l) (is_called m next c (chain_inside all x next d l))

  pub chain_of : (m x : ℕ) → Leads (callers all) m x → Leads all x m
  chain_of m _ here = here
  chain_of m _ (by x next c d) = one_more all next x m (chain_of m next d) (calls x next c)
