-- Where no site leads to a greater rank, units on one cycle have the same.
use Rattle.std.proofs.Common.{◌≡◌, ℕ, zero, suc, ◌+◌, ◌≤◌, List, [], ◌∷◌, Bool, true, false, Some, None, refl, sym, subst, ap, ◌∙◌, arith, ◌||◌, ◌==◌, if◌then◌else◌}
use Rattle.std.specs.declared.option.Option.{Option}
use Rattle.std.specs.Prelude.{nat_lt}
use Rattle.std.specs.List.{slice_get, list_any}
use Rattle.std.proofs.lemmas.Bool.Decides.{nat_tests}
use Rattle.call_cycles.specs.declared.cycles.Edge.{Edge}
use Rattle.call_cycles.specs.Cycles.{Rows, Targets, Calls, Leads, here, by}
use Rattle.call_cycles.specs.Searching.{rank_at, is_above, leads_up, some_lead_up, is_level, stays_level, may_cycle, NoneLeadUp}
use Rattle.call_cycles.proofs.Reaching.{some_is, none_some}

true_false : true ≡ false → ⊥
true_false h = cc

either_false : (a b : Bool) → (a || b) ≡ false → a ≡ false
either_false false b e = refl
either_false true b e = e

other_false : (a b : Bool) → (a || b) ≡ false → b ≡ false
other_false false b e = e
other_false true b e = absurd (true_false e)

none_is : (test : Edge → Bool) (row : List Edge) → list_any test row ≡ false → (k : ℕ) (e : Edge) → slice_get row k ≡ Some e → test e ≡ false
none_is test [] h k e s = absurd (none_some e s)
none_is test (d ∷ row) h zero e s = ap test (sym (some_is d e s)) ∙ either_false (test d) (list_any test row) h
none_is test (d ∷ row) h (suc k) e s = none_is test row (other_false (test d) (list_any test row) h) k e s

right_true : (a b : Bool) → b ≡ true → (a || b) ≡ true
right_true true b e = refl
right_true false b e = e

some_are : (test : Edge → Bool) (row : List Edge) (k : ℕ) (e : Edge) → slice_get row k ≡ Some e → test e ≡ true → list_any test row ≡ true
some_are test [] k e s t = absurd (none_some e s)
some_are test (d ∷ row) zero e s t = ap (λ b. b || list_any test row) (ap test (some_is d e s) ∙ t)
some_are test (d ∷ row) (suc k) e s t = right_true (test d) (list_any test row) (some_are test row k e s t)

not_above : (ranks : List ℕ) (rank to : ℕ) (o : Option ℕ) → o ≡ Some to → is_above ranks rank o ≡ false → rank_at ranks to ≤ rank
not_above ranks rank to None i h = absurd (none_some to i)
not_above ranks rank to (Some x) i h = subst (λ y. rank_at ranks y ≤ rank) (some_is x to i) (no_less (rank_at ranks x) h)
  where
    no_less : (r : ℕ) → nat_lt rank r ≡ false → r ≤ rank
    no_less r f = grind (arith, nat_tests)

row_falls : (ranks : List ℕ) (rank to : ℕ) (row : List Edge) → list_any (leads_up ranks rank) row ≡ false → Targets row to → rank_at ranks to ≤ rank
row_falls ranks rank to row h t = not_above ranks rank to t.edge.target t.leads (none_is (leads_up ranks rank) row h t.at t.edge t.stands)

abbrev Falls : List ℕ → ℕ → Rows → Type 0
Falls ranks place rows = (k to : ℕ) → Calls rows k to → rank_at ranks to ≤ rank_at ranks (place + k)

falls_from : (ranks : List ℕ) (place : ℕ) (rows : Rows) → some_lead_up ranks place rows ≡ false → Falls ranks place rows
falls_from ranks place [] h = λ k to c. absurd (none_some c.row c.stands)
falls_from ranks place (row ∷ rows) h = go (list_any (leads_up ranks (rank_at ranks place)) row) refl h (falls_from ranks (suc place) rows)
  where
    this : list_any (leads_up ranks (rank_at ranks place)) row ≡ false → Falls ranks (suc place) rows → Falls ranks place (row ∷ rows)
    this i later zero to c = subst (λ n. rank_at ranks to ≤ rank_at ranks n) (omega arith) (row_falls ranks (rank_at ranks place) to row i (subst (λ r. Targets r to) (sym (some_is row c.row c.stands)) c.targets))
    this i later (suc k) to c = subst (λ n. rank_at ranks to ≤ rank_at ranks n) (omega arith) (later k to (record { row = c.row; stands = c.stands; targets = c.targets }))

    go : (b : Bool) → list_any (leads_up ranks (rank_at ranks place)) row ≡ b → (if b then true else some_lead_up ranks (suc place) rows) ≡ false → (some_lead_up ranks (suc place) rows ≡ false → Falls ranks (suc place) rows) → Falls ranks place (row ∷ rows)
    go true i h later = absurd (true_false h)
    go false i h later = this i (later h)

pub none_lead_up : (all : Rows) (ranks : List ℕ) → some_lead_up ranks 0 all ≡ false → NoneLeadUp all ranks
none_lead_up all ranks h = record { falls = λ from to c. subst (λ n. rank_at ranks to ≤ rank_at ranks n) (omega arith) (falls_from ranks 0 all h from to c) }

module _ (all : Rows) (ranks : List ℕ) (falling : NoneLeadUp all ranks) where
  chain_falls : (to from : ℕ) → Leads all to from → rank_at ranks to ≤ rank_at ranks from
  chain_falls to _ here = omega arith
  chain_falls to _ (by from next c d) = omega (arith, falling.falls from next c, chain_falls to next d)

  level : (ranks : List ℕ) (rank to : ℕ) (o : Option ℕ) → o ≡ Some to → rank_at ranks to ≡ rank → is_level ranks rank o ≡ true
  level ranks rank to None i h = absurd (none_some to i)
  level ranks rank to (Some x) i h = equal (rank_at ranks x) (ap (rank_at ranks) (some_is x to i) ∙ h)
    where
      equal : (r : ℕ) → r ≡ rank → (r == rank) ≡ true
      equal r e = grind (arith, nat_tests)

  -- A unit with a site that leads back to it has one to its own rank.
  pub level_back : (unit : ℕ) (row : List Edge) (k : ℕ) (e : Edge) (next : ℕ) → slice_get all unit ≡ Some row → slice_get row k ≡ Some e → e.target ≡ Some next → Leads all unit next → may_cycle ranks unit row ≡ true
  level_back unit row k e next s c i l =
      let down = falling.falls unit next (record { row = row; stands = s; targets = record { at = k; edge = e; stands = c; leads = i } }) in
      let up = chain_falls unit next l in
      some_are (stays_level ranks (rank_at ranks unit)) row k e c (level ranks (rank_at ranks unit) next e.target i (omega (arith, down, up)))
