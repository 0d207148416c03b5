-- A callee that prints where M is defined shows whether 1 was stored.
use Rattle.std.proofs.Common.{◌≡◌, ℕ, ◌+◌, ◌<◌, List, [], ◌∷◌, ◌++◌, Option, Some, None, Bool, true, false, pos, refl, sym, ap, ◌∙◌, subst, arith, inl}
use Rattle.std.proofs.lemmas.Bool.{eqb-true, false≢true}
use Rattle.run_model.specs.Storage.{Name, Value, Integer, Block, Local, Fresh, Loc, Interval, put_cell}
use Rattle.run_model.specs.Acts.{World, Outcome, Fine, Stop, Answer, Handler}
use Rattle.f77_tree.specs.declared.unit.Item.{Item}
use Rattle.f77_tree.specs.declared.unit.Item.TheVariants as item
use Rattle.run_calls.specs.Same.{SameRun}
use Rattle.run_records.specs.Records.{IsOwn, Stands, StandsIn, IsEntry}
use Rattle.run_records.specs.Rows.{Results, Respects}
use Rattle.unit_serves.specs.Units.{unit_behaviour}
use Rattle.body_serves.specs.Bodies.{body_behaviour}
use Rattle.body_serves.specs.Example.{block, unit_p, is_own_p, places_p, open_p, body_p, ExampleNeedsItsRecord}
use Rattle.body_serves.proofs.Sample.{m_at}

-- it prints a 1 where M is defined
abbrev shown : Option Value → World → Outcome Answer
shown None v = Fine None v
shown (Some c) v = Fine None (record v { out = v.out ++ 49 ∷ [] })

abbrev showing : Handler
showing s ds v = shown (v.cells m_at) v

-- a location of a main program as K, two steps, and nothing is defined
abbrev actual : Interval
actual = record { area = Local (77 ∷ []); from = 0; length = 1 }

abbrev before : World
before = record { cells = λ l. None; out = []; input = []; left = 2 }

-- ---- it is an entry

abbrev got : Option Interval → Interval
got None = actual
got (Some i) = i

-- the first location of an interval
abbrev first_of : Interval → Loc
first_of i = record { area = i.area; offset = i.from + 0 }

-- what stands at an interval of one location covers that alone
alone : (x : Item) (l : Loc) (i : Interval) → (o : IsOwn (places_p (actual ∷ [])) x l) → i ≡ o.interval → i.length ≡ 1 → l ≡ first_of i
alone x l i o e long =
    let short : o.covers.at_ < 1 = subst (λ n. o.covers.at_ < n) (sym (ap (λ (i : Interval). i.length) e) ∙ long) o.covers.inside_ in
    let at_0 : o.covers.at_ ≡ 0 = omega arith in
    o.covers.is ∙ (λ j. record { area = o.interval.area; offset = o.interval.from + at_0 j }) ∙ sym (ap first_of e)

place_of : Item → Loc
place_of (item.Dummy j) = first_of actual
place_of (item.Local o) = first_of actual
place_of (item.Common b o) = record { area = Block b; offset = o + 0 }

placed : (x : Item) (l : Loc) → IsOwn (places_p (actual ∷ [])) x l → l ≡ place_of x
unfolding place_of
placed (item.Dummy j) l o = go (eqb-true j 0 o.own) o
  where
    at_0 : (o : IsOwn (places_p (actual ∷ [])) (item.Dummy 0) l) → l ≡ first_of actual
    at_0 o = alone (item.Dummy 0) l actual o (ap got o.stands) refl

    go : j ≡ 0 → IsOwn (places_p (actual ∷ [])) (item.Dummy j) l → l ≡ first_of actual
    go e o = at_0 (subst (λ j. IsOwn (places_p (actual ∷ [])) (item.Dummy j) l) e o)
placed (item.Local o) l own = absurd (false≢true own.own)
placed (item.Common b o) l own = alone (item.Common b o) l (record { area = Block b; from = o; length = 1 }) own (ap got own.stands) refl

abbrev block_of : Loc → Option Name
block_of l = elim l.area [ Block b ↦ Some b | Local u ↦ None | Fresh u s j ↦ None ]

abbrev name_in : Option Name → Name
name_in None = block
name_in (Some b) = b

abbrev is_some_name : Option Name → Bool
is_some_name None = false
is_some_name (Some b) = true

same_place : (x y : Item) → is_own_p x ≡ true → is_own_p y ≡ true → place_of x ≡ place_of y → x ≡ y
unfolding place_of
same_place (item.Dummy j) (item.Dummy k) p q e = ap item.Dummy (eqb-true j 0 p ∙ sym (eqb-true k 0 q))
same_place (item.Dummy j) (item.Common b o) p q e = absurd (false≢true (ap (λ l. is_some_name (block_of l)) e))
same_place (item.Common b o) (item.Dummy j) p q e = absurd (false≢true (sym (ap (λ l. is_some_name (block_of l)) e)))
same_place (item.Common b o) (item.Common c n) p q e =
    let offsets : o + 0 ≡ n + 0 = ap (λ (l : Loc). l.offset) e in
    let same_offset : o ≡ n = omega arith in
    λ i. item.Common (ap (λ l. name_in (block_of l)) e i) (same_offset i)
same_place (item.Local o) y p q e = absurd (false≢true p)
same_place x (item.Local o) p q e = absurd (false≢true q)

stands : (x : Item) → is_own_p x ≡ true → Stands (places_p (actual ∷ [])) x
stands (item.Dummy j) e = subst (λ j. Stands (places_p (actual ∷ [])) (item.Dummy j)) (sym (eqb-true j 0 e)) (record { interval = actual; is = refl })
stands (item.Local o) e = absurd (false≢true e)
stands (item.Common b o) e = record { interval = record { area = Block b; from = o; length = 1 }; is = refl }

is_entry : IsEntry open_p (places_p (actual ∷ [])) before
is_entry = record {
  associated = stands;
  apart = λ x y l p q. inl (same_place x y p.own q.own (sym (placed x l p) ∙ placed y l q));
  constants = λ x c e l own d f. absurd (cc);
}

-- ---- and the handler keeps to the record

abbrev at_call : World
at_call = record { cells = put_cell m_at (Integer (pos 1)) (λ l. None); out = []; input = []; left = 0 }

keeps : Respects open_p (places_p (actual ∷ [])) showing (record { site = 1; actuals = actual ∷ []; world = at_call })
keeps = record {
  row = Results None (λ l. None) (49 ∷ []) [] 0;
  bound = λ l c e. absurd (cc);
  same = λ v p. go v (v.cells m_at) (p.cells m_at (λ x own. refl)) p;
}
  where
    go : (v : World) (c : Option Value) → Some (Integer (pos 1)) ≡ c → StandsIn open_p (places_p (actual ∷ [])) 1 at_call v → shown c v ≡ Fine None (record { cells = v.cells; out = v.out ++ 49 ∷ []; input = []; left = 0 })
    go v c e p = subst (λ c. shown c v ≡ Fine None (record { cells = v.cells; out = v.out ++ 49 ∷ []; input = []; left = 0 })) e (λ i. Fine None (record { cells = v.cells; out = v.out ++ 49 ∷ []; input = sym p.input i; left = sym p.left i }))

abbrev out_of : Outcome Answer → List ℕ
out_of (Fine r v) = v.out
out_of (Stop reason v) = v.out

pub needs_its_record : ExampleNeedsItsRecord
needs_its_record serves = go (serves.same_run showing (actual ∷ []) before is_entry (keeps, tt))
  where
    go : SameRun ((unit_behaviour unit_p).run showing (actual ∷ []) before) ((body_behaviour unit_p body_p).run showing (actual ∷ []) before) → ⊥
    go s = nothing (s.alike.out ∙ sym (ap out_of s.is))
      where
        nothing : ◌≡◌ {A = List ℕ} (49 ∷ []) [] → ⊥
        nothing e = absurd (cc)
