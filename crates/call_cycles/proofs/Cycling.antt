-- The first unit that leads back to itself, at its first site that does.
use Rattle.std.proofs.Common.{◌≡◌, ℕ, zero, suc, ◌+◌, ◌-◌, ◌<◌, ◌≤◌, List, [], ◌∷◌, ◌++◌, Bool, true, false, Some, None, length, map, flat_map, refl, sym, subst, ap, ◌∙◌, ◌⊎◌, inl, inr, arith, add-one, if◌then◌else◌}
use Rattle.std.specs.declared.option.Option.{Option}
use Rattle.std.specs.Prelude.{slice_index_or}
use Rattle.std.specs.List.{slice_get}
use Rattle.std.proofs.lemmas.Option.{slice_get_within}
use Rattle.f77_tree.specs.declared.unit.Unit.{Unit as SourceUnit}
use Rattle.call_cycles.specs.declared.cycles.Edge.{Edge}
use Rattle.call_cycles.specs.declared.marks.ProgramMark.{ProgramMark}
use Rattle.prog_texts.specs.declared.mentions.Mention.{Mention}
use Rattle.prog_texts.specs.declared.mentions.Site.{Site}
use Rattle.call_cycles.specs.Cycles.{Rows, Leads, LeadsBack, HasCycle, edge, rows}
use Rattle.call_cycles.specs.Marks.{comes_first, Earliest}
use Rattle.prog_texts.specs.Mentions.{mentions, sites, site_of}
use Rattle.call_cycles.specs.Searching.{Search, step, explore, led_to, callers, NoneLeadUp, may_cycle, is_seen, first_line, cycle_line, cycle_or, first_cycle, edges_of, row_of}
use Rattle.call_cycles.specs.Marks.{mark_at}
use Rattle.prog_texts.specs.Signatures.{Signatures, signatures}
use Rattle.call_cycles.proofs.Firsts.{mapped, earlier_line}
use Rattle.call_cycles.proofs.Reaching.{some_is, none_some, chain_inside, found_led, led_found}
use Rattle.call_cycles.proofs.Turning.{callers_long, chain_back, chain_of}
use Rattle.call_cycles.proofs.Ranking.{level_back}

not_true : false ≡ true → ⊥
not_true h = cc

pub explore_more : (all : Rows) (i : ℕ) (s t : Search) → i < length all → t ≡ step all s (slice_get s.queue i) → explore all (length all - i) i s ≡ explore all (length all - (i + 1)) (i + 1) t
explore_more all i s t h e =
    let n : length all - i ≡ suc (length all - (i + 1)) = omega arith in
    ap (λ k. explore all k i s) n
    ∙ (ap (explore all (length all - (i + 1)) (suc i)) (sym e)
    ∙ ap (λ k. explore all (length all - (i + 1)) k t) (sym (add-one i)))

-- ---- the rows of a program

map_joined : {A B : Type 0} (f : A → B) (xs ys : List A) → map f (xs ++ ys) ≡ map f xs ++ map f ys
map_joined f [] ys = refl
map_joined f (x ∷ xs) ys = ap (λ zs. f x ∷ zs) (map_joined f xs ys)

row_is : (all : Signatures) (text : List Mention) → row_of all text ≡ map (edge all) (flat_map site_of text)
row_is all [] = refl
row_is all (m ∷ text) = ap (λ xs. edges_of all m ++ xs) (row_is all text) ∙ sym (map_joined (edge all) (site_of m) (flat_map site_of text))

rows_of_texts : (all : Signatures) (us : List SourceUnit) → map (row_of all) (map mentions us) ≡ map (λ u. map (edge all) (sites u)) us
rows_of_texts all [] = refl
rows_of_texts all (u ∷ us) = ap (λ r. r ∷ map (row_of all) (map mentions us)) (row_is all (mentions u)) ∙ ap (λ rs. map (edge all) (sites u) ∷ rs) (rows_of_texts all us)

pub rows_are : (units : List SourceUnit) (all : Signatures) (texts : List (List Mention)) → all ≡ signatures units → texts ≡ map mentions units → map (row_of all) texts ≡ rows units
rows_are units all texts s t = ap (map (row_of all)) t ∙ (ap (λ g. map (row_of g) (map mentions units)) s ∙ rows_of_texts (signatures units) units)

-- ---- what flags tell

flag_get : (s : List Bool) (x : ℕ) → slice_index_or s x false ≡ true → slice_get s x ≡ Some true
flag_get [] x e = absurd (not_true e)
flag_get (b ∷ s) zero e = ap Some e
flag_get (b ∷ s) (suc x) e = flag_get s x e

get_flag : (s : List Bool) (x : ℕ) → slice_get s x ≡ Some true → slice_index_or s x false ≡ true
get_flag [] x e = absurd (none_some true e)
get_flag (b ∷ s) zero e = some_is b true e
get_flag (b ∷ s) (suc x) e = get_flag s x e

module _ (all : Rows) where
  -- A site with this edge leads back to the unit.
  record EdgeBack (unit : ℕ) (e : Edge) : Type 0 where
    next : ℕ
    target : e.target ≡ Some next
    leads : Leads all unit next

  record FirstLine (unit : ℕ) (row : List Edge) (line : ℕ) : Type 0 where
    at : ℕ
    edge : Edge
    stands : slice_get row at ≡ Some edge
    line_is : edge.line ≡ line
    leads : EdgeBack unit edge
    before : (o : ℕ) (e : Edge) → o < at → slice_get row o ≡ Some e → EdgeBack unit e → ⊥

  abbrev Told : ℕ → List Edge → Option ℕ → Type 0
  Told unit row None = (o : ℕ) (e : Edge) → slice_get row o ≡ Some e → EdgeBack unit e → ⊥
  Told unit row (Some line) = FirstLine unit row line

  first_or : (unit : ℕ) (e : Edge) (row : List Edge) → (EdgeBack unit e → ⊥) → (found : Option ℕ) → Told unit row found → Told unit (e ∷ row) found
  first_or unit e row n None h = at
    where
      at : (o : ℕ) (d : Edge) → slice_get (e ∷ row) o ≡ Some d → EdgeBack unit d → ⊥
      at zero d s r = n (subst (λ x. EdgeBack unit x) (sym (some_is e d s)) r)
      at (suc o) d s r = h o d s r
  first_or unit e row n (Some line) h = record { at = suc h.at; edge = h.edge; stands = h.stands; line_is = h.line_is; leads = h.leads; before = before }
    where
      before : (o : ℕ) (d : Edge) → o < suc h.at → slice_get (e ∷ row) o ≡ Some d → EdgeBack unit d → ⊥
      before zero d l s r = n (subst (λ x. EdgeBack unit x) (sym (some_is e d s)) r)
      before (suc o) d l s r = h.before o d (omega arith) s r

  seen_back : (unit : ℕ) (e : Edge) (o : Option ℕ) → e.target ≡ o → is_seen (led_to (callers all) unit).seen o ≡ true → EdgeBack unit e
  seen_back unit e None i h = absurd (not_true h)
  seen_back unit e (Some x) i h = record { next = x; target = i; leads = chain_of all x unit (found_led (callers all) unit x (flag_get (led_to (callers all) unit).seen x h)) }

  back_seen : (unit : ℕ) → unit < length all → (e : Edge) (o : Option ℕ) → e.target ≡ o → EdgeBack unit e → is_seen (led_to (callers all) unit).seen o ≡ true
  back_seen unit l e None i b = absurd (none_some b.next (sym i ∙ b.target))
  back_seen unit l e (Some x) i b =
      let same : b.next ≡ x = some_is b.next x (sym b.target ∙ i) in
      let inside : b.next < length (callers all) = omega (arith, callers_long all, chain_inside all unit b.next b.leads l) in
      get_flag (led_to (callers all) unit).seen x (subst (λ y. slice_get (led_to (callers all) unit).seen y ≡ Some true) same (led_found (callers all) unit b.next inside (chain_back all unit b.next b.leads l)))

  first_told : (unit : ℕ) → unit < length all → (row : List Edge) → Told unit row (first_line (led_to (callers all) unit).seen row)
  first_told unit l [] = λ o e s r. none_some e s
  first_told unit l (e ∷ row) = go (is_seen (led_to (callers all) unit).seen e.target) refl (first_told unit l row)
    where
      go : (b : Bool) → is_seen (led_to (callers all) unit).seen e.target ≡ b → Told unit row (first_line (led_to (callers all) unit).seen row)
          → Told unit (e ∷ row) (if b then Some e.line else first_line (led_to (callers all) unit).seen row)
      go true i h = record { at = 0; edge = e; stands = refl; line_is = refl; leads = seen_back unit e e.target refl i; before = λ o d below s r. omega (arith, below) }
      go false i h = first_or unit e row (λ r. not_true (sym i ∙ back_seen unit l e e.target refl r)) (first_line (led_to (callers all) unit).seen row) h

  line_told : (ranks : List ℕ) → NoneLeadUp all ranks → (unit : ℕ) → unit < length all → (row : List Edge) → slice_get all unit ≡ Some row → Told unit row (cycle_line (callers all) ranks unit row)
  line_told ranks falling unit l row s = go (may_cycle ranks unit row) refl
    where
      go : (b : Bool) → may_cycle ranks unit row ≡ b → Told unit row (if b then first_line (led_to (callers all) unit).seen row else None)
      go true i = first_told unit l row
      go false i = λ o e c r. not_true (sym i ∙ level_back all ranks falling unit row o e r.next s c r.target r.leads)

  -- ---- sites that lead back

  back_of : (unit : ℕ) (row : List Edge) (o : ℕ) (e : Edge) → slice_get all unit ≡ Some row → slice_get row o ≡ Some e → EdgeBack unit e → LeadsBack all unit o
  back_of unit row o e s c b = record { row = row; stands = s; edge = e; calls = c; next = b.next; leads = b.target; back = b.leads }

  record BackIn (unit : ℕ) (row : List Edge) (o : ℕ) : Type 0 where
    edge : Edge
    calls : slice_get row o ≡ Some edge
    leads : EdgeBack unit edge

  back_in : (unit : ℕ) (row : List Edge) (o : ℕ) → slice_get all unit ≡ Some row → LeadsBack all unit o → BackIn unit row o
  back_in unit row o s b = record {
    edge = b.edge;
    calls = ap (λ r. slice_get r o) (some_is row b.row (sym s ∙ b.stands)) ∙ b.calls;
    leads = record { next = b.next; target = b.leads; leads = b.back };
  }

  -- ---- the first unit

  record CycleAt (place : ℕ) (mark : ProgramMark) : Type 0 where
    unit : ℕ
    from : place ≤ unit
    row : List Edge
    stands : slice_get all unit ≡ Some row
    at : ℕ
    edge : Edge
    calls : slice_get row at ≡ Some edge
    back : LeadsBack all unit at
    first_site : (o : ℕ) → o < at → LeadsBack all unit o → ⊥
    first_unit : (b : ℕ) → place ≤ b → b < unit → (o : ℕ) → LeadsBack all b o → ⊥
    mark_is : mark ≡ mark_at 34 0 (Some unit) edge.line

  at_or_behind : (p q : ℕ) → p ≤ q → (p ≡ q) ⊎ (suc p ≤ q)
  at_or_behind zero zero l = inl refl
  at_or_behind zero (suc q) l = inr (omega arith)
  at_or_behind (suc p) zero l = absurd (omega arith)
  at_or_behind (suc p) (suc q) l = elim (at_or_behind p q (omega arith)) [ inl h ↦ inl (ap suc h) | inr h ↦ inr (omega arith) ]

  which : (p q : ℕ) → (p < q) ⊎ ((p ≡ q) ⊎ (q < p))
  which zero zero = inr (inl refl)
  which zero (suc q) = inl (omega arith)
  which (suc p) zero = inr (inr (omega arith))
  which (suc p) (suc q) = elim (which p q) [ inl h ↦ inl (omega arith) | inr h ↦ elim h [ inl g ↦ inr (inl (ap suc g)) | inr g ↦ inr (inr (omega arith)) ] ]

  same_edge : (row : List Edge) (a b : ℕ) (d e : Edge) → a ≡ b → slice_get row a ≡ Some d → slice_get row b ≡ Some e → d ≡ e
  same_edge row a b d e i s t = some_is d e (sym s ∙ (ap (slice_get row) i ∙ t))

  here_first : (place : ℕ) (row : List Edge) (line : ℕ) → slice_get all place ≡ Some row → FirstLine place row line → (m : ProgramMark) → CycleAt place m → comes_first (mark_at 34 0 (Some place) line) m ≡ true
  here_first place row line s h m c = elim (at_or_behind place c.unit c.from) [
    | inl i ↦ subst (λ x. comes_first (mark_at 34 0 (Some place) line) x ≡ true) (sym (c.mark_is ∙ ap (λ u. mark_at 34 0 (Some u) c.edge.line) (sym i))) (earlier_line 34 0 place line c.edge.line (no_less i))
    | inr i ↦ absurd (c.first_unit place (omega arith) (omega (arith, i)) h.at (back_of place row h.at h.edge s h.stands h.leads))
  ]
    where
      rows_same : place ≡ c.unit → row ≡ c.row
      rows_same i = some_is row c.row (sym s ∙ (ap (slice_get all) i ∙ c.stands))

      mine : place ≡ c.unit → LeadsBack all c.unit h.at
      mine i = subst (λ u. LeadsBack all u h.at) i (back_of place row h.at h.edge s h.stands h.leads)

      theirs : place ≡ c.unit → BackIn place row c.at
      theirs i = back_in place row c.at s (subst (λ u. LeadsBack all u c.at) (sym i) c.back)

      edges_same : place ≡ c.unit → h.at ≡ c.at → h.edge ≡ c.edge
      edges_same i j = same_edge row h.at c.at h.edge c.edge j h.stands (ap (λ r. slice_get r c.at) (rows_same i) ∙ c.calls)

      no_less : place ≡ c.unit → line ≤ c.edge.line
      no_less i = elim (which h.at c.at) [
        | inl j ↦ absurd (c.first_site h.at j (mine i))
        | inr k ↦ elim k [
          | inl j ↦ omega (arith, h.line_is, ap (λ e. e.line) (edges_same i j))
          | inr j ↦ (let t = theirs i in absurd (h.before c.at t.edge j t.calls t.leads))
        ]
      ]

  cycles_from : (ranks : List ℕ) → NoneLeadUp all ranks → (place : ℕ) (rest : Rows) → ((k : ℕ) → slice_get rest k ≡ slice_get all (place + k)) → Earliest (CycleAt place) (first_cycle (callers all) ranks place rest)
  cycles_from ranks falling place [] s = λ m c. none_some c.row (s (c.unit - place) ∙ (ap (slice_get all) (omega (arith, c.from)) ∙ c.stands))
  cycles_from ranks falling place (row ∷ rest) s = go (cycle_line (callers all) ranks place row) (line_told ranks falling place inside row here) (first_cycle (callers all) ranks (suc place) rest) (cycles_from ranks falling (suc place) rest (λ k. s (suc k) ∙ ap (slice_get all) (omega arith)))
    where
      here : slice_get all place ≡ Some row
      here = ap (slice_get all) (omega arith) ∙ sym (s 0)

      inside : place < length all
      inside = slice_get_within all place row here

      go : (found : Option ℕ) → Told place row found → (later : Option ProgramMark) → Earliest (CycleAt (suc place)) later → Earliest (CycleAt place) (cycle_or place found later)
      go None h later r = mapped (CycleAt (suc place)) (CycleAt place) later to from r
        where
          nothing : (o : ℕ) → LeadsBack all place o → ⊥
          nothing o b = let t = back_in place row o here b in h o t.edge t.calls t.leads

          to : (m : ProgramMark) → CycleAt (suc place) m → CycleAt place m
          to m c = record {
            unit = c.unit;
            from = omega (arith, c.from);
            row = c.row;
            stands = c.stands;
            at = c.at;
            edge = c.edge;
            calls = c.calls;
            back = c.back;
            first_site = c.first_site;
            first_unit = λ b l below o k. elim (at_or_behind place b l) [ inl i ↦ nothing o (subst (λ u. LeadsBack all u o) (sym i) k) | inr i ↦ c.first_unit b i below o k ];
            mark_is = c.mark_is;
          }

          from : (m : ProgramMark) → CycleAt place m → CycleAt (suc place) m
          from m c = elim (at_or_behind place c.unit c.from) [
            | inl i ↦ absurd (nothing c.at (subst (λ u. LeadsBack all u c.at) (sym i) c.back))
            | inr i ↦ record {
              unit = c.unit;
              from = i;
              row = c.row;
              stands = c.stands;
              at = c.at;
              edge = c.edge;
              calls = c.calls;
              back = c.back;
              first_site = c.first_site;
              first_unit = λ b l below o k. c.first_unit b (omega (arith, l)) below o k;
              mark_is = c.mark_is;
            }
          ]
      go (Some line) h later r = record {
        shows = record {
          unit = place;
          from = omega arith;
          row = row;
          stands = here;
          at = h.at;
          edge = h.edge;
          calls = h.stands;
          back = back_of place row h.at h.edge here h.stands h.leads;
          first_site = λ o l b. (let t = back_in place row o here b in h.before o t.edge l t.calls t.leads);
          first_unit = λ b l below o k. omega (arith, l, below);
          mark_is = ap (mark_at 34 0 (Some place)) (sym h.line_is);
        };
        first = here_first place row line here h;
      }

-- ---- units and their rows

record UnitAt (all : Signatures) (us : List SourceUnit) (k : ℕ) (row : List Edge) : Type 0 where
  unit : SourceUnit
  stands : slice_get us k ≡ Some unit
  row_is : map (edge all) (sites unit) ≡ row

unit_at : (all : Signatures) (us : List SourceUnit) (k : ℕ) (row : List Edge) → slice_get (map (λ u. map (edge all) (sites u)) us) k ≡ Some row → UnitAt all us k row
unit_at all [] k row e = absurd (none_some row e)
unit_at all (u ∷ us) zero row e = record { unit = u; stands = refl; row_is = some_is (map (edge all) (sites u)) row e }
unit_at all (u ∷ us) (suc k) row e = let r = unit_at all us k row e in record { unit = r.unit; stands = r.stands; row_is = r.row_is }

row_at : (all : Signatures) (us : List SourceUnit) (k : ℕ) (u : SourceUnit) → slice_get us k ≡ Some u → slice_get (map (λ u. map (edge all) (sites u)) us) k ≡ Some (map (edge all) (sites u))
row_at all [] k u e = absurd (none_some u e)
row_at all (v ∷ us) zero u e = ap (λ x. Some (map (edge all) (sites x))) (some_is v u e)
row_at all (v ∷ us) (suc k) u e = row_at all us k u e

record SiteAt (all : Signatures) (ss : List Site) (k : ℕ) (e : Edge) : Type 0 where
  site : Site
  stands : slice_get ss k ≡ Some site
  edge_is : edge all site ≡ e

site_at : (all : Signatures) (ss : List Site) (k : ℕ) (e : Edge) → slice_get (map (edge all) ss) k ≡ Some e → SiteAt all ss k e
site_at all [] k e i = absurd (none_some e i)
site_at all (s ∷ ss) zero e i = record { site = s; stands = refl; edge_is = some_is (edge all s) e i }
site_at all (s ∷ ss) (suc k) e i = let r = site_at all ss k e i in record { site = r.site; stands = r.stands; edge_is = r.edge_is }

edge_at : (all : Signatures) (ss : List Site) (k : ℕ) (s : Site) → slice_get ss k ≡ Some s → slice_get (map (edge all) ss) k ≡ Some (edge all s)
edge_at all [] k s i = absurd (none_some s i)
edge_at all (t ∷ ss) zero s i = ap (λ x. Some (edge all x)) (some_is t s i)
edge_at all (t ∷ ss) (suc k) s i = edge_at all ss k s i

pub cycle_found : (units : List SourceUnit) (ranks : List ℕ) → NoneLeadUp (rows units) ranks → (mark : Option ProgramMark) → mark ≡ first_cycle (callers (rows units)) ranks 0 (rows units) → Earliest (HasCycle units) mark
cycle_found units ranks falling mark e =
    subst (Earliest (HasCycle units)) (sym e)
    (mapped (CycleAt (rows units) 0) (HasCycle units) (first_cycle (callers (rows units)) ranks 0 (rows units)) to from (cycles_from (rows units) ranks falling 0 (rows units) (λ k. ap (slice_get (rows units)) (omega arith))))
  where
    to : (m : ProgramMark) → CycleAt (rows units) 0 m → HasCycle units m
    to m c =
        let u = unit_at (signatures units) units c.unit c.row c.stands in
        let s = site_at (signatures units) (sites u.unit) c.at c.edge (ap (λ r. slice_get r c.at) u.row_is ∙ c.calls) in
        record {
          place = c.unit;
          unit = u.unit;
          stands = u.stands;
          at = c.at;
          site = s.site;
          calls = s.stands;
          first = record { back = c.back; first_site = c.first_site; first_unit = λ b below o k. c.first_unit b (omega arith) below o k };
          mark_is = c.mark_is ∙ ap (λ d. mark_at 34 0 (Some c.unit) d.line) (sym s.edge_is);
        }

    from : (m : ProgramMark) → HasCycle units m → CycleAt (rows units) 0 m
    from m h = record {
      unit = h.place;
      from = omega arith;
      row = map (edge (signatures units)) (sites h.unit);
      stands = row_at (signatures units) units h.place h.unit h.stands;
      at = h.at;
      edge = edge (signatures units) h.site;
      calls = edge_at (signatures units) (sites h.unit) h.at h.site h.calls;
      back = h.first.back;
      first_site = h.first.first_site;
      first_unit = λ b l below o k. h.first.first_unit b below o k;
      mark_is = h.mark_is;
    }
