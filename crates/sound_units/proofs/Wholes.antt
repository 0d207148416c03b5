-- A unit that passed its checks is as its effects say.
use Rattle.std.proofs.Common.{◌≡◌, ℕ, zero, suc, ◌+◌, Bool, true, false, not, ◌&&◌, List, [], ◌∷◌, ◌++◌, Option, Some, None, length, map, flat_map, take, slice_get, refl, sym, ap, ◌∙◌, subst, arith, cond}
use Rattle.std.specs.Prelude.{IsTrue}
use Rattle.std.specs.List.{list_any}
use Rattle.std.proofs.lemmas.Grind.{flat_map-append}
use Rattle.f77_tree.specs.declared.form.Form.{Form, out-Form, fold-Form}
use Rattle.f77_tree.specs.declared.form.Form.TheFolds.{map-Form}
use Rattle.f77_tree.specs.declared.form.Form.TheOpen.{Form-F}
use Rattle.f77_tree.specs.declared.unit.Stmt.{Stmt}
use Rattle.f77_tree.specs.declared.unit.Unit.{Unit as SourceUnit}
use Rattle.f77_tree.specs.declared.unit.UnitKind.{UnitKind}
use Rattle.f77_tree.specs.declared.unit.UnitKind.TheVariants as kind
use Rattle.f77_tree.specs.declared.unit.Value.{Value}
use Rattle.f77_names.specs.declared.occurrences.Manner.TheVariants as manner
use Rattle.f77_names.specs.declared.facts.Facts.{Facts}
use Rattle.f77_values.specs.Tables.{Name, Told, what}
use Rattle.f77_values.specs.Constants.{constants}
use Rattle.f77_names.specs.Occurrences as occurring
use Rattle.f77_names.specs.Occurrences.{Occurrences, in_statement, in_head, own_name}
use Rattle.f77_names.specs.Roles.{facts}
use Rattle.f77_store.specs.Layouts.{callee, callees, callees_with}
use Rattle.check_types.specs.declared.breaks.Rule.TheVariants.{Types, Scalars, Targets, Exponents}
use Rattle.check_types.specs.Breaks.{form_step, form_breaks}
use Rattle.check_types.specs.Overreaching.{overreaches_in}
use Rattle.f77_names.specs.Standings.{standing_of, is_scalar}
use Rattle.f77_names.specs.declared.standings.Standing.{Standing}
use Rattle.f77_names.specs.declared.standings.Standing.TheVariants as standing
use Rattle.f77_flow.specs.Checks.{PassedChecks}
use Rattle.f77_flow.specs.Graph.{Point, At, Inside, Test, follow, ways, inner_ways, leaving}
use Rattle.f77_flow.specs.Labels.{has_range}
use Rattle.f77_flow.specs.Blocks.{below}
use Rattle.check_jumps.proofs.Gathering.{passes}
use Rattle.f77_semantics.specs.Program.{Terms, Statement, NoStatement, Routine}
use Rattle.f77_semantics.specs.Terms as names
use Rattle.f77_semantics.specs.Terms.{Meant}
use Rattle.f77_semantics.specs.Resolve.{statement_of, statements_from}
use Rattle.f77_semantics.specs.Statements.{statement}
use Rattle.f77_semantics.specs.Effects.{Effects, ResultOk, PointOk, StatementOk, InnerOk, UnitOk}
use Rattle.f77_semantics.specs.Source.{is_main, result_as, result_of, routine}
use Rattle.f77_semantics.specs.Goes.{IsOne, IsVariable, CountsByVariable, DosHaveVariables, HasTurns}
use Rattle.f77_semantics.proofs.Places.{follow_place}
use Rattle.f77_semantics.proofs.Points.{turns_everywhere}
use Rattle.f77_check.specs.UnitFaults.{IsSound, of_jumps}
use Rattle.prog_texts.specs.Mentions as said
use Rattle.sound_units.specs.Sites.{Each, site_at, Part, calls_of}
use Rattle.sound_units.specs.Texts.{form_text_step, return_step}
use Rattle.sound_units.specs.Checked.{passing, NameFits, StandsFor, StandsForVariable}
use Rattle.sound_units.specs.Units.{meant_of, filled, sites_in, passed_by, passed, effects}
use Rattle.sound_units.specs.Accepted.{IsStatementOf, IsTextOf, PassesNoProcedure, NamesFit}
use Rattle.sound_units.proofs.Clearing.{not_typed, not_scalar, not_target, not_overreaching}
use Rattle.sound_units.proofs.Excluding.{functions_agree}
use Rattle.sound_units.proofs.Fitting.{known_values}
use Rattle.sound_units.proofs.Lists.{or_left, or_right, any-append, part_left, part_right}
use Rattle.sound_units.specs.Laws.{TermsHaveTypes}
use Rattle.sound_units.proofs.Terms.{term_fits}
use Rattle.sound_units.proofs.Forms.{all_used, all_assigned, site_fits, unfilled, Exponential, FormChecked, WholeFit, DoTested, statement_fit}
use Rattle.sound_units.proofs.Opening.{opens}

-- ---- what no fault says of a statement

any_part : {A B : Type 0} (test : B → Bool) (g : A → List B) (xs : List A) (k : ℕ) (x : A) → slice_get xs k ≡ Some x → list_any test (flat_map g xs) ≡ false → list_any test (g x) ≡ false
any_part test g [] k x e h = cc
any_part test g (y ∷ xs) zero x e h =
    let same : y ≡ x = cc in
    subst (λ x. list_any test (g x) ≡ false) same (or_left (list_any test (g y)) (list_any test (flat_map g xs)) (sym (any-append test (g y) (flat_map g xs)) ∙ h))
any_part test g (y ∷ xs) (suc k) x e h = any_part test g xs k x e (or_right (list_any test (g y)) (list_any test (flat_map g xs)) (sym (any-append test (g y) (flat_map g xs)) ∙ h))

each_one : (P : Point → Type 0) (ps : List Point) → ((q : Point) → IsOne ps q → P q) → Each P ps
each_one P [] h = tt
each_one P (p ∷ ps) h = (h p (record { way = 0; is = refl }), each_one P ps (λ q one. h q (record { way = suc one.way; is = one.is })))

-- The names of a head are no callees.
pub head_callees : (f : Facts) (u : SourceUnit) → callees_with f (in_head u) ≡ []
head_callees f u = flat_map-append (callee f.attributes) (own_name u.kind u.name) (map (occurring.occurs manner.Dummy) u.dummies) ∙ (λ i. own u.kind i ++ dummies u.dummies i)
  where
    own : (k : UnitKind) → callees_with f (own_name k u.name) ≡ []
    own kind.Function = refl
    own k = refl

    dummies : (ns : List Name) → callees_with f (map (occurring.occurs manner.Dummy) ns) ≡ []
    dummies [] = refl
    dummies (n ∷ ns) = dummies ns

module _ (u : SourceUnit) (sound : IsSound u) (text : IsTextOf u) (procedures : PassesNoProcedure u) (fit : NamesFit u) where
  abbrev f : Facts
  f = facts u

  abbrev ss : List Stmt
  ss = u.statements

  abbrev meant : Name → Meant
  meant = meant_of u

  abbrev S : Effects
  S = effects u

  abbrev R : Routine
  R = routine u

  abbrev main : Bool
  main = is_main u.kind

  returned : (k : UnitKind) → u.kind ≡ k → ResultOk S (result_of k (meant u.name))
  returned kind.Function e =
      let x : StandsForVariable f meant S u.name = fit.function e in
      subst (λ m. ResultOk S (result_as m)) (sym x.meant_is) (x.fits, all_used u x.base 1)
  returned k e = tt

  result : is_main u.kind ≡ false → ResultOk S R.result
  result h = returned u.kind refl

  known_at : (k : ℕ) (name : Name) (v : Value) → what (constants (take k ss)) name ≡ Some v → meant name ≡ names.Constant v
  known_at k name v h = fit.values k name v h

  exponents_at : (k line : ℕ) (form : Form) (F : Form-F Form) → fold-Form Bool (form_step f (constants (take k ss)) Exponents) form ≡ form_step f (constants (take k ss)) Exponents (map-Form Form Bool (form_breaks f (constants (take k ss)) Exponents) F) → overreaches_in f (constants (take k ss)) form F ≡ false
      → Exponential u (constants (take k ss)) line (functions_agree u sound text) (known_at k) result F
  exponents_at k line form (Form-F.Parameter all) e h = tt
  exponents_at k line form F e h = sym e ∙ h

  checked_at : (k : ℕ) (s : Stmt) → slice_get ss k ≡ Some s → FormChecked u (constants (take k ss)) s.line (functions_agree u sound text) (known_at k) result (out-Form s.form)
  checked_at k s e =
      let known : Told Value = constants (take k ss) in
      let one : IsStatementOf u s = text.each k s e in
      record {
        types = sym (opens (form_step f f.constants Types) s.form) ∙ not_typed u sound k s e;
        scalars = sym (opens (form_step f f.constants Scalars) s.form) ∙ not_scalar u sound k s e;
        targets = sym (opens (form_step f f.constants Targets) s.form) ∙ not_target u sound k s e;
        exponents = exponents_at k s.line s.form (out-Form s.form) (opens (form_step f known Exponents) s.form) (not_overreaching u sound k s e);
        texts = sym (opens form_text_step s.form) ∙ one.texts;
        procedures = sym (ap (list_any passing) (opens (said.form_step f s.line) s.form)) ∙ any_part passing (said.in_statement f) ss k s e procedures;
        returns = sym (ap (λ b. main && b) (opens return_step s.form)) ∙ one.returns;
        guards = one.guards;
      }

  -- ---- control

  passed_jumps : PassedChecks u.statements
  passed_jumps = passes ss text.last (λ m h. sound.none m (of_jumps h)) text.stands text.end

  variable_of : (name : Name) (st : Standing) → StandsFor f meant S st name → is_scalar st ≡ true → IsVariable (meant name)
  variable_of name standing.Scalar x h = subst IsVariable (sym x.meant_is) tt
  variable_of name st x h = cc

  counts_by : (k : ℕ) (s : Stmt) → slice_get ss k ≡ Some s → (F : Form-F Form) → out-Form s.form ≡ F → CountsByVariable u F
  counts_by k s e (Form-F.Do label name a b c) is =
      let fine : Each (NameFits f meant S) (occurring.form_step (map-Form Form Occurrences occurring.in_form (Form-F.Do label name a b c))) =
      subst (λ F. Each (NameFits f meant S) (occurring.form_step (map-Form Form Occurrences occurring.in_form F))) is (subst (Each (NameFits f meant S)) (opens occurring.form_step s.form) (fit.each k s e)) in
      let targets : form_step f f.constants Targets (map-Form Form Bool (form_breaks f f.constants Targets) (Form-F.Do label name a b c)) ≡ false =
      subst (λ F. form_step f f.constants Targets (map-Form Form Bool (form_breaks f f.constants Targets) F) ≡ false) is (sym (opens (form_step f f.constants Targets) s.form) ∙ not_target u sound k s e) in
      variable_of name (standing_of f name) fine.0.stands (scalar (is_scalar (standing_of f name)) (or_left (not (is_scalar (standing_of f name))) _ targets))
    where
      scalar : (b : Bool) → not b ≡ false → b ≡ true
      scalar true h = refl
      scalar false h = cc
  counts_by k s e F is = tt

  variables : DosHaveVariables u
  variables k s e = counts_by k s e (out-Form s.form) refl

  turns : HasTurns u
  turns = turns_everywhere u passed_jumps variables

  ways_at : (k : ℕ) (s : Stmt) → slice_get ss k ≡ Some s → Each (PointOk R) (ways ss k (out-Form s.form))
  ways_at k s e = each_one (PointOk R) (ways ss k (out-Form s.form)) (λ q one. turns.each (At k) q (subst (λ o. IsOne (elim o [ None ↦ [] | Some s ↦ ways ss k (out-Form s.form) ]) q) (sym e) one))

  inner_ways_at : (k : ℕ) (s : Stmt) → slice_get ss k ≡ Some s → Each (PointOk R) (inner_ways ss k (out-Form s.form))
  inner_ways_at k s e = each_one (PointOk R) (inner_ways ss k (out-Form s.form)) (λ q one. turns.each (Inside k) q (subst (λ o. IsOne (elim o [ None ↦ [] | Some s ↦ inner_ways ss k (out-Form s.form) ]) q) (sym e) one))

  tested_at : (k : ℕ) (s : Stmt) → slice_get ss k ≡ Some s → (F : Form-F Form) → out-Form s.form ≡ F → DoTested u (constants (take k ss)) s.line (functions_agree u sound text) (known_at k) result k F
  tested_at k s e (Form-F.Do label name a b c) is =
      let one : IsOne (follow ss (At k)) (Test k) = subst (λ o. IsOne (elim o [ None ↦ [] | Some s ↦ ways ss k (out-Form s.form) ]) (Test k)) (sym e) (subst (λ F. IsOne (ways ss k F) (Test k)) (sym is) (record { way = 0; is = refl })) in
      let ranged : IsTrue (has_range ss k) = follow_place ss passed_jumps (At k) (Test k) one in
      let next : (q : Point) → IsOne (cond true (At (below ss k) ∷ leaving ss k ∷ []) []) q → PointOk R q = λ q h. turns.each (Test k) q (subst (λ b. IsOne (cond b (At (below ss k) ∷ leaving ss k ∷ []) []) q) (sym ranged) h) in
      (turns.each (At k) (Test k) one, next (At (below ss k)) (record { way = 0; is = refl }), next (leaving ss k) (record { way = 1; is = refl }))
  tested_at k s e F is = tt

  -- ---- statements, one by one

  abbrev Whole : ℕ → Occurrences → Statement → Type 0
  Whole k a t = (StatementOk R S k t × InnerOk R S k t) × (length (filled (length (callees_with f a)) (calls_of t)) ≡ length (callees_with f a))

  abbrev at_site : ℕ → ℕ → Stmt → Statement
  at_site k s st = statement_of meant main ss k s (out-Form st.form)

  whole_at : (k s : ℕ) (st : Stmt) → slice_get ss k ≡ Some st → Part (callees u) s (callees_with f (in_statement st)) → Part (passed u) s (calls_of (at_site k s st)) → Whole k (in_statement st) (at_site k s st)
  whole_at k s st e called passes =
      let F : Form-F Form = out-Form st.form in
      let open_form = opens occurring.form_step st.form in
      let x : WholeFit u (constants (take k ss)) st.line (functions_agree u sound text) (known_at k) result k (occurring.form_step (map-Form Form Occurrences occurring.in_form F)) (at_site k s st) =
      statement_fit u (constants (take k ss)) st.line (functions_agree u sound text) (known_at k) result k s F (checked_at k st e)
      (record { occurs = subst (Each (NameFits f meant S)) open_form (fit.each k st e); called = subst (λ a. Part (callees u) s (callees_with f a)) open_form called; passes = passes })
      (ways_at k st e) (inner_ways_at k st e) (tested_at k st e F refl) in
      ((x.ok, x.inner), subst (λ a. length (filled (length (callees_with f a)) (calls_of (at_site k s st))) ≡ length (callees_with f a)) (sym open_form) x.counts)

  abbrev Ok : ℕ → Option Statement → Type 0
  Ok k o = elim o [ None ↦ StatementOk R S k NoStatement × InnerOk R S k NoStatement | Some t ↦ StatementOk R S k t × InnerOk R S k t ]

  from_here : (sts : List Stmt) (k s : ℕ) → ((j : ℕ) (st : Stmt) → slice_get sts j ≡ Some st → slice_get ss (k + j) ≡ Some st)
      → Part (callees u) s (callees_with f (flat_map in_statement sts)) → Part (passed u) s (passed_by f sts (statements_from meant f main ss k s sts))
      → (j : ℕ) → Ok (k + j) (slice_get (statements_from meant f main ss k s sts) j)
  from_here [] k s stands called passes j = (tt, tt)
  from_here (st ∷ sts) k s stands called passes j =
      let n : ℕ = sites_in f st in
      let t : Statement = at_site k s st in
      let here : slice_get ss k ≡ Some st = let e : k ≡ k + 0 = omega arith in ap (slice_get ss) e ∙ stands 0 st refl in
      let both : Part (callees u) s (callees_with f (in_statement st) ++ callees_with f (flat_map in_statement sts)) = subst (Part (callees u) s) (flat_map-append (callee f.attributes) (in_statement st) (flat_map in_statement sts)) called in
      let more : List Terms = passed_by f sts (statements_from meant f main ss (suc k) (s + n) sts) in
      let x : Whole k (in_statement st) t = whole_at k s st here (part_left (callees u) s (callees_with f (in_statement st)) (callees_with f (flat_map in_statement sts)) both) (unfilled (passed u) s n (calls_of t) (part_left (passed u) s (filled n (calls_of t)) more passes)) in
      go j x (from_here sts (suc k) (s + n) (λ i x e. let same : suc k + i ≡ k + suc i = omega arith in ap (slice_get ss) same ∙ stands (suc i) x e)
      (part_right (callees u) s n (callees_with f (in_statement st)) (callees_with f (flat_map in_statement sts)) refl both)
      (part_right (passed u) s n (filled n (calls_of t)) more x.1 passes))
    where
      go : (j : ℕ) → Whole k (in_statement st) (at_site k s st) → ((j : ℕ) → Ok (suc k + j) (slice_get (statements_from meant f main ss (suc k) (s + sites_in f st) sts) j))
          → Ok (k + j) (slice_get (at_site k s st ∷ statements_from meant f main ss (suc k) (s + sites_in f st) sts) j)
      go zero x rest = let e : k ≡ k + 0 = omega arith in subst (λ i. Ok i (Some (at_site k s st))) e x.0
      go (suc j) x rest = let e : suc k + j ≡ k + suc j = omega arith in subst (λ i. Ok i (slice_get (statements_from meant f main ss (suc k) (s + sites_in f st) sts) j)) e (rest j)

  whole_part : {A : Type 0} (all : List A) → Part all 1 all
  whole_part all i x e = let same : 1 + i ≡ suc i = omega arith in ap (site_at all) same ∙ e

  each_ok : (k : ℕ) → StatementOk R S k (statement R k) × InnerOk R S k (statement R k)
  each_ok k =
      let calling : callees u ≡ callees_with f (flat_map in_statement ss) = flat_map-append (callee f.attributes) (in_head u) (flat_map in_statement ss) ∙ ap (λ xs. xs ++ callees_with f (flat_map in_statement ss)) (head_callees f u) in
      let all : Ok (0 + k) (slice_get R.statements k) = from_here ss 0 1 (λ j st e. let same : 0 + j ≡ j = omega arith in ap (slice_get ss) same ∙ e) (subst (Part (callees u) 1) calling (whole_part (callees u))) (whole_part (passed u)) k in
      let same : 0 + k ≡ k = omega arith in
      go (slice_get R.statements k) (subst (λ i. Ok i (slice_get R.statements k)) same all)
    where
      go : (o : Option Statement) → Ok k o → StatementOk R S k (elim o [ None ↦ NoStatement | Some t ↦ t ]) × InnerOk R S k (elim o [ None ↦ NoStatement | Some t ↦ t ])
      go None h = h
      go (Some t) h = h

  pub unit_ok : UnitOk (routine u) (effects u)
  unit_ok = record { arrays = refl; first = turns.first; each = λ k. (each_ok k).0; inner = λ k. (each_ok k).1; entry = fit.entry }

pub terms_have_types : TermsHaveTypes
terms_have_types u sound text procedures k line p s e at c d =
    (term_fits (facts u) (constants (take k u.statements)) line (meant_of u) (effects u) (callees u) (passed u) (functions_agree u sound text) (known_values u sound text k) (all_used u) (all_assigned u) (site_fits u) e p s at c
    (record { occurs = d.names; called = d.callees_are; passes = d.passed_are })).fits
