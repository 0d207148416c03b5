-- An accepted program has no run that is wrong.
use Rattle.std.proofs.Common.{◌≡◌, ℕ, zero, suc, ◌<◌, ◌⊎◌, inl, inr, Bool, true, false, not, ◌||◌, Option, Some, None, List, [], ◌∷◌, ◌++◌, ℤ, length, map, flat_map, find, get_or, option_map, is_some, slice_get, refl, sym, ap, ◌∙◌, subst, arith, cond, ⊎_elim}
use Rattle.std.specs.List.{list_any}
use Rattle.std.proofs.lemmas.Grind.{flat_map-append}
use Rattle.std.proofs.lemmas.Option.{slice_get-map, slice_get-get_or}
use Rattle.run_model.specs.Runs.{Wrong}
use Rattle.f77_tree.specs.declared.unit.Stmt.{Stmt}
use Rattle.f77_tree.specs.declared.unit.Ty.{Ty}
use Rattle.f77_tree.specs.declared.unit.Ty.TheVariants as types
use Rattle.f77_tree.specs.declared.unit.Unit.{Unit as SourceUnit}
use Rattle.f77_tree.specs.declared.unit.UnitKind.{UnitKind}
use Rattle.f77_tree.specs.declared.unit.UnitKind.TheVariants as kind
use Rattle.f77_names.specs.declared.facts.Facts.{Facts}
use Rattle.f77_values.specs.Tables.{Name}
use Rattle.f77_names.specs.Occurrences.{in_statement, in_head}
use Rattle.f77_names.specs.Roles.{facts, type_of}
use Rattle.f77_store.specs.Layouts.{callee as callees_in, callees, callees_with}
use Rattle.f77_semantics.specs.Units.{Program, callee, named}
use Rattle.f77_semantics.specs.Effects.{Effects, HasSite, UnitOk, SiteOk, ProgramOk, type_of_result}
use Rattle.f77_semantics.specs.Source.{is_main, main_of, result_as, result_of, routine, Source}
use Rattle.f77_semantics.proofs.Sane.{source_sane}
use Rattle.prog_check.specs.declared.checks.Check.{Check}
use Rattle.prog_check.specs.declared.checks.Check.TheVariants as check
use Rattle.call_cycles.specs.declared.cycles.Edge.{Edge}
use Rattle.prog_texts.specs.declared.mentions.Mention.{Mention}
use Rattle.prog_texts.specs.declared.mentions.Mention.TheVariants.{Site, Block, DummyProcedure}
use Rattle.prog_texts.specs.declared.mentions.Site.{Site as CallSite}
use Rattle.prog_texts.specs.declared.mentions.Wanted.{Wanted}
use Rattle.prog_texts.specs.declared.mentions.Wanted.TheVariants.{Subroutine, Function}
use Rattle.prog_texts.specs.declared.signatures.Signature.{Signature}
use Rattle.prog_check.specs.Checks.{differs, is_function, is_wrong_callee, misuses, shows, line_of, number_of}
use Rattle.call_cycles.specs.Cycles.{Targets, LeadsBack, edge, rows}
use Rattle.prog_check.specs.Mains as mains
use Rattle.prog_texts.specs.Mentions.{mentions, site_of, sites}
use Rattle.prog_check.specs.ProgramFaults.{IsAccepted, mains as of_mains, calls as of_calls, no_main, text, by_text, by_cycle}
use Rattle.call_cycles.specs.Marks.{mark_at}
use Rattle.prog_texts.specs.Signatures.{Signatures, signature, signatures, unit_of}
use Rattle.sound_units.specs.Sites.{Each}
use Rattle.sound_units.specs.Checked.{passing, NameFits, StandsForVariable}
use Rattle.sound_units.specs.Units.{meant_of, type_at, effects}
use Rattle.sound_units.specs.Accepted.{PassesNoProcedure, IsGood, AllAreGood, NamesDiffer}
use Rattle.sound_units.specs.Laws.{ProgramsAreNeverStuck}
use Rattle.sound_units.proofs.Acyclic.{acyclic}
use Rattle.sound_units.proofs.Entering.{names_fit}
use Rattle.sound_units.proofs.Fitting.{each_fits, result_stands}
use Rattle.sound_units.proofs.Lists.{untrue, or_left, or_right, length-map}
use Rattle.sound_units.proofs.Naming.{HasUnit, unit_known, FirstOf, first_of, Spot, spot, same_unit}
use Rattle.sound_units.proofs.Ranks.{reach, fewer, reach_short}
use Rattle.sound_units.proofs.Saying.{each_weaker, Wants, SiteIn, CallFits, call_fits, statements_said}
use Rattle.sound_units.proofs.Tables.{some_is, each_at}
use Rattle.sound_units.proofs.Wholes.{head_callees, unit_ok}

record OneOf {A : Type 0} (test : A → Bool) (xs : List A) : Type 0 where
  at : ℕ
  one : A
  stands : slice_get xs at ≡ Some one
  passes : test one ≡ true

one_of : {A : Type 0} (test : A → Bool) (xs : List A) → list_any test xs ≡ true → OneOf test xs
one_of test [] h = cc
one_of test (x ∷ xs) h = go (test x) refl h (one_of test xs)
  where
    go : (b : Bool) → test x ≡ b → (b || list_any test xs) ≡ true → (list_any test xs ≡ true → OneOf test xs) → OneOf test (x ∷ xs)
    go true t h rest = record { at = 0; one = x; stands = refl; passes = t }
    go false t h rest = let r = rest h in record { at = suc r.at; one = r.one; stands = r.stands; passes = r.passes }

record Among (ms : List Mention) (s : CallSite) : Type 0 where
  at : ℕ
  stands : slice_get (flat_map site_of ms) at ≡ Some s

site_among : (ms : List Mention) (k : ℕ) (s : CallSite) → slice_get ms k ≡ Some (Site s) → Among ms s
site_among [] k s e = cc
site_among (m ∷ ms) zero s e = let same : m ≡ Site s = some_is m (Site s) e in subst (λ m. Among (m ∷ ms) s) (sym same) (record { at = 0; stands = refl })
site_among (Site t ∷ ms) (suc k) s e = let r = site_among ms k s e in record { at = suc r.at; stands = r.stands }
site_among (Block name line ∷ ms) (suc k) s e = let r = site_among ms k s e in record { at = r.at; stands = r.stands }
site_among (DummyProcedure line ∷ ms) (suc k) s e = let r = site_among ms k s e in record { at = r.at; stands = r.stands }

same_type : (a b : Ty) → differs (Some a) (Some b) ≡ false → a ≡ b
same_type types.Integer types.Integer h = refl
same_type types.Logical types.Logical h = refl
same_type types.Integer types.Logical h = cc
same_type types.Logical types.Integer h = cc

function_is : (k : UnitKind) → not (is_function k) ≡ false → k ≡ kind.Function
function_is kind.Function h = refl
function_is k h = cc

main_is : (k : UnitKind) → is_main k ≡ mains.is_main_kind k
main_is kind.Main = refl
main_is k = refl

shows_procedure : (all : Signatures) (m : Mention) → passing m ≡ true → shows check.Procedure all m ≡ true
shows_procedure all (Site s) h = h
shows_procedure all (Block name line) h = cc
shows_procedure all (DummyProcedure line) h = refl

-- a function gives its result with the type of its name
gives_type : (v : SourceUnit) (k : UnitKind) → k ≡ kind.Function → (x : StandsForVariable (facts v) (meant_of v) (effects v) v.name) → type_of_result (result_of k (meant_of v v.name)) ≡ Some x.ty
gives_type v kind.Function e x = ap (λ m. type_of_result (result_as m)) x.meant_is
gives_type v k e x = cc

module _ (units : List SourceUnit) (good : AllAreGood units) (differ : NamesDiffer units) (accepted : IsAccepted units) where
  all : Signatures
  all = signatures units

  -- what is said shows no fault
  quiet : (c : Check) (k : ℕ) (u : SourceUnit) → slice_get units k ≡ Some u → (at : ℕ) (m : Mention) → slice_get (mentions u) at ≡ Some m → shows c (signatures units) m ≡ false
  quiet c k u s at m e = untrue (shows c (signatures units) m) (λ h. accepted.none (mark_at (number_of c) 0 (Some k) (line_of m)) (of_calls (by_text (text c (record { place = k; unit = u; stands = s; at = at; mention = m; says = e; holds = h; mark_is = refl })))))

  pub no_procedure : (k : ℕ) (u : SourceUnit) → slice_get units k ≡ Some u → PassesNoProcedure u
  no_procedure k u s = untrue (list_any passing (mentions u)) (λ h.
      let x : OneOf passing (mentions u) = one_of passing (mentions u) h in
      let no : shows check.Procedure (signatures units) x.one ≡ false = quiet check.Procedure k u s x.at x.one x.stands in
      let yes : shows check.Procedure (signatures units) x.one ≡ true = shows_procedure (signatures units) x.one x.passes in
      contra (sym no ∙ yes))
    where
      contra : false ≡ true → ⊥
      contra e = cc

  pub sound_unit : (k : ℕ) (u : SourceUnit) → slice_get units k ≡ Some u → UnitOk (routine u) (effects u)
  sound_unit k u s = let g : IsGood u = good k u s in unit_ok u g.sound g.text (no_procedure k u s) (names_fit u g.sound g.text (no_procedure k u s))

  no_cycle : (place at : ℕ) → LeadsBack (rows units) place at → ⊥
  no_cycle = acyclic units (λ mark h. accepted.none mark (of_calls (by_cycle h)))

  abbrev row_of_unit : SourceUnit → List Edge
  row_of_unit u = map (edge (signatures units)) (sites u)

  row_stands : (k : ℕ) (u : SourceUnit) → slice_get units k ≡ Some u → slice_get (rows units) k ≡ Some (row_of_unit u)
  row_stands k u s = slice_get-map (λ u. map (edge (signatures units)) (sites u)) units k ∙ ap (option_map (λ u. map (edge (signatures units)) (sites u))) s

  -- ---- the callee of a site

  called_sites : (u : SourceUnit) (k : ℕ) → slice_get units k ≡ Some u → Each (SiteIn (facts u) (mentions u)) (callees u)
  called_sites u k s =
      let g : IsGood u = good k u s in
      let f : Facts = facts u in
      let fits : (j : ℕ) (st : Stmt) → slice_get u.statements j ≡ Some st → Each (CallFits f) (in_statement st) = λ j st e. each_weaker (NameFits f (meant_of u) (effects u)) (CallFits f) (in_statement st) (call_fits f (meant_of u) (effects u)) (each_fits u g.sound g.text (no_procedure k u s) j st e) in
      let calling : callees u ≡ callees_with f (flat_map in_statement u.statements) = flat_map-append (callees_in f.attributes) (in_head u) (flat_map in_statement u.statements) ∙ ap (λ xs. xs ++ callees_with f (flat_map in_statement u.statements)) (head_callees f u) in
      subst (Each (SiteIn f (mentions u))) (sym calling) (statements_said f u.statements fits)

  -- where a site leads
  record Callee (u : SourceUnit) (name : Name) : Type 0 where
    place : ℕ
    unit : SourceUnit
    stands : slice_get units place ≡ Some unit
    name_is : unit.name ≡ name
    targets : Targets (map (edge (signatures units)) (sites u)) place
    typed : (type_of (facts u) name ≡ None) ⊎ (type_of_result (routine unit).result ≡ type_of (facts u) name)

  known : (o : Option Signature) → not (is_some o) ≡ false → (s : Signature) × (o ≡ Some s)
  known None h = cc
  known (Some s) h = (s, refl)

  typed_by : (u v : SourceUnit) (c : ℕ) (name : Name) → slice_get units c ≡ Some v → (w : Wanted) → Wants (facts u) w name → is_wrong_callee w (signature v c) ≡ false → (type_of (facts u) name ≡ None) ⊎ (type_of_result (routine v).result ≡ type_of (facts u) name)
  typed_by u v c name s Subroutine w h = inl w
  typed_by u v c name s (Function ty) w h =
      let is : v.kind ≡ kind.Function = function_is v.kind (or_left (not (is_function v.kind)) (differs (type_of (facts v) v.name) ty) h) in
      let g : IsGood v = good c v s in
      let x : StandsForVariable (facts v) (meant_of v) (effects v) v.name = result_stands v g.sound g.text is in
      go ty w x.ty (subst (λ t. differs t ty ≡ false) x.type_is (or_right (not (is_function v.kind)) (differs (type_of (facts v) v.name) ty) h)) (gives_type v v.kind is x)
    where
      go : (ty : Option Ty) → ty ≡ type_of (facts u) name → (a : Ty) → differs (Some a) ty ≡ false → type_of_result (routine v).result ≡ Some a → (type_of (facts u) name ≡ None) ⊎ (type_of_result (routine v).result ≡ type_of (facts u) name)
      go None w a d g = inl (sym w)
      go (Some b) w a d g = inr (g ∙ (ap Some (same_type a b d) ∙ w))

  callee_of : (u : SourceUnit) (k : ℕ) → slice_get units k ≡ Some u → (name : Name) → SiteIn (facts u) (mentions u) name → Callee u name
  callee_of u k s name x =
      let found = known (unit_of (signatures units) x.site.callee) (quiet check.Callee k u s x.at (Site x.site) x.says) in
      let sig : Signature = found.0 in
      let v : HasUnit units (x.site.callee, sig) = unit_known units x.site.callee sig found.1 in
      let kind_ok : is_wrong_callee x.site.wanted sig ≡ false = subst (λ o. misuses x.site o ≡ false) found.1 (quiet check.Kind k u s x.at (Site x.site) x.says) in
      let among : Among (mentions u) x.site = site_among (mentions u) x.at x.site x.says in
      record {
        place = v.place;
        unit = v.unit;
        stands = v.stands;
        name_is = v.name_is ∙ x.callee_is;
        targets = record {
          at = among.at;
          edge = edge (signatures units) x.site;
          stands = slice_get-map (edge (signatures units)) (sites u) among.at ∙ ap (option_map (edge (signatures units))) among.stands;
          leads = ap (option_map (λ s. s.place)) found.1 ∙ ap (λ (s : Signature). Some s.place) v.is;
        };
        typed = typed_by u v.unit v.place name v.stands x.site.wanted x.wants (subst (λ s. is_wrong_callee x.site.wanted s ≡ false) v.is kind_ok);
      }

  -- ---- the program

  module _ (main : SourceUnit) (is : main_of units ≡ Some main) where
    at_name : (q : Name) → Spot units main q
    at_name q = spot units main is differ q

    abbrev effects_of : Name → Effects
    effects_of q = effects (at_name q).unit

    abbrev rank : Name → ℕ
    rank q = reach (rows units) (at_name q).place

    abbrev program : Program
    program = named (map routine units) (routine main)

    site_ok : (q : Name) (s : ℕ) → HasSite (effects_of q) s → SiteOk program effects_of rank q s
    site_ok q zero h = absurd (omega (arith, h.0))
    site_ok q (suc k) h =
        let x : Spot units main q = at_name q in
        let u : SourceUnit = x.unit in
        let name : Name = get_or (callees u) k u.name in
        let inside : k < length (callees u) = h.1 in
        let stands_name : slice_get (callees u) k ≡ Some name = slice_get-get_or (callees u) k u.name inside in
        let c : Callee u name = callee_of u x.place x.stands name (each_at (SiteIn (facts u) (mentions u)) (callees u) k name (called_sites u x.place x.stands) stands_name) in
        let y : Spot units main name = at_name name in
        let place_is : c.place ≡ y.place = y.known c.place c.unit c.stands c.name_is in
        let unit_is : c.unit ≡ y.unit = same_unit units c.place y.place c.unit y.unit c.stands y.stands place_is in
        let callee_is : callee (program q) (suc k) ≡ name = ap (λ R. callee R (suc k)) x.named_is in
        let less : reach (rows units) c.place < reach (rows units) x.place = fewer (rows units) no_cycle x.place c.place (row_of_unit u) (row_of_unit c.unit) (row_stands x.place u x.stands) (row_stands c.place c.unit c.stands) c.targets in
        let type_is : (effects_of q).type_of (suc k) ≡ type_of (facts u) name = ap (type_at (facts u)) stands_name in
        let result_is : type_of_result (program (callee (program q) (suc k))).result ≡ type_of_result (routine c.unit).result =
        ap (λ n. type_of_result (program n).result) callee_is ∙ (ap (λ R. type_of_result R.result) y.named_is ∙ ap (λ v. type_of_result (routine v).result) (sym unit_is)) in
        record {
          below = subst (λ n. rank n < rank q) (sym callee_is) (subst (λ p. reach (rows units) p < reach (rows units) x.place) place_is less);
          typed = ⊎_elim (λ e. inl (type_is ∙ e)) (λ e. inr (result_is ∙ (e ∙ sym type_is))) c.typed;
        }

    program_ok : ProgramOk program effects_of rank
    program_ok = record {
      each = λ q. subst (λ R. UnitOk R (effects_of q)) (sym (at_name q).named_is) (sound_unit (at_name q).place (at_name q).unit (at_name q).stands);
      sites = site_ok;
    }

    found : FirstOf (λ u. is_main u.kind) units main
    found = first_of (λ u. is_main u.kind) units main is

    main_unit : main ≡ (at_name main.name).unit
    main_unit = let x = at_name main.name in same_unit units found.place x.place main x.unit found.stands x.stands (x.known found.place main found.stands refl)

    never_returns : (effects_of main.name).returns ≡ false
    never_returns = ap (λ v. (effects v).returns) (sym main_unit) ∙ ap not found.passes

    short : rank main.name < length (map routine units)
    short =
        let x = at_name main.name in
        let l : reach (rows units) x.place < length (rows units) = reach_short (rows units) x.place (row_of_unit x.unit) (row_stands x.place x.unit x.stands) in
        subst (λ n. reach (rows units) x.place < n) (length-map (λ u. map (edge (signatures units)) (sites u)) units ∙ sym (length-map routine units)) l

    main_sane : (input : List ℤ) (n : ℕ) → Source units input n ≡ Wrong → ⊥
    main_sane input n wrong = source_sane units main is effects_of rank program_ok short never_returns input n wrong

  no_main_found : (us : List SourceUnit) → find (λ u. is_main u.kind) us ≡ None → mains.has_main us ≡ false
  no_main_found [] e = refl
  no_main_found (u ∷ us) e = go (is_main u.kind) (main_is u.kind) e (no_main_found us)
    where
      go : (b : Bool) → b ≡ mains.is_main_kind u.kind → cond b (Some u) (find (λ u. is_main u.kind) us) ≡ None → (find (λ u. is_main u.kind) us ≡ None → mains.has_main us ≡ false) → (mains.is_main_kind u.kind || mains.has_main us) ≡ false
      go true t e rest = cc
      go false t e rest = ap (λ b. b || mains.has_main us) (sym t) ∙ rest e

  sane : (input : List ℤ) (n : ℕ) → Source units input n ≡ Wrong → ⊥
  sane input n wrong = go (main_of units) refl
    where
      go : (o : Option SourceUnit) → main_of units ≡ o → ⊥
      go None e = accepted.none (mark_at 27 0 None 0) (of_mains (no_main (record { lacks = no_main_found units e; mark_is = refl })))
      go (Some main) e = main_sane main e input n wrong

pub never_stuck : ProgramsAreNeverStuck
never_stuck units good differ accepted input n wrong = sane units good differ accepted input n wrong
