-- A statement that passed the checks is one of a run, whose terms, targets and ways are as they should be.
use Rattle.std.proofs.Common.{◌≡◌, ℕ, zero, suc, ◌+◌, Bool, true, false, not, ◌&&◌, ◌||◌, Option, Some, None, List, [], ◌∷◌, ◌++◌, length, replicate, map, flat_map, slice_get, refl, sym, ap, ◌∙◌, subst, arith, if◌then◌else◌}
use Rattle.std.specs.List.{list_any}
use Rattle.std.proofs.lemmas.Grind.{flat_map-append}
use Rattle.f77_tree.specs.declared.expr.Expr.{Expr, roll-Expr, out-roll-Expr, ind-Expr}
use Rattle.f77_tree.specs.declared.expr.Expr.TheOpen.{Expr-F}
use Rattle.f77_tree.specs.declared.form.Form.{Form, out-Form}
use Rattle.f77_tree.specs.declared.form.Form.TheFolds.{map-Form}
use Rattle.f77_tree.specs.declared.form.Form.TheOpen.{Form-F}
use Rattle.f77_tree.specs.declared.unit.Stmt.{Stmt}
use Rattle.f77_tree.specs.declared.unit.Ty.{Ty}
use Rattle.f77_tree.specs.declared.unit.Ty.TheVariants as types
use Rattle.f77_tree.specs.declared.unit.Unit.{Unit as SourceUnit}
use Rattle.f77_tree.specs.declared.unit.Value.{Value}
use Rattle.f77_names.specs.declared.occurrences.Occurrence.{Occurrence}
use Rattle.f77_names.specs.declared.facts.Facts.{Facts}
use Rattle.f77_values.specs.Tables.{Name, Told, what}
use Rattle.f77_names.specs.Roles.{facts, type_of}
use Rattle.f77_names.specs.Occurrences as occurring
use Rattle.f77_names.specs.Occurrences.{Occurrences, in_expr, in_optional}
use Rattle.f77_store.specs.Layouts.{callee, callees, callees_with}
use Rattle.check_types.specs.declared.breaks.Rule.{Rule}
use Rattle.check_types.specs.declared.breaks.Rule.TheVariants.{Types, Scalars, Targets, Exponents}
use Rattle.check_types.specs.declared.places.Place.{Place}
use Rattle.check_types.specs.declared.places.Place.TheVariants.{Value as Valued, Actual}
use Rattle.f77_names.specs.declared.standings.Standing.{Standing}
use Rattle.f77_names.specs.declared.standings.Standing.TheVariants as standing
use Rattle.check_types.specs.Breaks.{optional_breaks, target_breaks, form_step, form_breaks}
use Rattle.check_types.specs.Exponents.{has_wrong_exponent}
use Rattle.check_types.specs.Scalars.{is_misplaced}
use Rattle.f77_names.specs.Standings.{standing_of, is_scalar, is_array}
use Rattle.check_types.specs.Targets.{target_type, is_no_element, is_no_variable}
use Rattle.check_types.specs.WrongTypes.{differs, is_mistyped}
use Rattle.f77_flow.specs.Blocks.{below, otherwise}
use Rattle.f77_flow.specs.Graph.{Point, At, Inside, Test, after, leaving, simple_ways, ways, inner_ways}
use Rattle.f77_flow.specs.Labels.{target}
use Rattle.f77_semantics.specs.Program as program
use Rattle.f77_semantics.specs.Program.{Term, Text, Terms, End, ◌and◌, Statement, Do, Stop, Return, Routine}
use Rattle.f77_semantics.specs.declared.storage.Base.{Base}
use Rattle.f77_semantics.specs.declared.storage.Base.TheVariants.{Common, Dummy, Own}
use Rattle.f77_semantics.specs.Terms as names
use Rattle.f77_semantics.specs.Terms.{Meant, Resolved, sites_in, term_from, sites_of, terms_of, resolved}
use Rattle.f77_semantics.specs.Resolve.{loop, optional, simple, statement_of}
use Rattle.f77_semantics.specs.Effects.{DummyItem, LocalItem, CommonItem, Item, Items, Effects, HasAll, ScalarOk, TermOk, ItemsOk, TargetOk, TargetsOk, StepOk, IsStatement, PointOk, ResultOk, StatementOk, InnerOk}
use Rattle.f77_semantics.specs.Sites.{FunctionsAgree}
use Rattle.f77_semantics.specs.Source.{is_main, routine}
use Rattle.f77_semantics.proofs.Trees.{layer}
use Rattle.f77_semantics.proofs.Sites.{counted}
use Rattle.prog_texts.specs.declared.mentions.Mention.{Mention}
use Rattle.prog_texts.specs.Mentions as said
use Rattle.prog_texts.specs.Mentions.{actual, is_procedure}
use Rattle.sound_units.specs.Sites.{Each, site_at, Part, calls, calls_in, calls_optional, calls_of}
use Rattle.sound_units.specs.Texts.{has_text, item_has, item_has_text, optional_text, form_text_step, form_has_text, return_step, returns_in, is_action, guards_action}
use Rattle.sound_units.specs.Checked.{passing, IsUse, AllChecked, NameFits, StandsFor, ValueOk}
use Rattle.sound_units.specs.Units.{meant_of, filled, passed, effects, actuals_at, type_at}
use Rattle.sound_units.proofs.Lists.{or_left, or_right, any-map, any-append, long-append, each_left, each_right, each_all, part_left, part_right, part_first, part_rest, site_within}
use Rattle.sound_units.proofs.Terms.{SiteFits, Sited, AllSited, Fit, AllFit, as_typed, Good, members, actuals_of, counts_of, term_fits, TargetFit, target_fits}
use Rattle.sound_units.proofs.Opening.{opens}

-- ---- items

module _ (S : Effects) where
  as_item : (ty : Ty) (t : Term) → TermOk S ty t → ItemsOk S (t and End)
  as_item ty (Text bs) h = absurd h
  as_item ty t h = ((ty, h), tt)

  before_items : (t : Term) (ts : Terms) → ItemsOk S (t and End) → ItemsOk S ts → ItemsOk S (t and ts)
  before_items (Text bs) ts h k = k
  before_items t ts h k = (h.0, k)

empty_long : (n : ℕ) → length (replicate n End) ≡ n
empty_long zero = refl
empty_long (suc n) = ap suc (empty_long n)

filled_long : (n : ℕ) (all : List Terms) → length all ≡ n → length (filled n all) ≡ n
filled_long n [] h = empty_long n
filled_long n (es ∷ all) h = h

pub unfilled : (table : List Terms) (s n : ℕ) (all : List Terms) → Part table s (filled n all) → Part table s all
unfilled table s n [] h = λ i x e. cc
unfilled table s n (es ∷ all) h = h

-- a set of all items has those of each name
pub everything : (S : Items) → ((item : Item) → S item ≡ true) → (b : Base) (n : ℕ) → HasAll S b n
everything S all (Dummy k) n = all (DummyItem k)
everything S all (Own from) n = λ k small. all (LocalItem (from + k))
everything S all (Common b from) n = λ k small. all (CommonItem b (from + k))

pub all_used : (u : SourceUnit) (b : Base) (n : ℕ) → HasAll (effects u).used b n
all_used u = everything (effects u).used (λ item. refl)

pub all_assigned : (u : SourceUnit) (b : Base) (n : ℕ) → HasAll (effects u).assigned b n
all_assigned u = everything (effects u).assigned (λ item. refl)

pub site_fits : (u : SourceUnit) (s : ℕ) (name : Name) (es : Terms) → site_at (callees u) s ≡ Some name → site_at (passed u) s ≡ Some es → SiteFits (facts u) (effects u) s name es
site_fits u s name es h k = record { type_is = ap (type_at (facts u)) h; has = site_within (callees u) s name h; passes = ap actuals_at k }

module _ (u : SourceUnit) (named : Told Value) (line : ℕ)
    (agree : FunctionsAgree (facts u) (meant_of u))
    (known : (name : Name) (v : Value) → what named name ≡ Some v → meant_of u name ≡ names.Constant v)
    (result : is_main u.kind ≡ false → ResultOk (effects u) (routine u).result) where
  abbrev f : Facts
  f = facts u

  abbrev meant : Name → Meant
  meant = meant_of u

  abbrev S : Effects
  S = effects u

  abbrev R : Routine
  R = routine u

  abbrev ss : List Stmt
  ss = u.statements

  abbrev calling : List Name
  calling = callees u

  abbrev passing_on : List Terms
  passing_on = passed u

  abbrev main : Bool
  main = is_main u.kind

  abbrev looked : Expr → Resolved
  looked e = resolved meant e

  abbrev sites_at : Expr → ℕ
  sites_at e = sites_in (looked e)

  abbrev terms_at : ℕ → List Expr → Terms
  terms_at s es = terms_of (map (resolved meant) es) s

  abbrev Fine : Occurrence → Type 0
  Fine o = NameFits f meant S o

  abbrev Placed : ℕ → Expr → Type 0
  Placed s e = Sited f named line meant S calling passing_on agree known (all_used u) (all_assigned u) (site_fits u) s e

  abbrev AllPlaced : ℕ → List Expr → Type 0
  AllPlaced s es = AllSited f named line meant S calling passing_on agree known (all_used u) (all_assigned u) (site_fits u) s es

  abbrev FitAt : Place → ℕ → Expr → Type 0
  FitAt p s e = Fit f named line meant S calling passing_on agree known (all_used u) (all_assigned u) (site_fits u) p s (resolved meant e)

  abbrev AllFitAt : Place → ℕ → List Expr → Type 0
  AllFitAt p s es = AllFit f named line meant S calling passing_on agree known (all_used u) (all_assigned u) (site_fits u) p s es

  abbrev TargetAt : ℕ → Expr → Type 0
  TargetAt s e = TargetFit f named line meant S calling passing_on agree known (all_used u) (all_assigned u) (site_fits u) s (resolved meant e)

  all_good : (es : List Expr) (p : Place) (s : ℕ) → IsUse p → AllChecked f named line p es → AllPlaced s es → AllFitAt p s es
  all_good es p s at c d = members f named line meant S calling passing_on agree known (all_used u) (all_assigned u) (site_fits u) es
      (each_all (Good f named line meant S calling passing_on agree known (all_used u) (all_assigned u) (site_fits u)) (term_fits f named line meant S calling passing_on agree known (all_used u) (all_assigned u) (site_fits u)) es) p s at c d

  -- ---- where parts stand in the tables

  -- some names and what is passed among them, from a site on
  pub record Stands (s : ℕ) (a : Occurrences) (xs : List Terms) : Type 0 where
    pub occurs : Each (NameFits (facts u) (meant_of u) (effects u)) a
    pub called : Part (callees u) s (callees_with (facts u) a)
    pub passes : Part (passed u) s xs

  joined : (a b : Occurrences) → callees_with f (a ++ b) ≡ callees_with f a ++ callees_with f b
  joined a b = flat_map-append (callee f.attributes) a b

  first_stands : (s : ℕ) (a b : Occurrences) (xs ys : List Terms) → Stands s (a ++ b) (xs ++ ys) → Stands s a xs
  first_stands s a b xs ys d = record {
    occurs = each_left Fine a b d.occurs;
    called = part_left calling s (callees_with f a) (callees_with f b) (subst (Part calling s) (joined a b) d.called);
    passes = part_left passing_on s xs ys d.passes;
  }

  rest_stands : (n s : ℕ) (a b : Occurrences) (xs ys : List Terms) → length (callees_with f a) ≡ n → length xs ≡ n → Stands s (a ++ b) (xs ++ ys) → Stands (s + n) b ys
  rest_stands n s a b xs ys h k d = record {
    occurs = each_right Fine a b d.occurs;
    called = part_right calling s n (callees_with f a) (callees_with f b) h (subst (Part calling s) (joined a b) d.called);
    passes = part_right passing_on s n xs ys k d.passes;
  }

  placed : (s : ℕ) (e : Expr) → Stands s (in_expr e) (calls (term_from s (resolved meant e))) → Placed s e
  placed s e d = record { occurs = d.occurs; called = d.called; passes = d.passes }

  all_placed : (s : ℕ) (es : List Expr) → Stands s (flat_map in_expr es) (calls_in (terms_of (map (resolved meant) es) s)) → AllPlaced s es
  all_placed s es d = record { occurs = d.occurs; called = d.called; passes = d.passes }

  callees_of : (e : Expr) → length (callees_with f (in_expr e)) ≡ sites_at e
  callees_of e = sym (counted f meant agree e)

  callees_in : (es : List Expr) → length (callees_with f (flat_map in_expr es)) ≡ sites_of (map (resolved meant) es)
  callees_in [] = refl
  callees_in (e ∷ es) = ap length (joined (in_expr e) (flat_map in_expr es)) ∙ (long-append (callees_with f (in_expr e)) (callees_with f (flat_map in_expr es))
      ∙ (ap (λ n. n + length (callees_with f (flat_map in_expr es))) (callees_of e) ∙ ap (λ n. sites_at e + n) (callees_in es)))

  -- as many actuals as callees
  abbrev Even : List Terms → Occurrences → Type 0
  Even xs a = length xs ≡ length (callees_with f a)

  even_both : (xs ys : List Terms) (a b : Occurrences) → Even xs a → Even ys b → Even (xs ++ ys) (a ++ b)
  even_both xs ys a b h k =
      long-append xs ys ∙ (ap (λ n. n + length ys) h ∙ (ap (λ n. length (callees_with f a) + n) k
      ∙ (sym (long-append (callees_with f a) (callees_with f b)) ∙ sym (ap length (joined a b)))))

  -- ---- expressions in statements

  record Valuable (w : Option Ty) (s : ℕ) (e : Expr) : Type 0 where
    value : ValueOk S w (term_from s (resolved meant e))
    long : length (calls (term_from s (resolved meant e))) ≡ sites_in (resolved meant e)
    even : length (calls (term_from s (resolved meant e))) ≡ length (callees_with (facts u) (in_expr e))

  valued : (w : Option Ty) (s : ℕ) (e : Expr) → is_mistyped f (Valued w) e ≡ false → is_misplaced f (Valued w) e ≡ false → has_wrong_exponent named e ≡ false → has_text e ≡ false → list_any passing (said.in_expr f line e) ≡ false
      → Stands s (in_expr e) (calls (term_from s (resolved meant e))) → Valuable w s e
  valued w s e a b c d g h =
      let fit : FitAt (Valued w) s e = term_fits f named line meant S calling passing_on agree known (all_used u) (all_assigned u) (site_fits u) e (Valued w) s tt (record { typed = a; placed = b; exponents = c; texts = d; procedures = g; unpassed = tt }) (placed s e h) in
      record { value = fit.fits; long = fit.counts; even = fit.counts ∙ sym (callees_of e) }

  -- a term of this type
  typed_term : (ty : Ty) (s : ℕ) (e : Expr) → Valuable (Some ty) s e → TermOk S ty (term_from s (resolved meant e))
  typed_term ty s e v = as_typed S ty (term_from s (resolved meant e)) v.value

  record Targeted (s : ℕ) (e : Expr) : Type 0 where
    fits : TargetOk S (term_from s (resolved meant e))
    long : length (calls (term_from s (resolved meant e))) ≡ sites_in (resolved meant e)
    even : length (calls (term_from s (resolved meant e))) ≡ length (callees_with (facts u) (in_expr e))

  -- what the rules found of a target
  record TargetChecked (ty : Option Ty) (e : Expr) : Type 0 where
    types : target_breaks f f.constants Types ty e ≡ false
    scalars : target_breaks f f.constants Scalars ty e ≡ false
    targets : target_breaks f f.constants Targets ty e ≡ false
    exponents : target_breaks f named Exponents ty e ≡ false
    texts : has_text e ≡ false
    procedures : list_any passing (said.in_expr f line e) ≡ false

  targeted : (ty : Option Ty) (s : ℕ) (e : Expr) → TargetChecked ty e → Stands s (in_expr e) (calls (term_from s (resolved meant e))) → Targeted s e
  targeted ty s e c h =
      let fit : TargetAt s e = target_fits f named line meant S calling passing_on agree known (all_used u) (all_assigned u) (site_fits u) e s (or_left (is_no_variable f e) false c.targets) (record {
        typed = or_right (differs ty (target_type f e)) _ c.types;
        placed = or_right (is_no_element f e) _ c.scalars;
        exponents = c.exponents;
        texts = c.texts;
        procedures = c.procedures;
        unpassed = tt;
      }) (placed s e h) in
      record { fits = fit.fits; long = fit.counts; even = fit.counts ∙ sym (callees_of e) }

  -- ---- lists in statements

  record AllTargetsChecked (ty : Option Ty) (es : List Expr) : Type 0 where
    types : list_any (target_breaks f f.constants Types ty) es ≡ false
    scalars : list_any (target_breaks f f.constants Scalars ty) es ≡ false
    targets : list_any (target_breaks f f.constants Targets ty) es ≡ false
    exponents : list_any (target_breaks f named Exponents ty) es ≡ false
    texts : list_any has_text es ≡ false
    procedures : list_any passing (flat_map (said.in_expr f line) es) ≡ false

  says_both : (e : Expr) (es : List Expr) → list_any passing (flat_map (said.in_expr f line) (e ∷ es)) ≡ false → (list_any passing (said.in_expr f line e) || list_any passing (flat_map (said.in_expr f line) es)) ≡ false
  says_both e es h = sym (any-append passing (said.in_expr f line e) (flat_map (said.in_expr f line) es)) ∙ h

  record TargetsFit (s : ℕ) (es : List Expr) : Type 0 where
    fits : TargetsOk S (terms_of (map (resolved meant) es) s)
    even : length (calls_in (terms_of (map (resolved meant) es) s)) ≡ length (callees_with (facts u) (flat_map in_expr es))

  targets_fit : (ty : Option Ty) (es : List Expr) (s : ℕ) → AllTargetsChecked ty es → Stands s (flat_map in_expr es) (calls_in (terms_of (map (resolved meant) es) s)) → TargetsFit s es
  targets_fit ty [] s c d = record { fits = tt; even = refl }
  targets_fit ty (e ∷ es) s c d =
      let rest : Occurrences = flat_map in_expr es in
      let others : List Terms = calls_in (terms_at (s + sites_at e) es) in
      let one : Targeted s e = targeted ty s e (record {
        types = or_left _ (list_any (target_breaks f f.constants Types ty) es) c.types;
        scalars = or_left _ (list_any (target_breaks f f.constants Scalars ty) es) c.scalars;
        targets = or_left _ (list_any (target_breaks f f.constants Targets ty) es) c.targets;
        exponents = or_left _ (list_any (target_breaks f named Exponents ty) es) c.exponents;
        texts = or_left _ (list_any has_text es) c.texts;
        procedures = or_left _ (list_any passing (flat_map (said.in_expr f line) es)) (says_both e es c.procedures);
      }) (first_stands s (in_expr e) rest (calls (term_from s (looked e))) others d) in
      let more : TargetsFit (s + sites_at e) es = targets_fit ty es (s + sites_at e) (record {
        types = or_right (target_breaks f f.constants Types ty e) _ c.types;
        scalars = or_right (target_breaks f f.constants Scalars ty e) _ c.scalars;
        targets = or_right (target_breaks f f.constants Targets ty e) _ c.targets;
        exponents = or_right (target_breaks f named Exponents ty e) _ c.exponents;
        texts = or_right (has_text e) _ c.texts;
        procedures = or_right (list_any passing (said.in_expr f line e)) _ (says_both e es c.procedures);
      }) (rest_stands (sites_at e) s (in_expr e) rest (calls (term_from s (looked e))) others (callees_of e) one.long d) in
      record { fits = (one.fits, more.fits); even = even_both (calls (term_from s (looked e))) others (in_expr e) rest one.even more.even }

  -- items of PRINT
  record ItemFits (s : ℕ) (r : Resolved) : Type 0 where
    fits : ItemsOk S (term_from s r and End)
    long : length (calls (term_from s r)) ≡ sites_in r

  record ItemChecked (e : Expr) : Type 0 where
    typed : is_mistyped f (Valued None) e ≡ false
    placed : is_misplaced f (Valued None) e ≡ false
    exponents : has_wrong_exponent named e ≡ false
    texts : item_has_text e ≡ false
    procedures : list_any passing (said.in_expr f line e) ≡ false

  abbrev GoodItem : Expr → Type 0
  GoodItem e = (s : ℕ) → ItemChecked e → Stands s (in_expr e) (calls (term_from s (resolved meant e))) → ItemFits s (resolved meant e)

  valued_item : (s : ℕ) (e : Expr) → has_text e ≡ false → ItemChecked e → Stands s (in_expr e) (calls (term_from s (resolved meant e))) → ItemFits s (resolved meant e)
  valued_item s e n c d =
      let v : Valuable None s e = valued None s e c.typed c.placed c.exponents n c.procedures d in
      record { fits = as_item S v.value.ty (term_from s (looked e)) v.value.fits; long = v.long }

  item_at : (x : Expr-F Expr) → GoodItem (roll-Expr x)
  item_at x s c d = go x (sym (ap (λ y. item_has y (has_text (roll-Expr x))) (out-roll-Expr x)) ∙ c.texts) c d
    where
      go : (x : Expr-F Expr) → item_has x (has_text (roll-Expr x)) ≡ false → ItemChecked (roll-Expr x) → Stands s (in_expr (roll-Expr x)) (calls (term_from s (resolved meant (roll-Expr x)))) → ItemFits s (resolved meant (roll-Expr x))
      go (Expr-F.Text bytes) h c d = subst (λ r. ItemFits s r) (sym (layer meant (Expr-F.Text bytes))) (record { fits = tt; long = refl })
      go x h c d = valued_item s (roll-Expr x) h c d

  good_items : (e : Expr) → GoodItem e
  good_items = ind-Expr GoodItem (λ x y is. item_at x)

  record AllItemsChecked (es : List Expr) : Type 0 where
    typed : list_any (is_mistyped f (Valued None)) es ≡ false
    placed : list_any (is_misplaced f (Valued None)) es ≡ false
    exponents : list_any (has_wrong_exponent named) es ≡ false
    texts : list_any item_has_text es ≡ false
    procedures : list_any passing (flat_map (said.in_expr f line) es) ≡ false

  record ItemsFit (s : ℕ) (es : List Expr) : Type 0 where
    fits : ItemsOk S (terms_of (map (resolved meant) es) s)
    even : length (calls_in (terms_of (map (resolved meant) es) s)) ≡ length (callees_with (facts u) (flat_map in_expr es))

  items_fit : (es : List Expr) (s : ℕ) → AllItemsChecked es → Stands s (flat_map in_expr es) (calls_in (terms_of (map (resolved meant) es) s)) → ItemsFit s es
  items_fit [] s c d = record { fits = tt; even = refl }
  items_fit (e ∷ es) s c d =
      let rest : Occurrences = flat_map in_expr es in
      let others : List Terms = calls_in (terms_at (s + sites_at e) es) in
      let one : ItemFits s (looked e) = good_items e s (record {
        typed = or_left _ (list_any (is_mistyped f (Valued None)) es) c.typed;
        placed = or_left _ (list_any (is_misplaced f (Valued None)) es) c.placed;
        exponents = or_left _ (list_any (has_wrong_exponent named) es) c.exponents;
        texts = or_left _ (list_any item_has_text es) c.texts;
        procedures = or_left _ (list_any passing (flat_map (said.in_expr f line) es)) (says_both e es c.procedures);
      }) (first_stands s (in_expr e) rest (calls (term_from s (looked e))) others d) in
      let more : ItemsFit (s + sites_at e) es = items_fit es (s + sites_at e) (record {
        typed = or_right (is_mistyped f (Valued None) e) _ c.typed;
        placed = or_right (is_misplaced f (Valued None) e) _ c.placed;
        exponents = or_right (has_wrong_exponent named e) _ c.exponents;
        texts = or_right (item_has_text e) _ c.texts;
        procedures = or_right (list_any passing (said.in_expr f line e)) _ (says_both e es c.procedures);
      }) (rest_stands (sites_at e) s (in_expr e) rest (calls (term_from s (looked e))) others (callees_of e) one.long d) in
      record { fits = before_items S (term_from s (looked e)) (terms_at (s + sites_at e) es) one.fits more.fits; even = even_both (calls (term_from s (looked e))) others (in_expr e) rest (one.long ∙ sym (callees_of e)) more.even }

  -- ---- statements that may stand in a logical IF

  abbrev pub breaks_at : Rule → Told Value → Form-F Form → Bool
  breaks_at rule named F = form_step (facts u) named rule (map-Form Form Bool (form_breaks (facts u) named rule) F)

  abbrev pub occurs_at : Form-F Form → Occurrences
  occurs_at F = occurring.form_step (map-Form Form Occurrences occurring.in_form F)

  -- Exponents in a PARAMETER statement are looked at one by one, and no run comes to them.
  abbrev pub Exponential : Form-F Form → Type 0
  Exponential (Form-F.Parameter all) = Unit {0}
  Exponential F = breaks_at Exponents named F ≡ false

  exponential : (F : Form-F Form) → breaks_at Exponents named F ≡ false → Exponential F
  exponential (Form-F.Parameter all) h = tt
  exponential F h = h

  -- what the rules found of a statement
  pub record FormChecked (F : Form-F Form) : Type 0 where
    pub types : breaks_at Types (facts u).constants F ≡ false
    pub scalars : breaks_at Scalars (facts u).constants F ≡ false
    pub targets : breaks_at Targets (facts u).constants F ≡ false
    pub exponents : Exponential F
    pub texts : form_text_step (map-Form Form Bool form_has_text F) ≡ false
    pub procedures : list_any passing (said.form_step (facts u) line (map-Form Form (List Mention) (said.in_form (facts u) line) F)) ≡ false
    pub returns : (is_main u.kind && return_step (map-Form Form Bool returns_in F)) ≡ false
    pub guards : guards_action F ≡ true

  record SimpleFit (k : ℕ) (a : Occurrences) (t : Statement) : Type 0 where
    ok : StatementOk (routine u) (effects u) k t
    counts : length (filled (length (callees_with (facts u) a)) (calls_of t)) ≡ length (callees_with (facts u) a)
    even : IsStatement t → length (calls_of t) ≡ length (callees_with (facts u) a)

  abbrev simply : ℕ → Form-F Form → Statement
  simply s F = simple meant main (target ss) s F

  abbrev AllPoints : List Point → Type 0
  AllPoints ps = Each (PointOk R) ps

  as_many : (a : Occurrences) (xs : List Terms) → Even xs a → length (filled (length (callees_with f a)) xs) ≡ length (callees_with f a)
  as_many a xs h = filled_long (length (callees_with f a)) xs h

  simple_of : (k : ℕ) (a : Occurrences) (t : Statement) → StatementOk R S k t → Even (calls_of t) a → SimpleFit k a t
  simple_of k a t h e = record { ok = h; counts = as_many a (calls_of t) e; even = λ is. e }

  assign_fit : (k s : ℕ) (t e : Expr) → FormChecked (Form-F.Assign t e) → Stands s (in_expr t ++ in_expr e) (calls (term_from s (looked t)) ++ calls (term_from (s + sites_at t) (looked e))) → PointOk R (after ss k)
      → SimpleFit k (in_expr t ++ in_expr e) (simply s (Form-F.Assign t e))
  assign_fit k s t e c d p =
      let xs : List Terms = calls (term_from s (looked t)) in
      let ys : List Terms = calls (term_from (s + sites_at t) (looked e)) in
      let says : (list_any passing (said.in_expr f line t) || list_any passing (said.in_expr f line e)) ≡ false = sym (any-append passing (said.in_expr f line t) (said.in_expr f line e)) ∙ c.procedures in
      let to : Targeted s t = targeted None s t (record {
        types = or_left (target_breaks f f.constants Types None t) _ c.types;
        scalars = or_left (target_breaks f f.constants Scalars None t) _ c.scalars;
        targets = or_left (target_breaks f f.constants Targets None t) _ c.targets;
        exponents = or_left (target_breaks f named Exponents None t) _ c.exponents;
        texts = or_left _ (has_text e) c.texts;
        procedures = or_left _ (list_any passing (said.in_expr f line e)) says;
      }) (first_stands s (in_expr t) (in_expr e) xs ys d) in
      let from : Valuable (target_type f t) (s + sites_at t) e = valued (target_type f t) (s + sites_at t) e
      (or_right (target_breaks f f.constants Types None t) _ c.types) (or_right (target_breaks f f.constants Scalars None t) _ c.scalars) (or_right (target_breaks f named Exponents None t) _ c.exponents)
      (or_right (has_text t) _ c.texts) (or_right (list_any passing (said.in_expr f line t)) _ says) (rest_stands (sites_at t) s (in_expr t) (in_expr e) xs ys (callees_of t) to.long d) in
      simple_of k (in_expr t ++ in_expr e) (simply s (Form-F.Assign t e)) (to.fits, (from.value.ty, from.value.fits), p) (even_both xs ys (in_expr t) (in_expr e) to.even from.even)

  integer_at : (s : ℕ) (e : Expr) → is_mistyped f (Valued (Some types.Integer)) e ≡ false → is_misplaced f (Valued (Some types.Integer)) e ≡ false → has_wrong_exponent named e ≡ false → has_text e ≡ false → list_any passing (said.in_expr f line e) ≡ false
      → Stands s (in_expr e) (calls (term_from s (resolved meant e))) → Valuable (Some types.Integer) s e
  integer_at s e a b c d g h = valued (Some types.Integer) s e a b c d g h

  jumps_at : (labels : List ℕ) → AllPoints (map (λ label. At (target ss label)) labels) → (j l : ℕ) → slice_get (map (target ss) labels) j ≡ Some l → PointOk R (At l)
  jumps_at [] h j l e = cc
  jumps_at (label ∷ labels) h zero l e = let same : target ss label ≡ l = cc in subst (λ l. PointOk R (At l)) same h.0
  jumps_at (label ∷ labels) h (suc j) l e = jumps_at labels h.1 j l e

  call_fit : (k s : ℕ) (name : Name) (es : List Expr) → FormChecked (Form-F.Call name es) → Stands s (occurs_at (Form-F.Call name es)) (calls_of (simply s (Form-F.Call name es))) → PointOk R (after ss k)
      → SimpleFit k (occurs_at (Form-F.Call name es)) (simply s (Form-F.Call name es))
  call_fit k s name es c d p =
      let inside : Occurrences = flat_map in_expr es in
      let list : Terms = terms_at (suc s) es in
      let says : (list_any passing (said.call f line name es) || list_any passing (flat_map (said.in_expr f line) es)) ≡ false = sym (any-append passing (said.call f line name es) (flat_map (said.in_expr f line) es)) ∙ c.procedures in
      let site_says : list_any passing (said.call f line name es) ≡ false = or_left _ (list_any passing (flat_map (said.in_expr f line) es)) says in
      let checked : AllChecked f named line Actual es = record {
        typed = c.types;
        placed = c.scalars;
        exponents = c.exponents;
        texts = c.texts;
        procedures = or_right (list_any passing (said.call f line name es)) _ says;
        unpassed = sym (any-map (λ a. a.is_procedure) (actual f) es) ∙ or_left (list_any (λ a. a.is_procedure) (map (actual f) es)) _ site_says;
      } in
      let fit : AllFitAt Actual (suc s) es = all_good es Actual (suc s) tt checked (all_placed (suc s) es (record {
        occurs = d.occurs.1;
        called = part_rest calling s name (callees_with f inside) d.called;
        passes = part_rest passing_on s list (calls_in list) d.passes;
      })) in
      let site : SiteFits f S s name list = site_fits u s name list (part_first calling s name (callees_with f inside) d.called) (part_first passing_on s list (calls_in list) d.passes) in
      simple_of k (occurs_at (Form-F.Call name es)) (simply s (Form-F.Call name es))
      (site.has, site.passes, actuals_of f named line meant S calling passing_on agree known (all_used u) (all_assigned u) (site_fits u) es (suc s) fit, p)
      (ap suc (counts_of f named line meant S calling passing_on agree known (all_used u) (all_assigned u) (site_fits u) Actual es (suc s) fit ∙ sym (callees_in es)))

  end_fit : (k : ℕ) (b : Bool) → is_main u.kind ≡ b → SimpleFit k [] (if b then Stop else Return)
  end_fit k true e = simple_of k [] Stop tt refl
  end_fit k false e = simple_of k [] Return (ap not e, result e) refl

  no_main : (b : Bool) → (b && true) ≡ false → b ≡ false
  no_main true h = h
  no_main false h = refl

  simple_fit : (k s : ℕ) (F : Form-F Form) → FormChecked F → Stands s (occurs_at F) (calls_of (simply s F)) → AllPoints (simple_ways ss k F) → SimpleFit k (occurs_at F) (simply s F)
  simple_fit k s (Form-F.Assign t e) c d w = assign_fit k s t e c d w.0
  simple_fit k s (Form-F.ArithmeticIf e x y z) c d w =
      let v = integer_at s e c.types c.scalars c.exponents c.texts c.procedures d in
      simple_of k (in_expr e) (simply s (Form-F.ArithmeticIf e x y z)) (typed_term types.Integer s e v, w.0, w.1.0, w.1.1.0) v.even
  simple_fit k s (Form-F.GoTo label) c d w = simple_of k [] (simply s (Form-F.GoTo label)) w.0 refl
  simple_fit k s (Form-F.ComputedGoTo labels e) c d w =
      let v = integer_at s e c.types c.scalars c.exponents c.texts c.procedures d in
      let to : List Point = map (λ label. At (target ss label)) labels in
      simple_of k (in_expr e) (simply s (Form-F.ComputedGoTo labels e)) (typed_term types.Integer s e v, (each_right (PointOk R) to (after ss k ∷ []) w).0, jumps_at labels (each_left (PointOk R) to (after ss k ∷ []) w)) v.even
  simple_fit k s Form-F.Continue c d w = simple_of k [] (simply s Form-F.Continue) w.0 refl
  simple_fit k s Form-F.Return c d w = let h : main ≡ false = no_main main c.returns in simple_of k [] Return (ap not h, result h) refl
  simple_fit k s Form-F.End c d w = end_fit k main refl
  simple_fit k s Form-F.Stop c d w = simple_of k [] Stop tt refl
  simple_fit k s (Form-F.Call name es) c d w = call_fit k s name es c d w.0
  simple_fit k s (Form-F.Print es) c d w =
      let fit : ItemsFit s es = items_fit es s (record { typed = c.types; placed = c.scalars; exponents = c.exponents; texts = c.texts; procedures = c.procedures }) d in
      simple_of k (flat_map in_expr es) (simply s (Form-F.Print es)) (fit.fits, w.0) fit.even
  simple_fit k s (Form-F.Read es) c d w =
      let fit : TargetsFit s es = targets_fit (Some types.Integer) es s (record { types = c.types; scalars = c.scalars; targets = c.targets; exponents = c.exponents; texts = c.texts; procedures = c.procedures }) d in
      simple_of k (flat_map in_expr es) (simply s (Form-F.Read es)) (fit.fits, w.0) fit.even
  simple_fit k s F c d w = record { ok = tt; counts = empty_long (length (callees_with f (occurs_at F))); even = λ is. absurd is }

  -- ---- all statements

  pub record WholeFit (k : ℕ) (a : Occurrences) (t : Statement) : Type 0 where
    pub ok : StatementOk (routine u) (effects u) k t
    pub inner : InnerOk (routine u) (effects u) k t
    pub counts : length (filled (length (callees_with (facts u) a)) (calls_of t)) ≡ length (callees_with (facts u) a)

  -- what a logical IF has for its statement is one
  action_is : (s : ℕ) (F : Form-F Form) → is_action F ≡ true → IsStatement (simply s F)
  action_is s (Form-F.Assign t e) h = tt
  action_is s (Form-F.ArithmeticIf e x y z) h = tt
  action_is s (Form-F.GoTo label) h = tt
  action_is s (Form-F.ComputedGoTo labels e) h = tt
  action_is s Form-F.Continue h = tt
  action_is s Form-F.Return h = tt
  action_is s Form-F.Stop h = tt
  action_is s (Form-F.Call name es) h = tt
  action_is s (Form-F.Print es) h = tt
  action_is s (Form-F.Read es) h = tt
  action_is s F h = cc

  action_guards : (F : Form-F Form) → is_action F ≡ true → guards_action F ≡ true
  action_guards (Form-F.LogicalIf e i) h = cc
  action_guards F h = refl

  truth_at : (s : ℕ) (e : Expr) → is_mistyped f (Valued (Some types.Logical)) e ≡ false → is_misplaced f (Valued (Some types.Logical)) e ≡ false → has_wrong_exponent named e ≡ false → has_text e ≡ false → list_any passing (said.in_expr f line e) ≡ false
      → Stands s (in_expr e) (calls (term_from s (resolved meant e))) → Valuable (Some types.Logical) s e
  truth_at s e a b c d g h = valued (Some types.Logical) s e a b c d g h

  guarded_fit : (k s : ℕ) (e : Expr) (i : Form) → FormChecked (Form-F.LogicalIf e i) → Stands s (in_expr e ++ occurring.in_form i) (calls (term_from s (looked e)) ++ calls_of (simply (s + sites_at e) (out-Form i)))
      → PointOk R (Inside k) → PointOk R (after ss k) → AllPoints (simple_ways ss k (out-Form i)) → WholeFit k (in_expr e ++ occurring.in_form i) (program.LogicalIf (term_from s (looked e)) (simply (s + sites_at e) (out-Form i)))
  guarded_fit k s e i c d inside p w =
      let G : Form-F Form = out-Form i in
      let xs : List Terms = calls (term_from s (looked e)) in
      let t : Statement = simply (s + sites_at e) G in
      let says : (list_any passing (said.in_expr f line e) || list_any passing (said.in_form f line i)) ≡ false = sym (any-append passing (said.in_expr f line e) (said.in_form f line i)) ∙ c.procedures in
      let v = truth_at s e (or_left _ (form_breaks f f.constants Types i) c.types) (or_left _ (form_breaks f f.constants Scalars i) c.scalars) (or_left _ (form_breaks f named Exponents i) c.exponents) (or_left _ (form_has_text i) c.texts) (or_left _ (list_any passing (said.in_form f line i)) says)
      (first_stands s (in_expr e) (occurring.in_form i) xs (calls_of t) d) in
      let checked : FormChecked G = record {
        types = sym (opens (form_step f f.constants Types) i) ∙ or_right (is_mistyped f (Valued (Some types.Logical)) e) _ c.types;
        scalars = sym (opens (form_step f f.constants Scalars) i) ∙ or_right (is_misplaced f (Valued (Some types.Logical)) e) _ c.scalars;
        targets = sym (opens (form_step f f.constants Targets) i) ∙ c.targets;
        exponents = exponential G (sym (opens (form_step f named Exponents) i) ∙ or_right (has_wrong_exponent named e) _ c.exponents);
        texts = sym (opens form_text_step i) ∙ or_right (has_text e) _ c.texts;
        procedures = sym (ap (list_any passing) (opens (said.form_step f line) i)) ∙ or_right (list_any passing (said.in_expr f line e)) _ says;
        returns = sym (ap (λ b. main && b) (opens return_step i)) ∙ c.returns;
        guards = action_guards G c.guards;
      } in
      let there : Stands (s + sites_at e) (occurring.in_form i) (calls_of t) = rest_stands (sites_at e) s (in_expr e) (occurring.in_form i) xs (calls_of t) (callees_of e) v.long d in
      let fit : SimpleFit k (occurs_at G) t = simple_fit k (s + sites_at e) G checked (subst (λ a. Stands (s + sites_at e) a (calls_of t)) (opens occurring.form_step i) there) w in
      record {
        ok = (typed_term types.Logical s e v, p, inside);
        inner = (fit.ok, action_is (s + sites_at e) G c.guards);
        counts = as_many (in_expr e ++ occurring.in_form i) (xs ++ calls_of t) (even_both xs (calls_of t) (in_expr e) (occurring.in_form i) v.even (fit.even (action_is (s + sites_at e) G c.guards) ∙ ap (λ a. length (callees_with f a)) (sym (opens occurring.form_step i))));
      }

  whole_of : (k : ℕ) (a : Occurrences) (t : Statement) → StatementOk R S k t → InnerOk R S k t → Even (calls_of t) a → WholeFit k a t
  whole_of k a t h i e = record { ok = h; inner = i; counts = as_many a (calls_of t) e }

  -- ---- DO

  optional_fit : (s : ℕ) (c : Option Expr) → optional_breaks f f.constants Types (Valued (Some types.Integer)) c ≡ false → optional_breaks f f.constants Scalars (Valued (Some types.Integer)) c ≡ false → optional_breaks f named Exponents (Valued (Some types.Integer)) c ≡ false
      → optional_text c ≡ false → list_any passing (said.in_optional f line c) ≡ false → Stands s (in_optional c) (calls_optional (optional meant c s)) → StepOk S (optional meant c s) × (length (calls_optional (optional meant c s)) ≡ length (callees_with f (in_optional c)))
  optional_fit s None a b x d g h = (tt, refl)
  optional_fit s (Some e) a b x d g h = let v = integer_at s e a b x d g h in (typed_term types.Integer s e v, v.even)

  -- what stands below a DO, and where it is left
  abbrev Tested : ℕ → Type 0
  Tested k = PointOk R (Test k) × PointOk R (At (below ss k)) × PointOk R (leaving ss k)

  do_terms : (k s : ℕ) (a b : Expr) (c : Option Expr) (m : Meant) (base : Base) (ty : Ty) → m ≡ names.Variable ty base → ScalarOk S base → Valuable (Some types.Integer) s a → Valuable (Some types.Integer) (s + sites_at a) b
      → StepOk S (optional meant c (s + (sites_at a + sites_at b))) × (length (calls_optional (optional meant c (s + (sites_at a + sites_at b)))) ≡ length (callees_with f (in_optional c))) → Tested k
      → WholeFit k (in_expr a ++ (in_expr b ++ in_optional c)) (loop m (term_from s (looked a)) (term_from (s + sites_at a) (looked b)) (optional meant c (s + (sites_at a + sites_at b))))
  do_terms k s a b c m base ty is ok x y z w =
      let e1 : Term = term_from s (looked a) in
      let e2 : Term = term_from (s + sites_at a) (looked b) in
      let e3 : Option Term = optional meant c (s + (sites_at a + sites_at b)) in
      subst (λ m. WholeFit k (in_expr a ++ (in_expr b ++ in_optional c)) (loop m e1 e2 e3)) (sym is)
      (whole_of k (in_expr a ++ (in_expr b ++ in_optional c)) (Do base e1 e2 e3)
      (ok, all_assigned u base 1, all_used u base 1, typed_term types.Integer s a x, typed_term types.Integer (s + sites_at a) b y, z.0, w.0, w.1, w.2) tt
      (even_both (calls e1) (calls e2 ++ calls_optional e3) (in_expr a) (in_expr b ++ in_optional c) x.even (even_both (calls e2) (calls_optional e3) (in_expr b) (in_optional c) y.even z.1)))

  do_at : (k s label : ℕ) (name : Name) (a b : Expr) (c : Option Expr) (st : Standing) → StandsFor f meant S st name → not (is_scalar st) ≡ false → FormChecked (Form-F.Do label name a b c)
      → Stands s (occurs_at (Form-F.Do label name a b c)) (calls_of (statement_of meant main ss k s (Form-F.Do label name a b c))) → Tested k
      → WholeFit k (occurs_at (Form-F.Do label name a b c)) (statement_of meant main ss k s (Form-F.Do label name a b c))
  do_at k s label name a b c standing.Scalar x scalar h d w =
      let t2 : ℕ = s + sites_at a in
      let t3 : ℕ = s + (sites_at a + sites_at b) in
      let e1 : Term = term_from s (looked a) in
      let e2 : Term = term_from t2 (looked b) in
      let e3 : Option Term = optional meant c t3 in
      let rest : Occurrences = in_expr b ++ in_optional c in
      let others : List Terms = calls e2 ++ calls_optional e3 in
      let here : Stands s (in_expr a ++ rest) (calls e1 ++ others) = record { occurs = d.occurs.1; called = d.called; passes = subst (λ m. Part passing_on s (calls_of (loop m e1 e2 e3))) x.meant_is d.passes } in
      let types_of : (is_mistyped f (Valued (Some types.Integer)) a || (is_mistyped f (Valued (Some types.Integer)) b || optional_breaks f f.constants Types (Valued (Some types.Integer)) c)) ≡ false = or_right (differs (Some types.Integer) (type_of f name)) _ h.types in
      let scalars_of : (is_misplaced f (Valued (Some types.Integer)) a || (is_misplaced f (Valued (Some types.Integer)) b || optional_breaks f f.constants Scalars (Valued (Some types.Integer)) c)) ≡ false = or_right (is_array (standing_of f name)) _ h.scalars in
      let exponents_of : (has_wrong_exponent named a || (has_wrong_exponent named b || optional_breaks f named Exponents (Valued (Some types.Integer)) c)) ≡ false = h.exponents in
      let types_more = or_right (is_mistyped f (Valued (Some types.Integer)) a) _ types_of in
      let scalars_more = or_right (is_misplaced f (Valued (Some types.Integer)) a) _ scalars_of in
      let exponents_more = or_right (has_wrong_exponent named a) _ exponents_of in
      let texts_more = or_right (has_text a) _ h.texts in
      let says : (list_any passing (said.in_expr f line a) || list_any passing (said.in_expr f line b ++ said.in_optional f line c)) ≡ false = sym (any-append passing (said.in_expr f line a) (said.in_expr f line b ++ said.in_optional f line c)) ∙ h.procedures in
      let says_more : (list_any passing (said.in_expr f line b) || list_any passing (said.in_optional f line c)) ≡ false = sym (any-append passing (said.in_expr f line b) (said.in_optional f line c)) ∙ or_right (list_any passing (said.in_expr f line a)) _ says in
      let x1 : Valuable (Some types.Integer) s a = integer_at s a (or_left _ _ types_of) (or_left _ _ scalars_of) (or_left _ _ exponents_of) (or_left _ _ h.texts) (or_left _ (list_any passing (said.in_expr f line b ++ said.in_optional f line c)) says) (first_stands s (in_expr a) rest (calls e1) others here) in
      let second : Stands t2 rest others = rest_stands (sites_at a) s (in_expr a) rest (calls e1) others (callees_of a) x1.long here in
      let x2 : Valuable (Some types.Integer) t2 b = integer_at t2 b (or_left _ _ types_more) (or_left _ _ scalars_more) (or_left _ _ exponents_more) (or_left _ _ texts_more) (or_left _ (list_any passing (said.in_optional f line c)) says_more) (first_stands t2 (in_expr b) (in_optional c) (calls e2) (calls_optional e3) second) in
      let third : Stands (t2 + sites_at b) (in_optional c) (calls_optional e3) = rest_stands (sites_at b) t2 (in_expr b) (in_optional c) (calls e2) (calls_optional e3) (callees_of b) x2.long second in
      let same : t2 + sites_at b ≡ t3 = omega arith in
      let x3 = optional_fit t3 c (or_right (is_mistyped f (Valued (Some types.Integer)) b) _ types_more) (or_right (is_misplaced f (Valued (Some types.Integer)) b) _ scalars_more) (or_right (has_wrong_exponent named b) _ exponents_more) (or_right (has_text b) _ texts_more) (or_right (list_any passing (said.in_expr f line b)) _ says_more) (subst (λ i. Stands i (in_optional c) (calls_optional e3)) same third) in
      let whole : WholeFit k (in_expr a ++ rest) (loop (meant name) e1 e2 e3) = do_terms k s a b c (meant name) x.base x.ty x.meant_is x.fits x1 x2 x3 w in
      record { ok = whole.ok; inner = whole.inner; counts = whole.counts }
  do_at k s label name a b c st x scalar h d w = cc

  -- A DO has a range.
  abbrev pub DoTested : ℕ → Form-F Form → Type 0
  DoTested k (Form-F.Do label name a b c) = PointOk (routine u) (Test k) × PointOk (routine u) (At (below u.statements k)) × PointOk (routine u) (leaving u.statements k)
  DoTested k F = Unit {0}

  not_inner : (k : ℕ) (a : Occurrences) (t : Statement) → SimpleFit k a t → InnerOk R S k t → WholeFit k a t
  not_inner k a t x i = record { ok = x.ok; inner = i; counts = x.counts }

  simple_inner : (k s : ℕ) (F : Form-F Form) → InnerOk R S k (simply s F)
  simple_inner k s Form-F.End = go main
    where
      go : (b : Bool) → InnerOk R S k (if b then Stop else Return)
      go true = tt
      go false = tt
  simple_inner k s F = tt

  -- A statement that passed the checks is as its unit's effects say.
  pub statement_fit : (k s : ℕ) (F : Form-F Form) → FormChecked F → Stands s (occurs_at F) (calls_of (statement_of (meant_of u) (is_main u.kind) u.statements k s F)) → Each (PointOk (routine u)) (ways u.statements k F) → Each (PointOk (routine u)) (inner_ways u.statements k F) → DoTested k F
      → WholeFit k (occurs_at F) (statement_of (meant_of u) (is_main u.kind) u.statements k s F)
  statement_fit k s (Form-F.BlockIf e) c d w i r =
      let v = truth_at s e c.types c.scalars c.exponents c.texts c.procedures d in
      whole_of k (in_expr e) (program.If (term_from s (looked e)) (otherwise ss k)) (typed_term types.Logical s e v, w.0, w.1.0) tt v.even
  statement_fit k s (Form-F.ElseIf e) c d w i r =
      let v = truth_at s e c.types c.scalars c.exponents c.texts c.procedures d in
      whole_of k (in_expr e) (program.If (term_from s (looked e)) (otherwise ss k)) (typed_term types.Logical s e v, w.0, w.1.0) tt v.even
  statement_fit k s (Form-F.LogicalIf e i) c d w j r = guarded_fit k s e i c d w.0 w.1.0 j
  statement_fit k s (Form-F.Do label name a b x) c d w i r = do_at k s label name a b x (standing_of f name) d.occurs.0.stands (or_left (not (is_scalar (standing_of f name))) _ c.targets) c d r
  statement_fit k s Form-F.EndIf c d w i r = whole_of k [] program.Continue w.0 tt refl
  statement_fit k s F c d w i r = not_inner k (occurs_at F) (simply s F) (simple_fit k s F c d w) (simple_inner k s F)
