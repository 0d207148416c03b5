-- An expression that passed the checks resolves to a term of its type, and its sites are those of its unit's tables.
use Rattle.std.proofs.Common.{◌≡◌, ℕ, suc, ◌+◌, ◌≤◌, Bool, true, false, not, ◌&&◌, ◌||◌, nat_le, Option, Some, None, List, [], ◌∷◌, ◌++◌, pos, negsuc, length, map, flat_map, refl, sym, ap, ◌∙◌, subst, arith, if◌then◌else◌}
use Rattle.std.specs.List.{list_any}
use Rattle.std.proofs.lemmas.Bool.Decides.{nat_tests}
use Rattle.std.proofs.lemmas.Grind.{flat_map-append}
use Rattle.f77_tree.specs.declared.expr.Op.{Op}
use Rattle.f77_tree.specs.declared.expr.Op.TheVariants.{Pow}
use Rattle.f77_tree.specs.declared.expr.Expr.{Expr, roll-Expr, out-Expr, out-roll-Expr, ind-Expr, fold-Expr, fold-roll-Expr}
use Rattle.f77_tree.specs.declared.expr.Expr.TheFolds.{map-Expr}
use Rattle.f77_tree.specs.declared.expr.Expr.TheOpen.{Expr-F}
use Rattle.f77_tree.specs.declared.expr.Expr.TheVariants.{rolls-Apply}
use Rattle.f77_tree.specs.declared.unit.Ty.{Ty}
use Rattle.f77_tree.specs.declared.unit.Ty.TheVariants as types
use Rattle.f77_tree.specs.declared.unit.Value.{Value}
use Rattle.f77_tree.specs.declared.unit.Value.TheVariants.{Integer, Logical}
use Rattle.f77_names.specs.declared.intrinsics.Intrinsic.{Intrinsic}
use Rattle.f77_names.specs.declared.intrinsics.Intrinsic.TheVariants.{Abs, Mod, Sign, Dim, Max, Min}
use Rattle.f77_names.specs.declared.occurrences.Manner.TheVariants as manner
use Rattle.f77_names.specs.declared.occurrences.Occurrence.{Occurrence}
use Rattle.f77_names.specs.declared.facts.Facts.{Facts}
use Rattle.f77_names.specs.Intrinsics.{intrinsic_of}
use Rattle.f77_values.specs.Tables.{Name, Told, what}
use Rattle.f77_names.specs.Roles.{type_of, is_function}
use Rattle.f77_names.specs.Occurrences.{Occurrences, occurs, expr_step, in_expr}
use Rattle.f77_store.specs.Layouts.{callee, callees_with}
use Rattle.check_types.specs.declared.places.Place.{Place}
use Rattle.check_types.specs.declared.places.Place.TheVariants.{Value as Valued, Actual, Named}
use Rattle.f77_names.specs.declared.standings.Standing.{Standing}
use Rattle.f77_names.specs.declared.standings.Standing.TheVariants as standing
use Rattle.check_types.specs.declared.exponents.Reckoned.{Reckoned}
use Rattle.check_types.specs.ExpressionTypes.{takes as wants_operands, gives as given_by, plain_type}
use Rattle.f77_names.specs.Standings.{standing_of, is_called, is_array, is_scalar}
use Rattle.check_types.specs.Places.{wanted, member_place}
use Rattle.check_types.specs.WrongTypes.{differs, takes_number, takes_arguments, is_miscalled, mistyped_step, is_mistyped}
use Rattle.check_types.specs.Targets.{other_at, is_no_variable}
use Rattle.check_types.specs.Scalars.{is_passed, is_no_scalar, misplaced_step, is_misplaced}
use Rattle.check_types.specs.Exponents.{is_no_exponent, reckoned_step, reckoned, has_wrong_exponent}
use Rattle.check_types.proofs.Agreeing.{has_value}
use Rattle.f77_semantics.specs.Program.{Term, Literal, Variable, Element, Whole, Reference, Apply, Paren, Negative, Plus, Not, Terms, End, ◌and◌}
use Rattle.f77_semantics.specs.declared.storage.Base.{Base}
use Rattle.f77_semantics.specs.Terms as names
use Rattle.f77_semantics.specs.Terms.{Meant, Resolved, sites_in, term_from, sites_of, terms_of, plain, over, bare, applied, step, resolved}
use Rattle.f77_semantics.specs.Effects.{Effects, HasAll, HasSite, takes, gives, arity, ExponentOk, TermOk, IntegersOk, ActualsOk, TargetOk}
use Rattle.f77_semantics.specs.Sites.{refers, FunctionsAgree}
use Rattle.f77_semantics.proofs.Trees.{layer}
use Rattle.f77_semantics.proofs.Sites.{counted}
use Rattle.prog_texts.specs.Mentions as said
use Rattle.prog_texts.specs.Mentions.{Seen, seen_step, expr_says, reference, actual, is_procedure, dummy_procedure, is_dummy_procedure}
use Rattle.prog_texts.specs.declared.mentions.Wanted.TheVariants.{Function}
use Rattle.prog_texts.proofs.Said.{in_expr-Apply}
use Rattle.sound_units.specs.Sites.{Each, site_at, Part, calls, calls_in}
use Rattle.sound_units.specs.Texts.{text_step, has_text}
use Rattle.sound_units.specs.Checked.{passing, Unpassed, IsUse, Checked, AllChecked, StandsForArray, StandsForIntrinsic, StandsForFunction, StandsFor, HasList, NameFits, ValueOk, TermFits}
use Rattle.sound_units.proofs.Constants.{constant_is}
use Rattle.sound_units.proofs.Places.{same_place}
use Rattle.sound_units.proofs.Lists.{or_left, or_right, any-map, any-append, flat, length-map, long-append, each_left, each_right, each_all, part_left, part_right, part_first, part_rest}

-- what the tables of a unit say at each site
pub record SiteFits (f : Facts) (S : Effects) (s : ℕ) (name : Name) (es : Terms) : Type 0 where
  pub type_is : S.type_of s ≡ type_of f name
  pub has : HasSite S s
  pub passes : S.actuals s ≡ es

-- ---- types

same_type : (a b : Ty) → differs (Some a) (Some b) ≡ false → b ≡ a
same_type types.Integer types.Integer h = refl
same_type types.Logical types.Logical h = refl
same_type types.Integer types.Logical h = cc
same_type types.Logical types.Integer h = cc

same_takes : (op : Op) → wants_operands op ≡ takes op
same_takes Pow = refl
same_takes op = refl

same_gives : (op : Op) → given_by op ≡ gives op
same_gives Pow = refl
same_gives op = refl

module _ (S : Effects) where
  pub as_typed : (ty : Ty) (t : Term) → ValueOk S (Some ty) t → TermOk S ty t
  as_typed ty t v = subst (λ ty. TermOk S ty t) (same_type ty v.ty v.wants) v.fits

  -- what has a value can be passed
  as_actual : (ty : Ty) (t : Term) → TermOk S ty t → ActualsOk S (t and End)
  as_actual ty (Variable other b) h = (h.1, tt)
  as_actual ty (Whole a) h = absurd h
  as_actual ty (Element other a es) h = (h.1, h.3, tt)
  as_actual ty t h = ((ty, h), tt)

  pub before_actuals : (t : Term) (ts : Terms) → ActualsOk S (t and End) → ActualsOk S ts → ActualsOk S (t and ts)
  before_actuals (Variable ty b) ts h k = (h.0, k)
  before_actuals (Whole a) ts h k = (h.0, k)
  before_actuals (Element ty a es) ts h k = (h.0, h.1, k)
  before_actuals t ts h k = (h.0, k)

  fits_at : (p : Place) (t : Term) → IsUse p → ValueOk S (wanted p) t → TermFits S p t
  fits_at (Valued w) t u v = v
  fits_at Actual t u v = as_actual v.ty t v.fits
  fits_at Named t u v = absurd u

-- ---- exponents

exponent_value : (o : Option Value) → is_no_exponent Pow o ≡ false → (n : ℕ) × (o ≡ Some (Integer (pos n))) × (n ≤ 62)
exponent_value (Some (Integer (pos n))) h = (n, refl, small (nat_le n 62) refl h)
  where
    small : (b : Bool) → nat_le n 62 ≡ b → not b ≡ false → n ≤ 62
    small true e h = grind (arith, nat_tests)
    small false e h = cc
exponent_value (Some (Integer (negsuc n))) h = cc
exponent_value (Some (Logical b)) h = cc
exponent_value None h = cc

unpassed_left : (p : Place) (a b : Bool) → Unpassed p (a || b) → Unpassed p a
unpassed_left Actual a b h = or_left a b h
unpassed_left (Valued w) a b h = tt
unpassed_left Named a b h = tt

unpassed_right : (p : Place) (a b : Bool) → Unpassed p (a || b) → Unpassed p b
unpassed_right Actual a b h = or_right a b h
unpassed_right (Valued w) a b h = tt
unpassed_right Named a b h = tt

module _ (f : Facts) (named : Told Value) (line : ℕ) (meant : Name → Meant) (S : Effects) (callees : List Name) (passed : List Terms)
    (agree : FunctionsAgree f meant)
    (known : (name : Name) (v : Value) → what named name ≡ Some v → meant name ≡ names.Constant v)
    (used : (b : Base) (n : ℕ) → HasAll S.used b n) (assigned : (b : Base) (n : ℕ) → HasAll S.assigned b n)
    (sites : (s : ℕ) (name : Name) (es : Terms) → site_at callees s ≡ Some name → site_at passed s ≡ Some es → SiteFits f S s name es) where
  abbrev looked : Expr → Resolved
  looked e = resolved meant e

  abbrev all_looked : List Expr → List Resolved
  all_looked es = map (resolved meant) es

  abbrev sites_at : Expr → ℕ
  sites_at e = sites_in (looked e)

  abbrev terms_at : ℕ → List Expr → Terms
  terms_at s es = terms_of (all_looked es) s

  abbrev Fine : Occurrence → Type 0
  Fine o = NameFits f meant S o

  -- where an expression stands in the tables, from its first site on
  pub record Sited (s : ℕ) (e : Expr) : Type 0 where
    pub occurs : Each Fine (in_expr e)
    pub called : Part callees s (callees_with f (in_expr e))
    pub passes : Part passed s (calls (term_from s (resolved meant e)))

  pub record AllSited (s : ℕ) (es : List Expr) : Type 0 where
    pub occurs : Each Fine (flat_map in_expr es)
    pub called : Part callees s (callees_with f (flat_map in_expr es))
    pub passes : Part passed s (calls_in (terms_of (map (resolved meant) es) s))

  pub record Fit (p : Place) (s : ℕ) (r : Resolved) : Type 0 where
    pub fits : TermFits S p (term_from s r)
    pub counts : length (calls (term_from s r)) ≡ sites_in r

  abbrev pub AllFit : Place → ℕ → List Expr → Type 0
  AllFit p s [] = Unit {0}
  AllFit p s (e ∷ es) = Fit p s (resolved meant e) × AllFit p (s + sites_in (resolved meant e)) es

  abbrev pub Good : Expr → Type 0
  Good e = (p : Place) (s : ℕ) → IsUse p → Checked f named line p e → Sited s e → Fit p s (resolved meant e)

  -- ---- lists of expressions

  first_checked : (p : Place) (e : Expr) (es : List Expr) → AllChecked f named line p (e ∷ es) → Checked f named line p e
  first_checked p e es c = record {
    typed = or_left (is_mistyped f p e) (list_any (is_mistyped f p) es) c.typed;
    placed = or_left (is_misplaced f p e) (list_any (is_misplaced f p) es) c.placed;
    exponents = or_left (has_wrong_exponent named e) (list_any (has_wrong_exponent named) es) c.exponents;
    texts = or_left (has_text e) (list_any has_text es) c.texts;
    procedures = or_left (list_any passing (said.in_expr f line e)) (list_any passing (flat_map (said.in_expr f line) es)) (sym (any-append passing (said.in_expr f line e) (flat_map (said.in_expr f line) es)) ∙ c.procedures);
    unpassed = unpassed_left p (is_procedure f (out-Expr e)) (list_any (λ e. is_procedure f (out-Expr e)) es) c.unpassed;
  }

  rest_checked : (p : Place) (e : Expr) (es : List Expr) → AllChecked f named line p (e ∷ es) → AllChecked f named line p es
  rest_checked p e es c = record {
    typed = or_right (is_mistyped f p e) (list_any (is_mistyped f p) es) c.typed;
    placed = or_right (is_misplaced f p e) (list_any (is_misplaced f p) es) c.placed;
    exponents = or_right (has_wrong_exponent named e) (list_any (has_wrong_exponent named) es) c.exponents;
    texts = or_right (has_text e) (list_any has_text es) c.texts;
    procedures = or_right (list_any passing (said.in_expr f line e)) (list_any passing (flat_map (said.in_expr f line) es)) (sym (any-append passing (said.in_expr f line e) (flat_map (said.in_expr f line) es)) ∙ c.procedures);
    unpassed = unpassed_right p (is_procedure f (out-Expr e)) (list_any (λ e. is_procedure f (out-Expr e)) es) c.unpassed;
  }

  joined : (a b : Occurrences) → callees_with f (a ++ b) ≡ callees_with f a ++ callees_with f b
  joined a b = flat_map-append (callee f.attributes) a b

  first_sited : (s : ℕ) (e : Expr) (es : List Expr) → AllSited s (e ∷ es) → Sited s e
  first_sited s e es d = record {
    occurs = each_left Fine (in_expr e) (flat_map in_expr es) d.occurs;
    called = part_left callees s (callees_with f (in_expr e)) (callees_with f (flat_map in_expr es)) (subst (Part callees s) (joined (in_expr e) (flat_map in_expr es)) d.called);
    passes = part_left passed s (calls (term_from s (looked e))) (calls_in (terms_at (s + sites_at e) es)) d.passes;
  }

  rest_sited : (s : ℕ) (e : Expr) (es : List Expr) → AllSited s (e ∷ es) → length (calls (term_from s (looked e))) ≡ sites_at e → AllSited (s + sites_at e) es
  rest_sited s e es d n = record {
    occurs = each_right Fine (in_expr e) (flat_map in_expr es) d.occurs;
    called = part_right callees s (sites_at e) (callees_with f (in_expr e)) (callees_with f (flat_map in_expr es)) (sym (counted f meant agree e)) (subst (Part callees s) (joined (in_expr e) (flat_map in_expr es)) d.called);
    passes = part_right passed s (sites_at e) (calls (term_from s (looked e))) (calls_in (terms_at (s + sites_at e) es)) n d.passes;
  }

  pub members : (es : List Expr) → Each Good es → (p : Place) (s : ℕ) → IsUse p → AllChecked f named line p es → AllSited s es → AllFit p s es
  members [] g p s u c d = tt
  members (e ∷ es) g p s u c d =
      let first : Fit p s (looked e) = g.0 p s u (first_checked p e es c) (first_sited s e es d) in
      (first, members es g.1 p (s + sites_at e) u (rest_checked p e es c) (rest_sited s e es d first.counts))

  pub integers_of : (es : List Expr) (s : ℕ) → AllFit (Valued (Some types.Integer)) s es → IntegersOk S (terms_of (map (resolved meant) es) s)
  integers_of [] s h = tt
  integers_of (e ∷ es) s h = (as_typed S types.Integer (term_from s (looked e)) h.0.fits, integers_of es (s + sites_at e) h.1)

  pub actuals_of : (es : List Expr) (s : ℕ) → AllFit Actual s es → ActualsOk S (terms_of (map (resolved meant) es) s)
  actuals_of [] s h = tt
  actuals_of (e ∷ es) s h = before_actuals S (term_from s (looked e)) (terms_at (s + sites_at e) es) h.0.fits (actuals_of es (s + sites_at e) h.1)

  pub counts_of : (p : Place) (es : List Expr) (s : ℕ) → AllFit p s es → length (calls_in (terms_of (map (resolved meant) es) s)) ≡ sites_of (map (resolved meant) es)
  counts_of p [] s h = refl
  counts_of p (e ∷ es) s h =
      long-append (calls (term_from s (looked e))) (calls_in (terms_at (s + sites_at e) es))
      ∙ (ap (λ n. n + length (calls_in (terms_at (s + sites_at e) es))) h.0.counts ∙ ap (λ n. sites_at e + n) (counts_of p es (s + sites_at e) h.1))

  -- ---- a name with a list

  arity_of : (i : Intrinsic) (es : List Expr) (s : ℕ) → takes_number i (length es) ≡ true → arity i (terms_of (map (resolved meant) es) s)
  arity_of Abs (x ∷ []) s h = tt
  arity_of Mod (x ∷ y ∷ []) s h = tt
  arity_of Sign (x ∷ y ∷ []) s h = tt
  arity_of Dim (x ∷ y ∷ []) s h = tt
  arity_of Max (x ∷ es) s h = tt
  arity_of Min (x ∷ es) s h = tt
  arity_of Abs es s h = absurd (grind (arith, nat_tests))
  arity_of Mod es s h = absurd (grind (arith, nat_tests))
  arity_of Sign es s h = absurd (grind (arith, nat_tests))
  arity_of Dim es s h = absurd (grind (arith, nat_tests))
  arity_of Max es s h = absurd (grind (arith, nat_tests))
  arity_of Min es s h = absurd (grind (arith, nat_tests))

  number_taken : (name : Name) (i : Intrinsic) (n : ℕ) → intrinsic_of name ≡ Some i → is_miscalled standing.Intrinsic name n ≡ false → takes_number i n ≡ true
  number_taken name i n e h = untrue (takes_number i n) (subst (λ o. not (takes_arguments o n) ≡ false) e h)
    where
      untrue : (b : Bool) → not b ≡ false → b ≡ true
      untrue true h = refl
      untrue false h = cc

  -- where the names of a list, and their callees, begin behind the name
  abbrev AtName : ℕ → Name → List Expr → Meant → Bool → Type 0
  AtName s name es m function = Part callees s ((if function then name ∷ [] else []) ++ callees_with f (flat_map in_expr es)) × Part passed s (calls (term_from s (applied m (all_looked es))))

  at_meant : (s : ℕ) (name : Name) (es : List Expr) (m : Meant) → meant name ≡ m → AtName s name es (meant name) (is_function f.attributes name) → AtName s name es m (refers m)
  at_meant s name es m e d = (
    subst (λ b. Part callees s ((if b then name ∷ [] else []) ++ callees_with f (flat_map in_expr es))) (agree name ∙ ap refers e) d.0,
    subst (λ m. Part passed s (calls (term_from s (applied m (all_looked es))))) e d.1,
  )

  fit_meant : (p : Place) (s : ℕ) (name : Name) (es : List Expr) (m : Meant) → meant name ≡ m → Fit p s (applied m (all_looked es)) → Fit p s (applied (meant name) (all_looked es))
  fit_meant p s name es m e h = subst (λ m. Fit p s (applied m (all_looked es))) (sym e) h

  wants_type : (p : Place) (name : Name) (ty : Ty) → type_of f name ≡ Some ty → differs (wanted p) (type_of f name) ≡ false → differs (wanted p) (Some ty) ≡ false
  wants_type p name ty e h = subst (λ t. differs (wanted p) t ≡ false) e h

  element_fit : (p : Place) (s : ℕ) → IsUse p → (name : Name) (es : List Expr) (x : StandsForArray f meant S name) → differs (wanted p) (type_of f name) ≡ false
      → AllFit (Valued (Some types.Integer)) s es → Fit p s (applied (names.AnArray x.ty x.array) (all_looked es))
  element_fit p s u name es x d h = record {
    fits = fits_at S p (Element x.ty x.array (terms_at s es)) u (record { ty = x.ty; fits = (refl, x.fits, used x.array.base x.array.length, integers_of es s h); wants = wants_type p name x.ty x.type_is d });
    counts = counts_of (Valued (Some types.Integer)) es s h;
  }

  intrinsic_fit : (p : Place) (s : ℕ) → IsUse p → (name : Name) (es : List Expr) (x : StandsForIntrinsic f meant S name) → differs (wanted p) (type_of f name) ≡ false
      → is_miscalled standing.Intrinsic name (length es) ≡ false → AllFit (Valued (Some types.Integer)) s es → Fit p s (applied (names.AnIntrinsic x.function) (all_looked es))
  intrinsic_fit p s u name es x d n h = record {
    fits = fits_at S p (Apply x.function (terms_at s es)) u (record { ty = types.Integer; fits = (refl, arity_of x.function es s (number_taken name x.function (length es) x.named n), integers_of es s h); wants = wants_type p name types.Integer x.type_is d });
    counts = counts_of (Valued (Some types.Integer)) es s h;
  }

  reference_fit : (p : Place) (s : ℕ) → IsUse p → (name : Name) (es : List Expr) (x : StandsForFunction f meant S name) → differs (wanted p) (type_of f name) ≡ false
      → SiteFits f S s name (terms_at (suc s) es) → AllFit Actual (suc s) es → Fit p s (applied names.Function (all_looked es))
  reference_fit p s u name es x d site h = record {
    fits = fits_at S p (Reference s (terms_at (suc s) es)) u (record { ty = x.ty; fits = (site.type_is ∙ x.type_is, site.has, site.passes, actuals_of es (suc s) h); wants = wants_type p name x.ty x.type_is d });
    counts = ap suc (counts_of Actual es (suc s) h);
  }

  apply_fit : (p : Place) (s : ℕ) → IsUse p → (st : Standing) (name : Name) (es : List Expr) → StandsFor f meant S st name → HasList f meant S st
      → differs (wanted p) (type_of f name) ≡ false → is_miscalled st name (length es) ≡ false
      → ((s : ℕ) → AllSited s es → AllFit (member_place st) s es) → Each Fine (flat_map in_expr es)
      → AtName s name es (meant name) (is_function f.attributes name) → Fit p s (applied (meant name) (all_looked es))
  apply_fit p s u standing.Array name es x l d n member occurs at =
      let m : Meant = names.AnArray x.ty x.array in
      let here : AtName s name es m false = at_meant s name es m x.meant_is at in
      fit_meant p s name es m x.meant_is (element_fit p s u name es x d (member s (record { occurs = occurs; called = here.0; passes = here.1 })))
  apply_fit p s u standing.Intrinsic name es x l d n member occurs at =
      let m : Meant = names.AnIntrinsic x.function in
      let here : AtName s name es m false = at_meant s name es m x.meant_is at in
      fit_meant p s name es m x.meant_is (intrinsic_fit p s u name es x d n (member s (record { occurs = occurs; called = here.0; passes = here.1 })))
  apply_fit p s u standing.Function name es x l d n member occurs at =
      let here : AtName s name es names.Function true = at_meant s name es names.Function x.meant_is at in
      let inside : AllSited (suc s) es = record { occurs = occurs; called = part_rest callees s name (callees_with f (flat_map in_expr es)) here.0; passes = part_rest passed s (terms_at (suc s) es) (calls_in (terms_at (suc s) es)) here.1 } in
      let site = sites s name (terms_at (suc s) es) (part_first callees s name (callees_with f (flat_map in_expr es)) here.0) (part_first passed s (terms_at (suc s) es) (calls_in (terms_at (suc s) es)) here.1) in
      fit_meant p s name es names.Function x.meant_is (reference_fit p s u name es x d site (member (suc s) inside))
  apply_fit p s u st name es x l d n member occurs at = absurd l

  -- The actuals of a reference are no procedures.
  members_unpassed : (st : Standing) (name : Name) (es : List Expr) → StandsFor f meant S st name → HasList f meant S st → list_any passing (reference f line name es) ≡ false
      → Unpassed (member_place st) (list_any (λ e. is_procedure f (out-Expr e)) es)
  members_unpassed standing.Array name es x l h = tt
  members_unpassed standing.Intrinsic name es x l h = tt
  members_unpassed standing.Function name es x l h =
      let function : is_function f.attributes name ≡ true = agree name ∙ ap refers x.meant_is in
      let site : list_any passing (if true then said.site f line (Function (type_of f name)) name es ∷ [] else dummy_procedure (is_dummy_procedure f.attributes name) line) ≡ false =
      subst (λ b. list_any passing (if b then said.site f line (Function (type_of f name)) name es ∷ [] else dummy_procedure (is_dummy_procedure f.attributes name) line) ≡ false) function h in
      sym (any-map (λ a. a.is_procedure) (actual f) es) ∙ or_left (list_any (λ a. a.is_procedure) (map (actual f) es)) false site
  members_unpassed st name es x l h = absurd l

  member_use : (st : Standing) → IsUse (member_place st)
  member_use standing.Array = tt
  member_use standing.Intrinsic = tt
  member_use st = tt

  -- ---- a name by itself

  scalar_value : (w : Option Ty) (s : ℕ) (st : Standing) (name : Name) → StandsFor f meant S st name → (is_array st || is_called st) ≡ false → differs w (if is_called st then None else type_of f name) ≡ false
      → ValueOk S w (bare (meant name))
  scalar_value w s standing.Scalar name x h d = subst (λ m. ValueOk S w (bare m)) (sym x.meant_is) (record { ty = x.ty; fits = (refl, x.fits, used x.base 1); wants = subst (λ t. differs w t ≡ false) x.type_is d })
  scalar_value w s standing.Constant name x h d = subst (λ m. ValueOk S w (bare m)) (sym x.meant_is) (record { ty = x.ty; fits = x.fits; wants = subst (λ t. differs w t ≡ false) x.type_is d })
  scalar_value w s st name x h d = cc

  passed_name : (st : Standing) (name : Name) (passes : Bool) → StandsFor f meant S st name → (is_called st && not passes) ≡ false → passes ≡ false → ActualsOk S (bare (meant name) and End)
  passed_name standing.Scalar name passes x h n = subst (λ m. ActualsOk S (bare m and End)) (sym x.meant_is) (x.fits, tt)
  passed_name standing.Array name passes x h n = subst (λ m. ActualsOk S (bare m and End)) (sym x.meant_is) (x.fits, tt)
  passed_name standing.Constant name passes x h n = subst (λ m. ActualsOk S (bare m and End)) (sym x.meant_is) ((x.ty, x.fits), tt)
  passed_name st name passes x h n = absurd (contra passes n h)
    where
      contra : (b : Bool) → b ≡ false → (true && not b) ≡ false → ⊥
      contra true n h = cc
      contra false n h = cc

  bare_counts : (m : Meant) → length (calls (bare m)) ≡ 0
  bare_counts (names.Constant v) = refl
  bare_counts (names.Variable ty b) = refl
  bare_counts (names.AnArray ty a) = refl
  bare_counts m = refl

  scalar_fit : (p : Place) (s : ℕ) → IsUse p → (name : Name) → StandsFor f meant S (standing_of f name) name → differs (wanted p) (plain_type f name) ≡ false → is_no_scalar f p name ≡ false
      → Unpassed p (is_procedure f (Expr-F.Scalar name)) → Fit p s (plain (bare (meant name)))
  scalar_fit (Valued w) s u name x d h n = record { fits = scalar_value w s (standing_of f name) name x h d; counts = bare_counts (meant name) }
  scalar_fit Actual s u name x d h n = record { fits = passed_name (standing_of f name) name (is_passed f name) x h n; counts = bare_counts (meant name) }
  scalar_fit Named s u name x d h n = absurd u

  -- ---- one layer

  abbrev Both : Type 0
  Both = (e : Expr) × Good e

  trees : List Both → List Expr
  trees es = map (λ e. e.0) es

  good_trees : (es : List Both) → Each Good (map (λ e. e.0) es)
  good_trees [] = tt
  good_trees (e ∷ es) = (e.1, good_trees es)

  record LayerChecked (p : Place) (x : Expr-F Expr) : Type 0 where
    typed : mistyped_step f (map-Expr Expr (Place → Bool) (λ e p. is_mistyped f p e) x) p ≡ false
    placed : misplaced_step f (map-Expr Expr (Place → Bool) (λ e p. is_misplaced f p e) x) p ≡ false
    exponents : (reckoned_step named (map-Expr Expr Reckoned (reckoned named) x)).wrong ≡ false
    texts : text_step (map-Expr Expr Bool has_text x) ≡ false
    procedures : list_any passing (said.in_expr f line (roll-Expr x)) ≡ false
    unpassed : Unpassed p (is_procedure f x)

  record LayerSited (s : ℕ) (x : Expr-F Expr) : Type 0 where
    occurs : Each Fine (expr_step (map-Expr Expr Occurrences in_expr x))
    called : Part callees s (callees_with f (expr_step (map-Expr Expr Occurrences in_expr x)))
    passes : Part passed s (calls (term_from s (step meant (map-Expr Expr Resolved (resolved meant) x))))

  -- what an expression says, layer by layer
  says : (x : Expr-F Expr) → said.in_expr f line (roll-Expr x) ≡ expr_says f line (map-Expr Expr Seen (fold-Expr Seen (seen_step f line)) x)
  says x = ap (λ s. s.says) (fold-roll-Expr Seen (seen_step f line) x)

  says_list : (name : Name) (es : List Expr) → said.in_expr f line (roll-Expr (Expr-F.Apply name es)) ≡ reference f line name es ++ flat_map (said.in_expr f line) es
  says_list name es = ap (said.in_expr f line) (rolls-Apply name es) ∙ in_expr-Apply f line name es

  abbrev looked_layer : Expr-F Both → Resolved
  looked_layer y = step meant (map-Expr Expr Resolved (resolved meant) (map-Expr Both Expr (λ e. e.0) y))

  value_fit : (p : Place) (s : ℕ) (r : Resolved) → IsUse p → ValueOk S (wanted p) (term_from s r) → length (calls (term_from s r)) ≡ sites_in r → Fit p s r
  value_fit p s r u v n = record { fits = fits_at S p (term_from s r) u v; counts = n }

  -- a part that is evaluated, whatever was wanted of the whole
  part_checked : (u w : Option Ty) (e : Expr) → is_mistyped f (Valued w) e ≡ false → is_misplaced f (Valued u) e ≡ false → has_wrong_exponent named e ≡ false → has_text e ≡ false → list_any passing (said.in_expr f line e) ≡ false
      → Checked f named line (Valued w) e
  part_checked u w e a b c d g = record { typed = a; placed = same_place f e w u ∙ b; exponents = c; texts = d; procedures = g; unpassed = tt }

  paren_fit : (e : Both) (p : Place) (s : ℕ) → IsUse p → LayerChecked p (Expr-F.Paren e.0) → LayerSited s (Expr-F.Paren e.0) → Fit p s (over Paren (looked e.0))
  paren_fit e p s u c d =
      let inside : Checked f named line (Valued (wanted p)) e.0 = part_checked (wanted p) (wanted p) e.0 c.typed c.placed c.exponents c.texts (sym (ap (list_any passing) (says (Expr-F.Paren e.0))) ∙ c.procedures) in
      let fit : Fit (Valued (wanted p)) s (looked e.0) = e.1 (Valued (wanted p)) s tt inside (record { occurs = d.occurs; called = d.called; passes = d.passes }) in
      value_fit p s (over Paren (looked e.0)) u (record { ty = fit.fits.ty; fits = fit.fits.fits; wants = fit.fits.wants }) fit.counts

  neg_fit : (e : Both) (p : Place) (s : ℕ) → IsUse p → LayerChecked p (Expr-F.Neg e.0) → LayerSited s (Expr-F.Neg e.0) → Fit p s (over Negative (looked e.0))
  neg_fit e p s u c d =
      let inside : Checked f named line (Valued (Some types.Integer)) e.0 = part_checked (wanted p) (Some types.Integer) e.0 (or_right (differs (wanted p) (Some types.Integer)) _ c.typed) c.placed c.exponents c.texts (sym (ap (list_any passing) (says (Expr-F.Neg e.0))) ∙ c.procedures) in
      let fit : Fit (Valued (Some types.Integer)) s (looked e.0) = e.1 (Valued (Some types.Integer)) s tt inside (record { occurs = d.occurs; called = d.called; passes = d.passes }) in
      value_fit p s (over Negative (looked e.0)) u (record { ty = types.Integer; fits = (refl, as_typed S types.Integer (term_from s (looked e.0)) fit.fits); wants = or_left (differs (wanted p) (Some types.Integer)) _ c.typed }) fit.counts

  plus_fit : (e : Both) (p : Place) (s : ℕ) → IsUse p → LayerChecked p (Expr-F.Plus e.0) → LayerSited s (Expr-F.Plus e.0) → Fit p s (over Plus (looked e.0))
  plus_fit e p s u c d =
      let inside : Checked f named line (Valued (Some types.Integer)) e.0 = part_checked (wanted p) (Some types.Integer) e.0 (or_right (differs (wanted p) (Some types.Integer)) _ c.typed) c.placed c.exponents c.texts (sym (ap (list_any passing) (says (Expr-F.Plus e.0))) ∙ c.procedures) in
      let fit : Fit (Valued (Some types.Integer)) s (looked e.0) = e.1 (Valued (Some types.Integer)) s tt inside (record { occurs = d.occurs; called = d.called; passes = d.passes }) in
      value_fit p s (over Plus (looked e.0)) u (record { ty = types.Integer; fits = (refl, as_typed S types.Integer (term_from s (looked e.0)) fit.fits); wants = or_left (differs (wanted p) (Some types.Integer)) _ c.typed }) fit.counts

  not_fit : (e : Both) (p : Place) (s : ℕ) → IsUse p → LayerChecked p (Expr-F.Not e.0) → LayerSited s (Expr-F.Not e.0) → Fit p s (over Not (looked e.0))
  not_fit e p s u c d =
      let inside : Checked f named line (Valued (Some types.Logical)) e.0 = part_checked (wanted p) (Some types.Logical) e.0 (or_right (differs (wanted p) (Some types.Logical)) _ c.typed) c.placed c.exponents c.texts (sym (ap (list_any passing) (says (Expr-F.Not e.0))) ∙ c.procedures) in
      let fit : Fit (Valued (Some types.Logical)) s (looked e.0) = e.1 (Valued (Some types.Logical)) s tt inside (record { occurs = d.occurs; called = d.called; passes = d.passes }) in
      value_fit p s (over Not (looked e.0)) u (record { ty = types.Logical; fits = (refl, as_typed S types.Logical (term_from s (looked e.0)) fit.fits); wants = or_left (differs (wanted p) (Some types.Logical)) _ c.typed }) fit.counts

  -- An exponent is a constant.
  exponent_fits : (op : Op) (e : Expr) (s : ℕ) → is_no_exponent op (reckoned named e).value ≡ false → ExponentOk op (term_from s (looked e))
  exponent_fits Pow e s h =
      let x = exponent_value (reckoned named e).value h in
      (x.0, constant_is named meant known e (Integer (pos x.0)) s (sym (has_value named e) ∙ x.1), x.2)
  exponent_fits op e s h = tt

  binary_fit : (op : Op) (a b : Both) (p : Place) (s : ℕ) → IsUse p → LayerChecked p (Expr-F.Binary op a.0 b.0) → LayerSited s (Expr-F.Binary op a.0 b.0)
      → Fit p s (step meant (Expr-F.Binary op (looked a.0) (looked b.0)))
  binary_fit op a b p s u c d =
      let w : Option Ty = Some (wants_operands op) in
      let typed : (is_mistyped f (Valued w) a.0 || is_mistyped f (Valued w) b.0) ≡ false = or_right (differs (wanted p) (Some (given_by op))) _ c.typed in
      let says_both : (list_any passing (said.in_expr f line a.0) || list_any passing (said.in_expr f line b.0)) ≡ false =
      sym (any-append passing (said.in_expr f line a.0) (said.in_expr f line b.0)) ∙ (sym (ap (list_any passing) (says (Expr-F.Binary op a.0 b.0))) ∙ c.procedures) in
      let wrong : (has_wrong_exponent named b.0 || is_no_exponent op (reckoned named b.0).value) ≡ false = or_right (has_wrong_exponent named a.0) _ c.exponents in
      let first : Checked f named line (Valued w) a.0 = part_checked (wanted p) w a.0 (or_left _ (is_mistyped f (Valued w) b.0) typed) (or_left _ (is_misplaced f (Valued (wanted p)) b.0) c.placed) (or_left _ _ c.exponents) (or_left _ (has_text b.0) c.texts) (or_left _ (list_any passing (said.in_expr f line b.0)) says_both) in
      let second : Checked f named line (Valued w) b.0 = part_checked (wanted p) w b.0 (or_right (is_mistyped f (Valued w) a.0) _ typed) (or_right (is_misplaced f (Valued (wanted p)) a.0) _ c.placed) (or_left _ _ wrong) (or_right (has_text a.0) _ c.texts) (or_right (list_any passing (said.in_expr f line a.0)) _ says_both) in
      let t : ℕ = s + sites_at a.0 in
      let called : Part callees s (callees_with f (in_expr a.0) ++ callees_with f (in_expr b.0)) = subst (Part callees s) (joined (in_expr a.0) (in_expr b.0)) d.called in
      let fit_a : Fit (Valued w) s (looked a.0) = a.1 (Valued w) s tt first (record {
        occurs = each_left Fine (in_expr a.0) (in_expr b.0) d.occurs;
        called = part_left callees s (callees_with f (in_expr a.0)) (callees_with f (in_expr b.0)) called;
        passes = part_left passed s (calls (term_from s (looked a.0))) (calls (term_from t (looked b.0))) d.passes;
      }) in
      let fit_b : Fit (Valued w) t (looked b.0) = b.1 (Valued w) t tt second (record {
        occurs = each_right Fine (in_expr a.0) (in_expr b.0) d.occurs;
        called = part_right callees s (sites_at a.0) (callees_with f (in_expr a.0)) (callees_with f (in_expr b.0)) (sym (counted f meant agree a.0)) called;
        passes = part_right passed s (sites_at a.0) (calls (term_from s (looked a.0))) (calls (term_from t (looked b.0))) fit_a.counts d.passes;
      }) in
      let operands : (e : Term) → ValueOk S w e → TermOk S (takes op) e = λ e v. subst (λ ty. TermOk S ty e) (same_takes op) (as_typed S (wants_operands op) e v) in
      value_fit p s (step meant (Expr-F.Binary op (looked a.0) (looked b.0))) u
      (record {
        ty = gives op;
        fits = (refl, operands (term_from s (looked a.0)) fit_a.fits, operands (term_from t (looked b.0)) fit_b.fits, exponent_fits op b.0 t (or_right (has_wrong_exponent named b.0) _ wrong));
        wants = subst (λ ty. differs (wanted p) (Some ty) ≡ false) (same_gives op) (or_left (differs (wanted p) (Some (given_by op))) _ c.typed);
      })
      (long-append (calls (term_from s (looked a.0))) (calls (term_from t (looked b.0))) ∙ (ap (λ n. n + length (calls (term_from t (looked b.0)))) fit_a.counts ∙ ap (λ n. sites_at a.0 + n) fit_b.counts))

  -- what is known of the list behind a name
  record Inside (p : Place) (s : ℕ) (name : Name) (list : List Expr) : Type 0 where
    fine : NameFits f meant S (occurs manner.Listed name)
    occurs_in : Each Fine (flat_map in_expr list)
    at : AtName s name list (meant name) (is_function f.attributes name)
    typed : differs (wanted p) (type_of f name) ≡ false
    counted_right : is_miscalled (standing_of f name) name (length list) ≡ false
    all : AllChecked f named line (member_place (standing_of f name)) list

  inside_list : (name : Name) (list : List Expr) (p : Place) (s : ℕ) → LayerChecked p (Expr-F.Apply name list) → LayerSited s (Expr-F.Apply name list) → Inside p s name list
  inside_list name list p s c d =
      let st : Standing = standing_of f name in
      let q : Place = member_place st in
      let fine : NameFits f meant S (occurs manner.Listed name) = d.occurs.0 in
      let called : Part callees s ((if is_function f.attributes name then name ∷ [] else []) ++ callees_with f (flat_map in_expr list)) =
      subst (λ o. Part callees s ((if is_function f.attributes name then name ∷ [] else []) ++ callees_with f o)) (flat in_expr list) d.called in
      let miscalled : (is_miscalled st name (length (map (λ e p. is_mistyped f p e) list)) || list_any (λ e. e q) (map (λ e p. is_mistyped f p e) list)) ≡ false = or_right (differs (wanted p) (type_of f name)) _ c.typed in
      let said_of : (list_any passing (reference f line name list) || list_any passing (flat_map (said.in_expr f line) list)) ≡ false =
      sym (any-append passing (reference f line name list) (flat_map (said.in_expr f line) list)) ∙ (sym (ap (list_any passing) (says_list name list)) ∙ c.procedures) in
      record {
        fine = fine;
        occurs_in = subst (Each Fine) (flat in_expr list) d.occurs.1;
        at = (called, d.passes);
        typed = or_left (differs (wanted p) (type_of f name)) _ c.typed;
        counted_right = subst (λ n. is_miscalled st name n ≡ false) (length-map (λ e p. is_mistyped f p e) list) (or_left _ (list_any (λ e. e q) (map (λ e p. is_mistyped f p e) list)) miscalled);
        all = record {
          typed = sym (any-map (λ (t : Place → Bool). t q) (λ e p. is_mistyped f p e) list) ∙ or_right (is_miscalled st name (length (map (λ e p. is_mistyped f p e) list))) _ miscalled;
          placed = sym (any-map (λ (t : Place → Bool). t q) (λ e p. is_misplaced f p e) list) ∙ c.placed;
          exponents = sym (any-map (λ (r : Reckoned). r.wrong) (reckoned named) list) ∙ c.exponents;
          texts = sym (any-map (λ (b : Bool). b) has_text list) ∙ c.texts;
          procedures = or_right (list_any passing (reference f line name list)) _ said_of;
          unpassed = members_unpassed st name list fine.stands fine.lists (or_left _ (list_any passing (flat_map (said.in_expr f line) list)) said_of);
        };
      }

  list_fit : (name : Name) (list : List Expr) → Each Good list → (p : Place) (s : ℕ) → IsUse p → LayerChecked p (Expr-F.Apply name list) → LayerSited s (Expr-F.Apply name list)
      → Fit p s (applied (meant name) (all_looked list))
  list_fit name list good p s u c d =
      let i : Inside p s name list = inside_list name list p s c d in
      let st : Standing = standing_of f name in
      apply_fit p s u st name list i.fine.stands i.fine.lists i.typed i.counted_right (λ s sited. members list good (member_place st) s (member_use st) i.all sited) i.occurs_in i.at

  here : (y : Expr-F Both) (p : Place) (s : ℕ) → IsUse p → LayerChecked p (map-Expr Both Expr (λ e. e.0) y) → LayerSited s (map-Expr Both Expr (λ e. e.0) y) → Fit p s (looked_layer y)
  here (Expr-F.Int n) p s u c d = value_fit p s (plain (Literal (Integer n))) u (record { ty = types.Integer; fits = refl; wants = c.typed }) refl
  here (Expr-F.Truth b) p s u c d = value_fit p s (plain (Literal (Logical b))) u (record { ty = types.Logical; fits = refl; wants = c.typed }) refl
  here (Expr-F.Text bytes) p s u c d = absurd (contra c.texts)
    where
      contra : true ≡ false → ⊥
      contra e = cc
  here (Expr-F.Scalar name) p s u c d = scalar_fit p s u name d.occurs.0.stands c.typed c.placed c.unpassed
  here (Expr-F.Apply name es) p s u c d = list_fit name (map (λ e. e.0) es) (good_trees es) p s u c d
  here (Expr-F.Paren e) p s u c d = paren_fit e p s u c d
  here (Expr-F.Neg e) p s u c d = neg_fit e p s u c d
  here (Expr-F.Plus e) p s u c d = plus_fit e p s u c d
  here (Expr-F.Not e) p s u c d = not_fit e p s u c d
  here (Expr-F.Binary op a b) p s u c d = binary_fit op a b p s u c d

  layer_checked : (p : Place) (x : Expr-F Expr) → Checked f named line p (roll-Expr x) → LayerChecked p x
  layer_checked p x c = record {
    typed = sym (ap (λ (g : Place → Bool). g p) (fold-roll-Expr (Place → Bool) (mistyped_step f) x)) ∙ c.typed;
    placed = sym (ap (λ (g : Place → Bool). g p) (fold-roll-Expr (Place → Bool) (misplaced_step f) x)) ∙ c.placed;
    exponents = sym (ap (λ (r : Reckoned). r.wrong) (fold-roll-Expr Reckoned (reckoned_step named) x)) ∙ c.exponents;
    texts = sym (fold-roll-Expr Bool text_step x) ∙ c.texts;
    procedures = c.procedures;
    unpassed = subst (λ x. Unpassed p (is_procedure f x)) (out-roll-Expr x) c.unpassed;
  }

  layer_sited : (s : ℕ) (x : Expr-F Expr) → Sited s (roll-Expr x) → LayerSited s x
  layer_sited s x d = record {
    occurs = subst (Each Fine) (fold-roll-Expr Occurrences expr_step x) d.occurs;
    called = subst (λ o. Part callees s (callees_with f o)) (fold-roll-Expr Occurrences expr_step x) d.called;
    passes = subst (λ r. Part passed s (calls (term_from s r))) (layer meant x) d.passes;
  }

  at_layer : (y : Expr-F Both) → Good (roll-Expr (map-Expr Both Expr (λ e. e.0) y))
  at_layer y p s u c d =
      let x : Expr-F Expr = map-Expr Both Expr (λ e. e.0) y in
      subst (λ r. Fit p s r) (sym (layer meant x)) (here y p s u (layer_checked p x c) (layer_sited s x d))

  -- An expression that passed the checks is a term of its type.
  pub term_fits : (e : Expr) → Good e
  term_fits = ind-Expr Good (λ x y is. subst (λ x. Good (roll-Expr x)) is (at_layer y))

  -- ---- targets

  pub record TargetFit (s : ℕ) (r : Resolved) : Type 0 where
    pub fits : TargetOk S (term_from s r)
    pub counts : length (calls (term_from s r)) ≡ sites_in r

  abbrev pub GoodTarget : Expr → Type 0
  GoodTarget e = (s : ℕ) → is_no_variable f e ≡ false → Checked f named line Named e → Sited s e → TargetFit s (resolved meant e)

  named_target : (name : Name) (st : Standing) (s : ℕ) → StandsFor f meant S st name → not (is_scalar st) ≡ false → TargetFit s (plain (bare (meant name)))
  named_target name standing.Scalar s x h = subst (λ m. TargetFit s (plain (bare m))) (sym x.meant_is) (record { fits = (x.fits, assigned x.base 1); counts = refl })
  named_target name st s x h = cc

  element_target : (name : Name) (list : List Expr) (st : Standing) (s : ℕ) → StandsFor f meant S st name → not (is_array st) ≡ false → Each Fine (flat_map in_expr list) → AllChecked f named line (member_place st) list
      → AtName s name list (meant name) (is_function f.attributes name) → TargetFit s (applied (meant name) (all_looked list))
  element_target name list standing.Array s x h occurs all at =
      let m : Meant = names.AnArray x.ty x.array in
      let here : AtName s name list m false = at_meant s name list m x.meant_is at in
      let q : Place = Valued (Some types.Integer) in
      let fit : AllFit q s list = members list (each_all Good term_fits list) q s tt all (record { occurs = occurs; called = here.0; passes = here.1 }) in
      subst (λ m. TargetFit s (applied m (all_looked list))) (sym x.meant_is) (record { fits = (x.fits, assigned x.array.base x.array.length, integers_of list s fit); counts = counts_of q list s fit })
  element_target name list st s x h occurs all at = cc

  target_here : (x : Expr-F Expr) (s : ℕ) → other_at f x ≡ false → LayerChecked Named x → LayerSited s x → TargetFit s (step meant (map-Expr Expr Resolved (resolved meant) x))
  target_here (Expr-F.Scalar name) s h c d = named_target name (standing_of f name) s d.occurs.0.stands h
  target_here (Expr-F.Apply name list) s h c d =
      let i : Inside Named s name list = inside_list name list Named s c d in
      element_target name list (standing_of f name) s i.fine.stands h i.occurs_in i.all i.at
  target_here x s h c d = cc

  target_at : (x : Expr-F Expr) → GoodTarget (roll-Expr x)
  target_at x s h c d = subst (λ r. TargetFit s r) (sym (layer meant x)) (target_here x s (sym (ap (other_at f) (out-roll-Expr x)) ∙ h) (layer_checked Named x c) (layer_sited s x d))

  -- A target that passed the checks is a variable or an element.
  pub target_fits : (e : Expr) → GoodTarget e
  target_fits = ind-Expr GoodTarget (λ x y is. target_at x)
