-- What each site of an accepted program passes fits its callee.
use Rattle.std.proofs.Common.{◌≡◌, ℕ, suc, ◌==◌, Bool, false, not, ◌&&◌, ◌||◌, Option, Some, None, List, [], ◌∷◌, length, map, zip, slice_get, refl, sym, ap, ◌∙◌, subst, arith, is_some}
use Rattle.std.specs.List.{list_any}
use Rattle.std.proofs.lemmas.Bool.{eqb-true}
use Rattle.f77_tree.specs.declared.expr.Expr.{Expr, out-Expr}
use Rattle.f77_tree.specs.declared.unit.Unit.{Unit as SourceUnit}
use Rattle.f77_names.specs.declared.roles.Role.{Role}
use Rattle.f77_names.specs.declared.roles.Role.TheVariants as roles
use Rattle.f77_names.specs.Roles.{facts, role, type_of}
use Rattle.f77_values.specs.Tables.{Name}
use Rattle.f77_semantics.specs.Program.{Term, Literal, Text, Variable, Element, Whole, Reference, Apply, Paren, Negative, Plus, Not, Binary, NoTerm, Terms, End, ◌and◌, Statement, Assign, If, LogicalIf, ArithmeticIf, GoTo, ComputedGoTo, Do, Continue, Call, Return, Stop, Print, Read, NoStatement}
use Rattle.f77_semantics.specs.Terms.{term_from, resolved}
use Rattle.f77_semantics.specs.Resolve.{terms}
use Rattle.f77_semantics.specs.Statements.{statement}
use Rattle.f77_semantics.specs.Source.{routine}
use Rattle.call_cycles.specs.Marks.{mark_at}
use Rattle.prog_texts.specs.declared.mentions.Actual.{Actual}
use Rattle.prog_texts.specs.declared.mentions.Mention.{Mention}
use Rattle.prog_texts.specs.declared.mentions.Mention.TheVariants.{Site}
use Rattle.prog_texts.specs.declared.signatures.Dummy.{Dummy}
use Rattle.prog_texts.specs.declared.signatures.Signature.{Signature}
use Rattle.prog_texts.specs.Mentions as said
use Rattle.prog_texts.specs.Mentions.{mentions}
use Rattle.prog_texts.specs.Signatures.{shape, dummy, signature, signatures, unit_of}
use Rattle.prog_check.specs.declared.checks.Check.{Check}
use Rattle.prog_check.specs.declared.checks.Check.TheVariants as check
use Rattle.prog_check.specs.Checks.{differs, is_misshapen, is_mistyped, is_misfit, has_misfit, miscounts, misfits, shows, line_of, number_of}
use Rattle.prog_check.specs.ProgramFaults.{IsAccepted, calls as of_calls, text, by_text}
use Rattle.check_types.specs.ExpressionTypes.{expression_type}
use Rattle.f77_tree.specs.declared.unit.Ty.{Ty}
use Rattle.sound_units.specs.Units.{meant_of, effects}
use Rattle.sound_units.specs.Accepted.{IsGood}
use Rattle.sound_units.proofs.Entering.{names_fit}
use Rattle.sound_units.proofs.Excluding.{functions_agree}
use Rattle.sound_units.proofs.Programs.{no_procedure}
use Rattle.sound_units.proofs.Lists.{untrue, or_left, or_right, not_false}
use Rattle.sound_units.proofs.Naming.{HasUnit, unit_known}
use Rattle.actual_laws.specs.Calls.{InTerm, InTerms, InOptional, InStatement}
use Rattle.actual_laws.specs.Fits.{FitsRole, FitsType, AllFit, SiteFits}
use Rattle.actual_laws.specs.Laws.{ActualsFitDummies}
use Rattle.actual_laws.proofs.Sites.{Passed, AllTyped, calls_passed}
use Rattle.actual_laws.proofs.Types.{TypedAt}
use Rattle.actual_laws.proofs.Shapes.{shaped}

-- ---- what holds of calls for another reason

module _ (P Q : ℕ → Terms → Type 0) (g : (s : ℕ) (es : Terms) → P s es → Q s es) where
  mutual
    term_weaker : (t : Term) → InTerm P t → InTerm Q t
    term_weaker (Literal v) h = tt
    term_weaker (Text bs) h = tt
    term_weaker (Variable ty b) h = tt
    term_weaker (Element ty a es) h = terms_weaker es h
    term_weaker (Whole a) h = tt
    term_weaker (Reference s es) h = (g s es h.0, terms_weaker es h.1)
    term_weaker (Apply i es) h = terms_weaker es h
    term_weaker (Paren e) h = term_weaker e h
    term_weaker (Negative e) h = term_weaker e h
    term_weaker (Plus e) h = term_weaker e h
    term_weaker (Not e) h = term_weaker e h
    term_weaker (Binary op a b) h = (term_weaker a h.0, term_weaker b h.1)
    term_weaker NoTerm h = tt

    terms_weaker : (es : Terms) → InTerms P es → InTerms Q es
    terms_weaker End h = tt
    terms_weaker (e and es) h = (term_weaker e h.0, terms_weaker es h.1)

  optional_weaker : (o : Option Term) → InOptional P o → InOptional Q o
  optional_weaker None h = tt
  optional_weaker (Some e) h = term_weaker e h

  statement_weaker : (t : Statement) → InStatement P t → InStatement Q t
  statement_weaker (Assign t e) h = (term_weaker t h.0, term_weaker e h.1)
  statement_weaker (If e o) h = term_weaker e h
  statement_weaker (LogicalIf e s) h = (term_weaker e h.0, statement_weaker s h.1)
  statement_weaker (ArithmeticIf e a b c) h = term_weaker e h
  statement_weaker (GoTo l) h = tt
  statement_weaker (ComputedGoTo ls e) h = term_weaker e h
  statement_weaker (Do b e1 e2 e3) h = (term_weaker e1 h.0, term_weaker e2 h.1, optional_weaker e3 h.2)
  statement_weaker Continue h = tt
  statement_weaker (Call s es) h = (g s es h.0, terms_weaker es h.1)
  statement_weaker Return h = tt
  statement_weaker Stop h = tt
  statement_weaker (Print es) h = terms_weaker es h
  statement_weaker (Read es) h = terms_weaker es h
  statement_weaker NoStatement h = tt

-- ---- a site without faults

module _ (u v : SourceUnit) where
  one_fits : (r : Role) (e : Expr) (s : ℕ) → is_misshapen (shape r) (said.actual (facts u) e) ≡ false → FitsRole r (term_from s (resolved (meant_of u) e))
  one_fits (roles.Array b) e s h = (shaped u e s).1 (not_false (said.is_array (facts u) (out-Expr e) || said.is_element (facts u) (out-Expr e)) h)
  one_fits roles.Scalar e s h = (shaped u e s).0 h
  one_fits r e s h = tt

  -- a dummy's type, where the actual is no procedure
  type_fits : (o : Option Ty) (e : Expr) (s : ℕ) → TypedAt u e s → said.is_procedure (facts u) (out-Expr e) ≡ false → (not (said.is_procedure (facts u) (out-Expr e)) && differs o (expression_type (facts u) e)) ≡ false → FitsType (effects u) o (term_from s (resolved (meant_of u) e))
  type_fits None e s t q h = tt
  type_fits (Some ty) e s t q h = t ty (sym (ap (λ b. not b && differs (Some ty) (expression_type (facts u) e)) q) ∙ h)

  all_fit : (ds : List Name) (es : List Expr) (s : ℕ) → AllTyped u es s → length (map (said.actual (facts u)) es) ≡ length (map (dummy (facts v)) ds)
      → list_any (λ (a : Actual). a.is_procedure) (map (said.actual (facts u)) es) ≡ false → has_misfit (map (dummy (facts v)) ds) (map (said.actual (facts u)) es) ≡ false → AllFit u v ds (terms (meant_of u) es s)
  all_fit [] [] s t l q h = tt
  all_fit (d ∷ ds) (e ∷ es) s t l q h =
      let pair : Dummy × Actual = (dummy (facts v) d, said.actual (facts u) e) in
      let rest : Bool = list_any is_misfit (zip (map (dummy (facts v)) ds) (map (said.actual (facts u)) es)) in
      let quiet : Bool = list_any (λ (a : Actual). a.is_procedure) (map (said.actual (facts u)) es) in
      let one : is_misfit pair ≡ false = or_left (is_misfit pair) rest h in (
        one_fits (role (facts v) d) e s (or_right (is_mistyped pair.0 pair.1) (is_misshapen pair.0.shape pair.1) one),
        type_fits (type_of (facts v) d) e s t.0 (or_left (said.is_procedure (facts u) (out-Expr e)) quiet q) (or_left (is_mistyped pair.0 pair.1) (is_misshapen pair.0.shape pair.1) one),
        all_fit ds es _ t.1 (omega (arith, l)) (or_right (said.is_procedure (facts u) (out-Expr e)) quiet q) (or_right (is_misfit pair) rest h),
      )
  all_fit [] (e ∷ es) s t l q h = absurd (omega (arith, l))
  all_fit (d ∷ ds) [] s t l q h = absurd (omega (arith, l))

module _ (units : List SourceUnit) (accepted : IsAccepted units) (place : ℕ) (u : SourceUnit) (stands : slice_get units place ≡ Some u) where
  -- what is said shows no fault
  quiet : (c : Check) (at : ℕ) (m : Mention) → slice_get (mentions u) at ≡ Some m → shows c (signatures units) m ≡ false
  quiet c at m e = untrue (shows c (signatures units) m) (λ h. accepted.none (mark_at (number_of c) 0 (Some place) (line_of m)) (of_calls (by_text (text c (record { place = place; unit = u; stands = stands; at = at; mention = m; says = e; holds = h; mark_is = refl })))))

  known : (o : Option Signature) → not (is_some o) ≡ false → (s : Signature) × (o ≡ Some s)
  known None h = cc
  known (Some s) h = (s, refl)

  same_count : (n m : ℕ) → not (n == m) ≡ false → n ≡ m
  same_count n m h = eqb-true n m (not_false (n == m) h)

  site_fits : (s : ℕ) (es : Terms) → Passed u s es → SiteFits units u s es
  site_fits s es x =
      let found = known (unit_of (signatures units) x.site.callee) (quiet check.Callee x.says.at (Site x.site) x.says.is) in
      let sig : Signature = found.0 in
      let v : HasUnit units (x.site.callee, sig) = unit_known units x.site.callee sig found.1 in
      let counts : miscounts x.site (Some (signature v.unit v.place)) ≡ false = subst (λ s. miscounts x.site (Some s) ≡ false) v.is (subst (λ o. miscounts x.site o ≡ false) found.1 (quiet check.Count x.says.at (Site x.site) x.says.is)) in
      let fit : misfits x.site (Some (signature v.unit v.place)) ≡ false = subst (λ s. misfits x.site (Some s) ≡ false) v.is (subst (λ o. misfits x.site o ≡ false) found.1 (quiet check.Actual x.says.at (Site x.site) x.says.is)) in
      record {
        place = v.place;
        unit = v.unit;
        stands = v.stands;
        called = x.called ∙ ap Some (sym v.name_is);
        fits = subst (AllFit u v.unit v.unit.dummies) (sym x.terms_are)
            (all_fit u v.unit v.unit.dummies x.expressions (suc s) x.typed (ap length (sym x.actuals_are) ∙ same_count (length x.site.actuals) (length (map (dummy (facts v.unit)) v.unit.dummies)) counts) (subst (λ a. list_any (λ (a : Actual). a.is_procedure) a ≡ false) x.actuals_are (quiet check.Procedure x.says.at (Site x.site) x.says.is)) (subst (λ a. has_misfit (map (dummy (facts v.unit)) v.unit.dummies) a ≡ false) x.actuals_are fit));
      }

pub actuals_fit : ActualsFitDummies
actuals_fit units good differ accepted place u stands k =
    let x : IsGood u = good place u stands in
    statement_weaker (Passed u) (SiteFits units u) (site_fits units accepted place u stands) (statement (routine u) k)
    (calls_passed u (functions_agree u x.sound x.text) (names_fit u x.sound x.text (no_procedure units good differ accepted place u stands)) k)
