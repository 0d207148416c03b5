-- The routine of a unit has bases in the areas of the program, where what its names stand for has.
use Rattle.std.proofs.Common.{ℕ, zero, suc, ◌+◌, Bool, true, false, List, [], ◌∷◌, ◌++◌, Option, Some, None, map, length, slice_get, sym, subst}
use Rattle.f77_tree.specs.declared.expr.Expr.{Expr, roll-Expr, ind-Expr}
use Rattle.f77_tree.specs.declared.expr.Expr.TheFolds.{map-Expr}
use Rattle.f77_tree.specs.declared.expr.Expr.TheOpen.{Expr-F}
use Rattle.f77_tree.specs.declared.form.Form.{Form, out-Form}
use Rattle.f77_tree.specs.declared.form.Form.TheOpen.{Form-F}
use Rattle.f77_tree.specs.declared.unit.Stmt.{Stmt}
use Rattle.f77_tree.specs.declared.unit.Unit.{Unit as SourceUnit}
use Rattle.f77_tree.specs.declared.unit.UnitKind.{UnitKind}
use Rattle.f77_tree.specs.declared.unit.UnitKind.TheVariants as kind
use Rattle.f77_names.specs.declared.facts.Facts.{Facts}
use Rattle.f77_names.specs.declared.roles.Role.{Role}
use Rattle.f77_names.specs.declared.roles.Role.TheVariants as roles
use Rattle.f77_names.specs.Occurrences.{in_statement}
use Rattle.f77_names.specs.Roles.{facts, role}
use Rattle.f77_values.specs.Tables.{Name}
use Rattle.f77_flow.specs.Labels as labels
use Rattle.f77_store.specs.Layouts.{callees_with}
use Rattle.f77_semantics.specs.Program.{Term, Statement, NoStatement}
use Rattle.f77_semantics.specs.Terms.{Meant, Constant, Variable, AnArray, Function, AnIntrinsic, Unknown, Resolved, terms_of, term_from, bare, applied, step, resolved}
use Rattle.f77_semantics.specs.Resolve.{loop, terms, optional, simple, statement_of, statements_from}
use Rattle.f77_semantics.specs.Source.{bound_of, dummy_array, dummy_arrays_from, result_as, result_of, is_main, routine}
use Rattle.f77_semantics.proofs.Trees.{layer}
use Rattle.sound_units.specs.Units.{meant_of}
use Rattle.area_laws.specs.Touches.{Every}
use Rattle.area_laws.proofs.Bases.{BaseIn, ArrayIn, TermIn, TermsIn, OptionalIn, StatementIn, BoundIn, DummyIn, ResultIn, RoutineIn}

abbrev pub MeantIn : List SourceUnit → SourceUnit → Meant → Type 0
MeantIn units u (Variable ty b) = BaseIn units u b 1
MeantIn units u (AnArray ty a) = ArrayIn units u a
MeantIn units u _ = Unit {0}

module _ (units : List SourceUnit) (u : SourceUnit) (meant : Name → Meant) (fits : (name : Name) → MeantIn units u (meant name)) where
  abbrev IsIn : Resolved → Type 0
  IsIn r = (s : ℕ) → TermIn units u (term_from s r)

  abbrev ExprIn : Expr → Type 0
  ExprIn e = IsIn (resolved meant e)

  -- an expression of which it is known
  abbrev Both : Type 0
  Both = (e : Expr) × ExprIn e

  abbrev inner : List Both → List Resolved
  inner es = map (resolved meant) (map (λ e. e.0) es)

  list_in : (es : List Both) (s : ℕ) → TermsIn units u (terms_of (inner es) s)
  list_in [] s = tt
  list_in (e ∷ es) s = (e.1 s, list_in es _)

  bare_in : (m : Meant) → MeantIn units u m → TermIn units u (bare m)
  bare_in (Constant v) h = tt
  bare_in (Variable ty b) h = h
  bare_in (AnArray ty a) h = h
  bare_in Function h = tt
  bare_in (AnIntrinsic i) h = tt
  bare_in Unknown h = tt

  applied_in : (m : Meant) → MeantIn units u m → (rs : List Resolved) → ((s : ℕ) → TermsIn units u (terms_of rs s)) → IsIn (applied m rs)
  applied_in (Constant v) h rs g s = tt
  applied_in (Variable ty b) h rs g s = tt
  applied_in (AnArray ty a) h rs g s = (h, g s)
  applied_in Function h rs g s = g (suc s)
  applied_in (AnIntrinsic i) h rs g s = g s
  applied_in Unknown h rs g s = tt

  here : (y : Expr-F Both) → IsIn (step meant (map-Expr Expr Resolved (resolved meant) (map-Expr Both Expr (λ e. e.0) y)))
  here (Expr-F.Int n) s = tt
  here (Expr-F.Truth b) s = tt
  here (Expr-F.Text bytes) s = tt
  here (Expr-F.Scalar name) s = bare_in (meant name) (fits name)
  here (Expr-F.Apply name es) s = applied_in (meant name) (fits name) (inner es) (list_in es) s
  here (Expr-F.Paren e) s = e.1 s
  here (Expr-F.Neg e) s = e.1 s
  here (Expr-F.Plus e) s = e.1 s
  here (Expr-F.Not e) s = e.1 s
  here (Expr-F.Binary op a b) s = (a.1 s, b.1 _)

  pub expr_in : (e : Expr) → ExprIn e
  expr_in = ind-Expr ExprIn (λ x y is. subst (λ x. ExprIn (roll-Expr x)) is (subst IsIn (sym (layer meant (map-Expr Both Expr (λ e. e.0) y))) (here y)))

  exprs_in : (es : List Expr) (s : ℕ) → TermsIn units u (terms meant es s)
  exprs_in [] s = tt
  exprs_in (e ∷ es) s = (expr_in e s, exprs_in es _)

  optional_in : (e : Option Expr) (s : ℕ) → OptionalIn units u (optional meant e s)
  optional_in None s = tt
  optional_in (Some e) s = expr_in e s

  -- ---- statements

  abbrev In : Statement → Type 0
  In t = StatementIn units u t

  simple_in : (main : Bool) (to : ℕ → ℕ) (s : ℕ) (F : Form-F Form) → In (simple meant main to s F)
  simple_in main to s (Form-F.Assign t e) = (expr_in t s, expr_in e _)
  simple_in main to s (Form-F.ArithmeticIf e a b c) = expr_in e s
  simple_in main to s (Form-F.ComputedGoTo labels e) = expr_in e s
  simple_in true to s Form-F.End = tt
  simple_in false to s Form-F.End = tt
  simple_in main to s (Form-F.Call name es) = exprs_in es (suc s)
  simple_in main to s (Form-F.Print es) = exprs_in es s
  simple_in main to s (Form-F.Read es) = exprs_in es s
  simple_in main to s F = tt

  loop_in : (m : Meant) → MeantIn units u m → (a b : Term) (c : Option Term) → TermIn units u a → TermIn units u b → OptionalIn units u c → In (loop m a b c)
  loop_in (Variable ty base) h a b c p q r = (h, p, q, r)
  loop_in m h a b c p q r = tt

  statement_in : (main : Bool) (all : List Stmt) (k s : ℕ) (F : Form-F Form) → In (statement_of meant main all k s F)
  statement_in main all k s (Form-F.BlockIf e) = expr_in e s
  statement_in main all k s (Form-F.ElseIf e) = expr_in e s
  statement_in main all k s (Form-F.LogicalIf e i) = (expr_in e s, simple_in main (labels.target all) _ (out-Form i))
  statement_in main all k s (Form-F.Do label name a b c) = loop_in (meant name) (fits name) _ _ _ (expr_in a s) (expr_in b _) (optional_in c _)
  statement_in main all k s Form-F.EndIf = tt
  statement_in main all k s F = simple_in main (labels.target all) s F

  abbrev AtIn : Option Statement → Type 0
  AtIn o = In (elim o [ None ↦ NoStatement | Some t ↦ t ])

  statements_in : (f : Facts) (main : Bool) (all : List Stmt) (k s : ℕ) (sts : List Stmt) (j : ℕ) → AtIn (slice_get (statements_from meant f main all k s sts) j)
  statements_in f main all k s [] j = tt
  statements_in f main all k s (st ∷ sts) zero = statement_in main all k s (out-Form st.form)
  statements_in f main all k s (st ∷ sts) (suc j) = statements_in f main all (suc k) (s + length (callees_with f (in_statement st))) sts j

  -- ---- dummy arrays, and a result

  bounds_in : (bs : List (Option Expr × Option Expr)) → Every (BoundIn units u) (map (bound_of meant) bs)
  bounds_in [] = tt
  bounds_in (b ∷ bs) = ((optional_in b.0 1, optional_in b.1 1), bounds_in bs)

  every_both : {A : Type 0} (P : A → Type 0) (xs ys : List A) → Every P xs → Every P ys → Every P (xs ++ ys)
  every_both P [] ys h k = k
  every_both P (x ∷ xs) ys h k = (h.0, every_both P xs ys h.1 k)

  dummy_in : (k : ℕ) (r : Role) → Every (DummyIn units u) (dummy_array meant k r)
  dummy_in k (roles.Array bounds) = (bounds_in bounds, tt)
  dummy_in k r = tt

  dummies_in : (f : Facts) (k : ℕ) (ns : List Name) → Every (DummyIn units u) (dummy_arrays_from f meant k ns)
  dummies_in f k [] = tt
  dummies_in f k (n ∷ ns) = every_both (DummyIn units u) (dummy_array meant k (role f n)) (dummy_arrays_from f meant (suc k) ns) (dummy_in k (role f n)) (dummies_in f (suc k) ns)

  as_in : (m : Meant) → MeantIn units u m → ResultIn units u (result_as m)
  as_in (Variable ty b) h = h
  as_in m h = tt

  result_in : (k : UnitKind) (m : Meant) → MeantIn units u m → ResultIn units u (result_of k m)
  result_in kind.Function m h = as_in m h
  result_in k m h = tt

pub routine_in : (units : List SourceUnit) (u : SourceUnit) → ((name : Name) → MeantIn units u (meant_of u name)) → RoutineIn units u (routine u)
routine_in units u fits = record {
  each = λ k. statements_in units u (meant_of u) fits (facts u) (is_main u.kind) u.statements 0 1 u.statements k;
  arrays = dummies_in units u (meant_of u) fits (facts u) 0 u.dummies;
  result = result_in units u (meant_of u) fits u.kind (meant_of u u.name) (fits u.name);
}
