-- Labels and sites of a unit's statements, looked up. What no accepted unit has, and what isn't executable, is no statement.
use Rattle.std.specs.Prelude.{ℕ, suc, ◌+◌, List, [], ◌∷◌, Option, Some, None, Bool, if◌then◌else◌, map, length}
use Rattle.f77_tree.specs.declared.expr.Expr.{Expr}
use Rattle.f77_tree.specs.declared.form.Form.{Form, out-Form}
use Rattle.f77_tree.specs.declared.form.Form.TheOpen.{Form-F}
use Rattle.f77_tree.specs.declared.unit.Stmt.{Stmt}
use Rattle.f77_names.specs.declared.facts.Facts.{Facts}
use Rattle.f77_values.specs.Tables.{Name}
use Rattle.f77_names.specs.Occurrences.{in_statement}
use Rattle.f77_store.specs.Layouts.{callees_with}
use Rattle.f77_flow.specs.Labels.{target}
use Rattle.f77_flow.specs.Blocks.{otherwise}
use Rattle.f77_semantics.specs.Program as program
use Rattle.f77_semantics.specs.Program.{Term, Terms, Statement}
use Rattle.f77_semantics.specs.Terms.{Meant, Variable, terms_of, term_from, sites_in, resolved as resolved_in}

-- a DO, by what its variable stands for
abbrev pub loop : Meant → (first last : Term) → Option Term → Statement
loop (Variable ty b) first last step = program.Do b first last step
loop _ first last step = program.NoStatement

module _ (meant : Name → Meant) where
  abbrev pub term : Expr → ℕ → Term
  term e s = term_from s (resolved_in meant e)

  abbrev pub sites : Expr → ℕ
  sites e = sites_in (resolved_in meant e)

  abbrev pub terms : List Expr → ℕ → Terms
  terms es s = terms_of (map (resolved_in meant) es) s

  abbrev pub optional : Option Expr → ℕ → Option Term
  optional None s = None
  optional (Some e) s = Some (term e s)

  -- a statement that may stand in a logical IF, from its first site on. In a main program END is STOP.
  abbrev pub simple : (main : Bool) → (to : ℕ → ℕ) → ℕ → Form-F Form → Statement
  simple main to s (Form-F.Assign t e) = program.Assign (term t s) (term e (s + sites t))
  simple main to s (Form-F.ArithmeticIf e a b c) = program.ArithmeticIf (term e s) (to a) (to b) (to c)
  simple main to s (Form-F.GoTo label) = program.GoTo (to label)
  simple main to s (Form-F.ComputedGoTo labels e) = program.ComputedGoTo (map to labels) (term e s)
  simple main to s Form-F.Continue = program.Continue
  simple main to s Form-F.Return = program.Return
  simple main to s Form-F.End = if main then program.Stop else program.Return
  simple main to s Form-F.Stop = program.Stop
  simple main to s (Form-F.Call name es) = program.Call s (terms es (suc s))
  simple main to s (Form-F.Print es) = program.Print (terms es s)
  simple main to s (Form-F.Read es) = program.Read (terms es s)
  simple main to s _ = program.NoStatement

  -- statement k, from its first site on
  abbrev pub statement_of : (main : Bool) → List Stmt → ℕ → ℕ → Form-F Form → Statement
  statement_of main all k s (Form-F.BlockIf e) = program.If (term e s) (otherwise all k)
  statement_of main all k s (Form-F.ElseIf e) = program.If (term e s) (otherwise all k)
  statement_of main all k s (Form-F.LogicalIf e i) = program.LogicalIf (term e s) (simple main (target all) (s + sites e) (out-Form i))
  statement_of main all k s (Form-F.Do label name a b c) = loop (meant name) (term a s) (term b (s + sites a)) (optional c (s + (sites a + sites b)))
  statement_of main all k s Form-F.EndIf = program.Continue
  statement_of main all k s f = simple main (target all) s f

  -- Each statement's first site follows the last of those before it, in the order of the text.
  abbrev pub statements_from : Facts → (main : Bool) → List Stmt → ℕ → ℕ → List Stmt → List Statement
  statements_from facts main all k s [] = []
  statements_from facts main all k s (st ∷ sts) = statement_of main all k s (out-Form st.form) ∷ statements_from facts main all (suc k) (s + length (callees_with facts (in_statement st))) sts
