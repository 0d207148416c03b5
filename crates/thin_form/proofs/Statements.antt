-- What is a statement, and what isn't.
use Rattle.std.proofs.Common.{◌≡◌, Ok, Err, Some, None, ℕ, List, sym, ap, ◌∙◌, refl, subst, rules}
use Rattle.std.specs.Prelude.{IfOk, MatchOption}
use Rattle.std.specs.declared.option.Option.{Option}
use Rattle.std.specs.declared.result.Result.{Result}
use Rattle.std.specs.List.{AllZip}
use Rattle.f77_tree.specs.declared.expr.Expr.{Expr}
use Rattle.f77_tree.specs.declared.form.Form.{Form, the_lemmas}
use Rattle.f77_tree.specs.declared.form.Form.TheVariants as form
use Rattle.thin_form.specs.declared.statement.Item.{Item}
use Rattle.thin_form.specs.declared.statement.Statement.{Statement}
use Rattle.thin_form.specs.declared.statement.Statement.TheVariants.{Print}
use Rattle.thin_form.specs.Lacks.{Lacks}
use Rattle.thin_form.specs.Forms.{IsItemOf, IsAssignmentOf, IsStatementOf, assign, print, end}

no_assign : (tree : Form) (target value : Expr) → tree ≡ form.Assign target value → Lacks (IsAssignmentOf target value) → Lacks (IsStatementOf tree)
no_assign tree target value h none = record { not = go }
  where
    go : (statement : Statement) → IsStatementOf tree statement → ⊥
    go statement (assign t v f a) =
        let z : form.Assign target value ≡ form.Assign t v = sym h ∙ f in
        let same : target ≡ t = search (rules, the_lemmas) in
        let same_value : value ≡ v = search (rules, the_lemmas) in
        none.not statement (subst (λ x. IsAssignmentOf x value statement) (sym same) (subst (λ x. IsAssignmentOf t x statement) (sym same_value) a))
    go statement (print trees items f i s) = let z : form.Assign target value ≡ form.Print trees = sym h ∙ f in search (rules, the_lemmas)
    go statement (end f s) = let z : form.Assign target value ≡ form.End = sym h ∙ f in search (rules, the_lemmas)

pub assign_found : {E : Type 0} (tree : Form) (target value : Expr) (found : Result (Option Statement) E) → tree ≡ form.Assign target value →
    IfOk found (λ x. MatchOption x (Lacks (IsAssignmentOf target value)) (λ s. IsAssignmentOf target value s)) → IfOk found (λ x. MatchOption x (Lacks (IsStatementOf tree)) (λ s. IsStatementOf tree s))
assign_found tree target value (Ok None) h f = no_assign tree target value h f
assign_found tree target value (Ok (Some s)) h f = assign target value h f
assign_found tree target value (Err x) h f = tt

pub no_print : (tree : Form) (trees : List Expr) → tree ≡ form.Print trees → Lacks (AllZip IsItemOf trees) → Lacks (IsStatementOf tree)
no_print tree trees h none = record { not = go }
  where
    go : (statement : Statement) → IsStatementOf tree statement → ⊥
    go statement (assign t v f a) = let z : form.Print trees ≡ form.Assign t v = sym h ∙ f in search (rules, the_lemmas)
    go statement (print others items f i s) =
        let z : form.Print trees ≡ form.Print others = sym h ∙ f in
        let same : trees ≡ others = search (rules, the_lemmas) in
        none.not items (subst (λ x. AllZip IsItemOf x items) (sym same) i)
    go statement (end f s) = let z : form.Print trees ≡ form.End = sym h ∙ f in search (rules, the_lemmas)
