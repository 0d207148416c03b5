-- What thin statements are as trees, layer by layer.
use Rattle.std.proofs.Common.{◌≡◌, Bool, false, List, [], ◌∷◌, ◌++◌, map, flat_map, refl, sym, ap, ◌∙◌, append_assoc, append-nil, ◌||◌}
use Rattle.std.specs.List.{AllZip, list_any}
use Rattle.std.proofs.lemmas.Grind.{flat_map-append}
use Rattle.std.proofs.lemmas.List.{map-append}
use Rattle.run_model.specs.Storage.{Name}
use Rattle.f77_tree.specs.declared.expr.Expr.{Expr, fold-roll-Expr}
use Rattle.f77_tree.specs.declared.expr.Expr.TheOpen.{Expr-F}
use Rattle.f77_tree.specs.declared.expr.Expr.TheVariants.{rolls-Int, rolls-Text, rolls-Scalar, rolls-Binary}
use Rattle.f77_tree.specs.declared.expr.Expr.TheVariants as e
use Rattle.f77_tree.specs.declared.form.Form.{Form, out-Form, fold-roll-Form}
use Rattle.f77_tree.specs.declared.form.Form.TheVariants.{rolls-Assign, rolls-Print, rolls-End}
use Rattle.f77_tree.specs.declared.form.Form.TheOpen.{Form-F}
use Rattle.f77_tree.specs.declared.form.Form.TheVariants as form
use Rattle.f77_tree.specs.declared.form.Form.TheViews.{outs-Assign, outs-Print, outs-End}
use Rattle.f77_tree.specs.declared.unit.Stmt.{Stmt}
use Rattle.f77_names.specs.declared.occurrences.Manner.TheVariants.{Plain}
use Rattle.f77_names.specs.Occurrences.{Occurrences, occurs, expr_step, form_step, in_expr, in_form, in_statement}
use Rattle.thin_form.specs.declared.statement.Term.{Term}
use Rattle.thin_form.specs.declared.statement.Addend.{Addend}
use Rattle.thin_form.specs.declared.statement.Item.{Item}
use Rattle.thin_form.specs.declared.statement.Statement.{Statement}
use Rattle.thin_form.specs.Forms.{IsTermOf, variable, integer, op_of, IsSumOf, alone, joined, IsItemOf, value, literal, IsStatementOf, assign, print, end}
use Rattle.thin_code.specs.Layout.{term_names, item_names, statement_names}
use Rattle.thin_meaning.specs.Units.{IsThinStmt}

-- ---- what is the same for each form that isn't thin

module _ {X : Type 0} (g : Form-F Form → X) (d : X) (a : (t v : Expr) → g (Form-F.Assign t v) ≡ d) (p : (es : List Expr) → g (Form-F.Print es) ≡ d) (z : g Form-F.End ≡ d) where
  pub plain : (form : Form) (statement : Statement) → IsStatementOf form statement → g (out-Form form) ≡ d
  plain f s (assign t v f-is i) = ap (λ f. g (out-Form f)) f-is ∙ (ap g (outs-Assign t v) ∙ a t v)
  plain f s (print es items f-is i m) = ap (λ f. g (out-Form f)) f-is ∙ (ap g (outs-Print es) ∙ p es)
  plain f s (end f-is m) = ap (λ f. g (out-Form f)) f-is ∙ (ap g outs-End ∙ z)

pub none_of : {X : Type 0} (g : Stmt → List X) → ((s : Stmt) (t : Statement) → IsThinStmt s t → g s ≡ []) → (ss : List Stmt) (body : List Statement) → AllZip IsThinStmt ss body → flat_map g ss ≡ []
none_of g h [] [] z = refl
none_of g h [] (t ∷ body) z = absurd z
none_of g h (s ∷ ss) [] z = absurd z
none_of g h (s ∷ ss) (t ∷ body) z = ap (λ xs. xs ++ flat_map g ss) (h s t z.0) ∙ none_of g h ss body z.1

pub no_one : (g : Stmt → Bool) → ((s : Stmt) (t : Statement) → IsThinStmt s t → g s ≡ false) → (ss : List Stmt) (body : List Statement) → AllZip IsThinStmt ss body → list_any g ss ≡ false
no_one g h [] [] z = refl
no_one g h [] (t ∷ body) z = absurd z
no_one g h (s ∷ ss) [] z = absurd z
no_one g h (s ∷ ss) (t ∷ body) z = ap (λ b. b || list_any g ss) (h s t z.0) ∙ no_one g h ss body z.1

-- ---- the names of a statement

-- a name without a list
abbrev pub plainly : List Name → Occurrences
plainly ns = map (occurs Plain) ns

int_occurs : (n : _) → in_expr (e.Int n) ≡ []
int_occurs n = ap in_expr (sym (rolls-Int n)) ∙ fold-roll-Expr Occurrences expr_step (Expr-F.Int n)

text_occurs : (bytes : List _) → in_expr (e.Text bytes) ≡ []
text_occurs bytes = ap in_expr (sym (rolls-Text bytes)) ∙ fold-roll-Expr Occurrences expr_step (Expr-F.Text bytes)

scalar_occurs : (name : Name) → in_expr (e.Scalar name) ≡ occurs Plain name ∷ []
scalar_occurs name = ap in_expr (sym (rolls-Scalar name)) ∙ fold-roll-Expr Occurrences expr_step (Expr-F.Scalar name)

binary_occurs : (op : _) (a b : Expr) → in_expr (e.Binary op a b) ≡ in_expr a ++ in_expr b
binary_occurs op a b = ap in_expr (sym (rolls-Binary op a b)) ∙ fold-roll-Expr Occurrences expr_step (Expr-F.Binary op a b)

term_occurs : (tree : Expr) (t : Term) → IsTermOf tree t → in_expr tree ≡ plainly (term_names t)
term_occurs tree t (variable name h i m) = ap in_expr h ∙ (scalar_occurs name ∙ ap (λ t. plainly (term_names t)) (sym m))
term_occurs tree t (integer x h n m) = ap in_expr h ∙ (int_occurs x ∙ ap (λ t. plainly (term_names t)) (sym m))

abbrev more_names : List Addend → List Name
more_names more = flat_map (λ a. term_names a.term) more

-- one term more
pub names_more : (first : Term) (before : List Addend) (last : Addend) → term_names first ++ flat_map (λ a. term_names a.term) (before ++ last ∷ []) ≡ (term_names first ++ flat_map (λ a. term_names a.term) before) ++ term_names last.term
names_more first before last =
    ap (λ ns. term_names first ++ ns) (flat_map-append (λ a. term_names a.term) before (last ∷ []) ∙ ap (λ ns. more_names before ++ ns) (append-nil (term_names last.term)))
    ∙ sym (append_assoc (term_names first) (more_names before) (term_names last.term))

sum_occurs : (tree : Expr) (first : Term) (more : List Addend) → IsSumOf tree first more → in_expr tree ≡ plainly (term_names first ++ more_names more)
sum_occurs tree first more (alone t m) = term_occurs tree first t ∙ ap plainly (sym (append-nil (term_names first)) ∙ ap (λ m. term_names first ++ more_names m) (sym m))
sum_occurs tree first more (joined {a = a} {b = b} {before = before} last h s t m) =
    ap in_expr h
    ∙ (binary_occurs (op_of last.sign) a b
    ∙ ((λ i. sum_occurs a first before s i ++ term_occurs b last.term t i)
    ∙ (sym (map-append (occurs Plain) (term_names first ++ more_names before) (term_names last.term))
    ∙ ap plainly (sym (names_more first before last) ∙ ap (λ m. term_names first ++ more_names m) (sym m)))))

item_occurs : (tree : Expr) (i : Item) → IsItemOf tree i → in_expr tree ≡ plainly (item_names i)
item_occurs tree i (value t h m) = term_occurs tree t h ∙ ap (λ i. plainly (item_names i)) (sym m)
item_occurs tree i (literal bytes h m) = ap in_expr h ∙ (text_occurs bytes ∙ ap (λ i. plainly (item_names i)) (sym m))

items_occur : (trees : List Expr) (is : List Item) → AllZip IsItemOf trees is → flat_map in_expr trees ≡ plainly (flat_map item_names is)
items_occur [] [] z = refl
items_occur [] (i ∷ is) z = absurd z
items_occur (t ∷ trees) [] z = absurd z
items_occur (t ∷ trees) (i ∷ is) z = (λ j. item_occurs t i z.0 j ++ items_occur trees is z.1 j) ∙ sym (map-append (occurs Plain) (item_names i) (flat_map item_names is))

assign_occurs : (t v : Expr) → in_form (form.Assign t v) ≡ in_expr t ++ in_expr v
assign_occurs t v = ap in_form (sym (rolls-Assign t v)) ∙ fold-roll-Form Occurrences form_step (Form-F.Assign t v)

print_occurs : (es : List Expr) → in_form (form.Print es) ≡ flat_map in_expr es
print_occurs es = ap in_form (sym (rolls-Print es)) ∙ fold-roll-Form Occurrences form_step (Form-F.Print es)

end_occurs : in_form form.End ≡ []
end_occurs = ap in_form (sym rolls-End) ∙ fold-roll-Form Occurrences form_step Form-F.End

form_occurs : (f : Form) (s : Statement) → IsStatementOf f s → in_form f ≡ plainly (statement_names s)
form_occurs f s (assign t v h a) =
    ap in_form h
    ∙ (assign_occurs t v
    ∙ ((λ i. (ap in_expr a.variable ∙ scalar_occurs a.name) i ++ sum_occurs v a.first a.more a.sum i)
    ∙ ap (λ s. plainly (statement_names s)) (sym a.made)))
form_occurs f s (print es is h z m) = ap in_form h ∙ (print_occurs es ∙ (items_occur es is z ∙ ap (λ s. plainly (statement_names s)) (sym m)))
form_occurs f s (end h m) = ap in_form h ∙ (end_occurs ∙ ap (λ s. plainly (statement_names s)) (sym m))

pub statements_occur : (ss : List Stmt) (body : List Statement) → AllZip IsThinStmt ss body → flat_map in_statement ss ≡ plainly (flat_map statement_names body)
statements_occur [] [] z = refl
statements_occur [] (t ∷ body) z = absurd z
statements_occur (s ∷ ss) [] z = absurd z
statements_occur (s ∷ ss) (t ∷ body) z = (λ j. form_occurs s.form t z.0 j ++ statements_occur ss body z.1 j) ∙ sym (map-append (occurs Plain) (statement_names t) (flat_map statement_names body))
