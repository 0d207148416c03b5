-- The trees of thin statements, looked up where each name is a variable of the local area.
use Rattle.std.proofs.Common.{◌≡◌, ℕ, suc, ◌+◌, Bool, true, false, ◌||◌, if◌then◌else◌, List, [], ◌∷◌, ◌++◌, map, flat_map, fold, length, refl, sym, ap, ◌∙◌, subst}
use Rattle.std.specs.List.{AllZip}
use Rattle.std.proofs.lemmas.List.Sums.{fold-append}
use Rattle.std.proofs.lemmas.List.Folds.{list_any-append}
use Rattle.std.proofs.lemmas.Cmp.{nat_list_eq_equiv}
use Rattle.run_model.specs.Storage.{Name, name_eq}
use Rattle.f77_tree.specs.declared.expr.Expr.{Expr}
use Rattle.f77_tree.specs.declared.expr.Expr.TheOpen.{Expr-F}
use Rattle.f77_tree.specs.declared.expr.Expr.TheVariants as e
use Rattle.f77_tree.specs.declared.expr.Expr.TheVariants.{rolls-Int, rolls-Text, rolls-Scalar, rolls-Binary}
use Rattle.f77_tree.specs.declared.form.Form.{Form, out-Form}
use Rattle.f77_tree.specs.declared.form.Form.TheViews.{outs-Assign, outs-Print, outs-End}
use Rattle.f77_tree.specs.declared.unit.Stmt.{Stmt}
use Rattle.f77_tree.specs.declared.unit.Ty.TheVariants as types
use Rattle.f77_names.specs.declared.facts.Facts.{Facts}
use Rattle.f77_values.specs.Tables.{is_among, with_name, distinct}
use Rattle.f77_names.specs.Occurrences.{in_statement}
use Rattle.f77_store.specs.Layouts.{callees_with}
use Rattle.f77_semantics.specs.Program as program
use Rattle.f77_semantics.specs.Program.{Term}
use Rattle.f77_semantics.specs.declared.storage.Base.TheVariants.{Own}
use Rattle.f77_semantics.specs.Terms.{Meant, Resolved, term_from, sites_in, terms_of, plain, bare, resolved}
use Rattle.f77_semantics.specs.Terms as names
use Rattle.f77_semantics.specs.Resolve.{statement_of, statements_from}
use Rattle.f77_semantics.proofs.Trees.{layer}
use Rattle.thin_form.specs.declared.statement.Term.{Term as ThinTerm}
use Rattle.thin_form.specs.declared.statement.Addend.{Addend}
use Rattle.thin_form.specs.declared.statement.Item.{Item}
use Rattle.thin_form.specs.declared.statement.Statement.{Statement}
use Rattle.thin_form.specs.declared.statement.Statement.TheVariants.{Assign}
use Rattle.thin_form.specs.Forms.{IsTermOf, variable, integer, op_of, IsSumOf, alone, joined, IsItemOf, value, literal, IsStatementOf, assign, print, end}
use Rattle.thin_code.specs.Layout.{term_names, item_names, statement_names, offset_of}
use Rattle.thin_meaning.specs.Units.{IsThinStmt}
use Rattle.thin_meaning.proofs.Layers.{names_more}
use Rattle.thin_meaning.proofs.Images as images
use Rattle.thin_meaning.proofs.Images.{term_image, added, sum_image, item_image, items_image, image}

-- ---- names among others

abbrev pub Among : List Name → List Name → Type 0
Among known [] = Unit {0}
Among known (n ∷ ns) = (is_among known n ≡ true) × Among known ns

pub among_left : (known a b : List Name) → Among known (a ++ b) → Among known a
among_left known [] b h = tt
among_left known (n ∷ a) b h = (h.0, among_left known a b h.1)

pub among_right : (known a b : List Name) → Among known (a ++ b) → Among known b
among_right known [] b h = h
among_right known (n ∷ a) b h = among_right known a b h.1

or_left : (a b : Bool) → a ≡ true → (a || b) ≡ true
or_left true b e = refl
or_left false b e = cc

or_right : (a b : Bool) → b ≡ true → (a || b) ≡ true
or_right true b e = refl
or_right false b e = e

among_push : (ns : List Name) (n q : Name) → is_among ns q ≡ true → is_among (ns ++ n ∷ []) q ≡ true
among_push ns n q h = list_any-append (name_eq q) ns (n ∷ []) ∙ or_left (is_among ns q) (is_among (n ∷ []) q) h

-- what is known stays known
stays : (more ns : List Name) (q : Name) → is_among ns q ≡ true → is_among (fold with_name ns more) q ≡ true
stays [] ns q h = h
stays (n ∷ more) ns q h = stays more (with_name ns n) q (go (is_among ns n))
  where
    go : (b : Bool) → is_among (if b then ns else ns ++ n ∷ []) q ≡ true
    go true = h
    go false = among_push ns n q h

comes : (ns : List Name) (n : Name) → is_among (with_name ns n) n ≡ true
comes ns n = go (is_among ns n) refl
  where
    go : (b : Bool) → is_among ns n ≡ b → is_among (if b then ns else ns ++ n ∷ []) n ≡ true
    go true e = e
    go false e = list_any-append (name_eq n) ns (n ∷ []) ∙ or_right (is_among ns n) (is_among (n ∷ []) n) (ap (λ b. b || false) (nat_list_eq_equiv.refl n))

among_fold : (more ns : List Name) → Among (fold with_name ns more) more
among_fold [] ns = tt
among_fold (n ∷ more) ns = (stays more (with_name ns n) n (comes ns n), among_fold more (with_name ns n))

-- each name of a text is among its names
pub among_distinct : (all : List Name) → Among (distinct all) all
among_distinct all = among_fold all []

-- ---- expressions

module _ (known : List Name) (meant : Name → Meant) (stands : (name : Name) → is_among known name ≡ true → meant name ≡ names.Variable types.Integer (Own (offset_of known name))) where
  scalar_looked : (name : Name) → is_among known name ≡ true → resolved meant (e.Scalar name) ≡ plain (images.variable known name)
  scalar_looked name h = ap (resolved meant) (sym (rolls-Scalar name)) ∙ (layer meant (Expr-F.Scalar name) ∙ ap (λ m. plain (bare m)) (stands name h))

  term_looked : (tree : Expr) (t : ThinTerm) → IsTermOf tree t → Among known (term_names t) → resolved meant tree ≡ plain (term_image known t)
  term_looked tree t (variable name h i m) a = ap (resolved meant) h ∙ (scalar_looked name (subst (λ t. Among known (term_names t)) m a).0 ∙ ap (λ t. plain (term_image known t)) (sym m))
  term_looked tree t (integer x h n m) a = ap (resolved meant) (h ∙ sym (rolls-Int x)) ∙ (layer meant (Expr-F.Int x) ∙ ap (λ t. plain (term_image known t)) (sym m))

  sum_looked : (tree : Expr) (first : ThinTerm) (more : List Addend) → IsSumOf tree first more → Among known (term_names first ++ flat_map (λ a. term_names a.term) more) → resolved meant tree ≡ plain (sum_image known first more)
  sum_looked tree first more (alone t m) a = term_looked tree first t (among_left known (term_names first) (flat_map (λ a. term_names a.term) more) a) ∙ ap (λ m. plain (sum_image known first m)) (sym m)
  sum_looked tree first more (joined {a = l} {b = r} {before = before} last h s t m) a =
      let both : Among known ((term_names first ++ flat_map (λ a. term_names a.term) before) ++ term_names last.term) =
      subst (Among known) (ap (λ m. term_names first ++ flat_map (λ a. term_names a.term) m) m ∙ names_more first before last) a in
      let left : resolved meant l ≡ plain (sum_image known first before) = sum_looked l first before s (among_left known (term_names first ++ flat_map (λ a. term_names a.term) before) (term_names last.term) both) in
      let right : resolved meant r ≡ plain (term_image known last.term) = term_looked r last.term t (among_right known (term_names first ++ flat_map (λ a. term_names a.term) before) (term_names last.term) both) in
      ap (resolved meant) (h ∙ sym (rolls-Binary (op_of last.sign) l r))
      ∙ (layer meant (Expr-F.Binary (op_of last.sign) l r)
      ∙ ((λ i. names.step meant (Expr-F.Binary (op_of last.sign) (left i) (right i)))
      ∙ ap plain (sym (fold-append (added known) (term_image known first) before (last ∷ [])) ∙ ap (sum_image known first) (sym m))))

  item_looked : (tree : Expr) (i : Item) → IsItemOf tree i → Among known (item_names i) → resolved meant tree ≡ plain (item_image known i)
  item_looked tree i (value t h m) a = term_looked tree t h (subst (λ i. Among known (item_names i)) m a) ∙ ap (λ i. plain (item_image known i)) (sym m)
  item_looked tree i (literal bytes h m) a = ap (resolved meant) (h ∙ sym (rolls-Text bytes)) ∙ (layer meant (Expr-F.Text bytes) ∙ ap (λ i. plain (item_image known i)) (sym m))

  items_looked : (trees : List Expr) (is : List Item) → AllZip IsItemOf trees is → Among known (flat_map item_names is) → (s : ℕ) → terms_of (map (resolved meant) trees) s ≡ items_image known is
  items_looked [] [] z a s = refl
  items_looked [] (i ∷ is) z a s = absurd z
  items_looked (t ∷ trees) [] z a s = absurd z
  items_looked (t ∷ trees) (i ∷ is) z a s =
      ap (λ r. program.◌and◌ (term_from s r) (terms_of (map (resolved meant) trees) (s + sites_in r))) (item_looked t i z.0 (among_left known (item_names i) (flat_map item_names is) a))
      ∙ ap (λ ts. program.◌and◌ (item_image known i) ts) (items_looked trees is z.1 (among_right known (item_names i) (flat_map item_names is) a) (s + 0))

  -- ---- statements

  form_looked : (f : Form) (t : Statement) → IsStatementOf f t → Among known (statement_names t) → (all : List Stmt) (k s : ℕ) → statement_of meant true all k s (out-Form f) ≡ image known t
  form_looked f t (assign target v h x) a all k s =
      let own : Among known (statement_names (Assign x.name x.first x.more)) = subst (λ t. Among known (statement_names t)) x.made a in
      let left : resolved meant target ≡ plain (images.variable known x.name) = ap (resolved meant) x.variable ∙ scalar_looked x.name own.0 in
      let right : resolved meant v ≡ plain (sum_image known x.first x.more) = sum_looked v x.first x.more x.sum own.1 in
      ap (λ f. statement_of meant true all k s (out-Form f)) h
      ∙ (ap (statement_of meant true all k s) (outs-Assign target v)
      ∙ ((λ i. program.Assign (term_from s (left i)) (term_from (s + sites_in (left i)) (right i)))
      ∙ ap (image known) (sym x.made)))
  form_looked f t (print trees is h z m) a all k s =
      ap (λ f. statement_of meant true all k s (out-Form f)) h
      ∙ (ap (statement_of meant true all k s) (outs-Print trees)
      ∙ (ap program.Print (items_looked trees is z (subst (λ t. Among known (statement_names t)) m a) s)
      ∙ ap (image known) (sym m)))
  form_looked f t (end h m) a all k s =
      ap (λ f. statement_of meant true all k s (out-Form f)) h
      ∙ (ap (statement_of meant true all k s) outs-End
      ∙ ap (image known) (sym m))

  pub statements_looked : (facts : Facts) (all ss : List Stmt) (body : List Statement) → AllZip IsThinStmt ss body → Among known (flat_map statement_names body) → (k s : ℕ) → statements_from meant facts true all k s ss ≡ map (image known) body
  statements_looked facts all [] [] z a k s = refl
  statements_looked facts all [] (t ∷ body) z a k s = absurd z
  statements_looked facts all (x ∷ ss) [] z a k s = absurd z
  statements_looked facts all (x ∷ ss) (t ∷ body) z a k s =
      let rest = statements_looked facts all ss body z.1 (among_right known (statement_names t) (flat_map statement_names body) a) (suc k) (s + length (callees_with facts (in_statement x))) in
      λ i. form_looked x.form t z.0 (among_left known (statement_names t) (flat_map statement_names body) a) all k s i ∷ rest i
