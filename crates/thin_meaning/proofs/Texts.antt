-- The tree of a thin text.
use Rattle.std.proofs.Common.{◌≡◌, ◌+◌, ◌≤◌, ◌<◌, ◌⊎◌, inl, inr, min, None, List, [], ◌∷◌, length, sum_by, refl, sym, ap, ◌∙◌, subst, arith, rules}
use Rattle.std.specs.List.{AllZip}
use Rattle.std.proofs.lemmas.Bool.{cases_lt}
use Rattle.std.proofs.lemmas.List.Sums.{sum_by-cons}
use Rattle.run_model.specs.Storage.{Name}
use Rattle.f77_tree.specs.declared.form.Form.{Form, the_lemmas}
use Rattle.f77_tree.specs.declared.form.Form.TheVariants as form
use Rattle.f77_tree.specs.declared.unit.Stmt.{Stmt}
use Rattle.f77_tree.specs.declared.unit.Unit.{Unit as SourceUnit}
use Rattle.f77_tree.specs.declared.unit.UnitKind.{UnitKind}
use Rattle.f77_tree.specs.declared.unit.UnitKind.TheVariants.{Main}
use Rattle.fixed_form.specs.declared.reader.Line.{Line}
use Rattle.fixed_form.specs.declared.reader.UnitText.{UnitText}
use Rattle.f77_forms.specs.Forms.{HasForm}
use Rattle.f77_forms.specs.Laws.{OneForm}
use Rattle.f77_parse.specs.Parsed as parsed
use Rattle.f77_parse.specs.Statements.{HasHead, headed, headless}
use Rattle.f77_store.specs.Layouts.{local_size}
use Rattle.prog_check.specs.Limits.{most_storage, storage}
use Rattle.call_cycles.specs.Marks.{mark_at}
use Rattle.prog_check.specs.ProgramFaults as program
use Rattle.prog_check.specs.ProgramFaults.{limits, much_storage}
use Rattle.rn_draft.specs.Accepted.{IsAccepted, Accepted}
use Rattle.rn_draft.specs.Drafts.{drafted}
use Rattle.thin_form.specs.declared.statement.Statement.{Statement}
use Rattle.thin_form.specs.Forms.{IsStatementOf, assign, print, end}
use Rattle.thin_text.specs.Thin.{standing, IsThinLine}
use Rattle.thin_code.specs.Layout.{names_of}
use Rattle.f77_semantics.specs.Source as whole
use Rattle.thin_meaning.specs.Units.{IsThinStmt, IsThinUnit}
use Rattle.thin_meaning.specs.Laws.{HasThinUnit, ThinTextsHaveUnits, UnitsRunAlike, TextsRunAlike}
use Rattle.thin_meaning.proofs.Places.{size_of_unit}

-- ---- statements

-- a thin statement is no head
no_head : (f : Form) (t : Statement) (kind : UnitKind) (word : _) (name : Name) (names : List Name) → f ≡ form.Head kind word name names → IsStatementOf f t → ⊥
no_head f t kind word name names h (assign target value e a) = let z : form.Head kind word name names ≡ form.Assign target value = sym h ∙ e in search (rules, the_lemmas)
no_head f t kind word name names h (print trees items e i m) = let z : form.Head kind word name names ≡ form.Print trees = sym h ∙ e in search (rules, the_lemmas)
no_head f t kind word name names h (end e m) = let z : form.Head kind word name names ≡ form.End = sym h ∙ e in search (rules, the_lemmas)

module _ (one : OneForm) where
  thin_statement : (l : Line) (behind : List Line) (s : Stmt) (t : Statement) → parsed.IsStatement l s → IsThinLine (record { line = l; behind = behind }) t → IsThinStmt s t
  thin_statement l behind s t p h = subst (λ f. IsStatementOf f t) (one l.text h.form s.form h.has.has p.form) h.thin

  thin_statements : (ls : List Line) (ss : List Stmt) (body : List Statement) → AllZip parsed.IsStatement ls ss → AllZip IsThinLine (standing ls) body → AllZip IsThinStmt ss body
  thin_statements [] [] [] p h = tt
  thin_statements [] [] (t ∷ body) p h = absurd h
  thin_statements [] (s ∷ ss) body p h = absurd p
  thin_statements (l ∷ ls) [] body p h = absurd p
  thin_statements (l ∷ ls) (s ∷ ss) [] p h = absurd h
  thin_statements (l ∷ ls) (s ∷ ss) (t ∷ body) p h = (thin_statement l ls s t p.0 h.0, thin_statements ls ss body p.1 h.1)

  pub record IsHeadless (kind : UnitKind) (dummies : List Name) : Type 0 where
    pub main : kind ≡ Main
    pub none : dummies ≡ []

  no_headed : (first : Line) (rest : List Line) (body : List Statement) (f : Form) (kind : UnitKind) (word : _) (name : Name) (names : List Name) → HasForm first.text f → f ≡ form.Head kind word name names → AllZip IsThinLine (standing (first ∷ rest)) body → ⊥
  no_headed first rest [] f kind word name names has e h = h
  no_headed first rest (t ∷ body) f kind word name names has e h = no_head h.0.form t kind word name names (one first.text h.0.form f h.0.has.has has ∙ e) h.0.thin

  headless_unit : (ls : List Line) (kind : UnitKind) (dummies : List Name) (body : List Statement) → HasHead ls kind dummies → AllZip IsThinLine (standing ls) body → IsHeadless kind dummies
  headless_unit ls kind dummies body (headed first rest word name cut has) h = absurd (no_headed first rest body (form.Head kind word name dummies) kind word name dummies has refl (subst (λ ls. AllZip IsThinLine (standing ls) body) cut h))
  headless_unit ls kind dummies body (headless none main no_dummies) h = record { main = main; none = no_dummies }

  thin_unit : (u : UnitText) (unit : SourceUnit) (body : List Statement) → parsed.IsUnit u unit → AllZip IsThinLine (standing u.statements) body → IsThinUnit unit body
  thin_unit u unit body p h =
      let head = headless_unit u.statements unit.kind unit.dummies body p.head h in
      record { main = head.main; dummies = head.none; statements = thin_statements u.statements unit.statements body p.statements h }

-- ---- storage

little_storage : (units : List SourceUnit) → program.IsAccepted units → storage units ≤ 16777216
little_storage units a = go (cases_lt 16777216 (storage units))
  where
    go : (16777216 < storage units) ⊎ (storage units ≤ 16777216) → storage units ≤ 16777216
    go (inl much) = absurd (a.none (mark_at 37 most_storage None 0) (limits (much_storage (record { much = much; mark_is = refl }))))
    go (inr few) = few

few_names : (unit : SourceUnit) (body : List Statement) → IsThinUnit unit body → program.IsAccepted (unit ∷ []) → length (names_of body) ≤ 16777216
few_names unit body is a =
    let most = little_storage (unit ∷ []) a in
    let size : local_size unit ≡ min (length (names_of body)) 4294967295 = size_of_unit unit body is in
    let sum : sum_by local_size (unit ∷ []) ≡ local_size unit + 0 = sum_by-cons local_size unit [] in
    omega (arith, most, size, sum)

-- ---- texts

module _ (one : OneForm) (alone : (u : UnitText) → drafted (u ∷ []) ≡ u ∷ []) where
  accepted_unit : (u : UnitText) (trees : List SourceUnit) (body : List Statement) → Accepted (u ∷ []) trees → AllZip IsThinLine (standing u.statements) body → HasThinUnit trees body
  accepted_unit u trees body a h = go trees a.each a.whole
    where
      go : (trees : List SourceUnit) → AllZip IsAccepted (u ∷ []) trees → program.IsAccepted trees → HasThinUnit trees body
      go [] each whole = absurd each
      go (unit ∷ []) each whole =
          let is = thin_unit one u unit body each.0.tree h in
          record { unit = unit; alone = refl; thin = is; few = few_names unit body is whole }
      go (unit ∷ other ∷ trees) each whole = absurd each.1

  pub thin_texts : ThinTextsHaveUnits
  thin_texts units body trees h a = accepted_unit h.unit trees body (subst (λ us. Accepted us trees) (ap drafted h.alone ∙ alone h.unit) a) h.statements

  pub texts_run_alike : UnitsRunAlike → TextsRunAlike
  texts_run_alike units_alike units body trees h a input n =
      let t = thin_texts units body trees h a in
      ap (λ us. whole.Source us input n) t.alone ∙ units_alike t.unit body t.thin t.few input n
