-- Statements that this language lacks.
use Rattle.std.proofs.Common.{◌≡◌, Bool, true, false, sym, subst, MatchBool}
use Rattle.f77_expr.specs.Spelling.{Text}
use Rattle.fixed_form.proofs.WordRuns.{false_true}
use Rattle.form_kinds.specs.declared.statement_kinds.StatementKind.{StatementKind}
use Rattle.form_kinds.specs.declared.statement_kinds.StatementKind.TheVariants as kind
use Rattle.form_kinds.specs.StatementKinds.{NoIf, IsKind}
use Rattle.form_kinds.specs.Foreign.{is_foreign_text, HasInside, NoneInside, IsForeign, here, inside}
use Rattle.form_kinds.proofs.KindTests.{kind_same, if_same}

pub none_inside : {text : Text} {k : StatementKind} → IsKind text k → (k ≡ kind.LogicalIf → ⊥) → NoneInside text
none_inside is other = record { not = λ statement has. other (kind_same is has.is_kind) }

pub none_cut : {text : Text} → NoIf text → NoneInside text
none_cut none = record { not = λ statement has. none.not has.condition statement has.cut }

pub inside_same : {text s t : Text} → HasInside text s → HasInside text t → s ≡ t
inside_same a b = (if_same a.cut b.cut).behind

pub foreign_inside : {text statement : Text} → HasInside text statement → IsForeign text → IsForeign statement
foreign_inside has (here is this) = absurd (let e = kind_same is has.is_kind in cc)
foreign_inside has (inside other f) = subst IsForeign (inside_same other has) f

pub not_foreign : {text : Text} {k : StatementKind} → NoneInside text → IsKind text k → (k ≡ kind.Worded → ⊥) → IsForeign text → ⊥
not_foreign none is other (here third this) = other (kind_same is third)
not_foreign none is other (inside {statement = statement} has f) = none.not statement has

foreign_here : {text : Text} → NoneInside text → IsForeign text → is_foreign_text text ≡ true
foreign_here none (here third this) = this
foreign_here none (inside {statement = statement} has f) = absurd (none.not statement has)

pub foreign_of : {text rest : Text} (b : Bool) → b ≡ is_foreign_text rest → IsKind rest kind.Worded → NoneInside rest → (IsForeign rest → IsForeign text) → (IsForeign text → IsForeign rest) → MatchBool b (IsForeign text) (IsForeign text → ⊥)
foreign_of true e is none onto back = onto (here is (sym e))
foreign_of false e is none onto back = λ f. false_true (sym e) (foreign_here none (back f))
