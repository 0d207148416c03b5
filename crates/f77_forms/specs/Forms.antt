-- The forms of statements.
use Rattle.std.specs.Prelude.{◌≡◌, ℕ, List, Bool, true, false, ◌++◌, Some, codes}
use Rattle.f77_tree.specs.declared.expr.Expr.{Expr}
use Rattle.f77_tree.specs.declared.form.Form.{Form, out-Form}
use Rattle.f77_tree.specs.declared.form.Form.TheOpen.{Form-F}
use Rattle.f77_tree.specs.declared.form.Form.TheVariants as f
use Rattle.f77_tree.specs.declared.unit.Ty.TheVariants as ty
use Rattle.f77_expr.specs.Spelling.{Text}
use Rattle.f77_expr.specs.Kinds.{Tokens}
use Rattle.form_kinds.specs.declared.keywords.Keyword.{Keyword}
use Rattle.form_kinds.specs.declared.keywords.Keyword.TheVariants as word
use Rattle.form_kinds.specs.declared.statement_kinds.StatementKind.{StatementKind}
use Rattle.form_kinds.specs.declared.statement_kinds.StatementKind.TheVariants as kind
use Rattle.form_parts.specs.Answers.{InTokens, Made}
use Rattle.form_parts.specs.Only.{Never, Sole}
use Rattle.form_kinds.specs.StatementKinds.{IsIf, IsKind}
use Rattle.form_kinds.specs.Keywords.{keyword_of, behind}
use Rattle.f77_forms.specs.HeadForms.{IsHeadForm}
use Rattle.f77_forms.specs.TooDeep.{IsTooDeep}
use Rattle.form_specification.specs.Declarators.{AreDeclarators, AreArrays}
use Rattle.form_specification.specs.Specifications.{IsCommon, IsParameter, AreNames, IsSave, IsImplicit}
use Rattle.form_specification.specs.DataForms.{IsData}
use Rattle.form_execution.specs.Assignment.{IsAssignment}
use Rattle.form_execution.specs.Control.{IsBare, IsTest, IsDoForm}
use Rattle.form_parts.specs.Parts.{IsExpression}
use Rattle.form_execution.specs.Transfer.{IsGoTo, IsArithmeticIf, IsStop, IsCall}
use Rattle.form_execution.specs.InputOutput.{IsPrint, IsRead}

abbrev pub save_of : List (List ℕ) × List (List ℕ) → Form
save_of all = f.Save all.0 all.1

-- the form by the word with which the statement begins and the tokens behind it
abbrev pub WordForm : Keyword → Tokens → Form → Type 0
WordForm word.ImplicitNone ts form = IsBare f.ImplicitNone ts form
WordForm word.Implicit ts form = Made IsImplicit f.Implicit ts form
WordForm word.Integer ts form = Made AreDeclarators (f.Typed ty.Integer) ts form
WordForm word.Logical ts form = Made AreDeclarators (f.Typed ty.Logical) ts form
WordForm word.Dimension ts form = Made AreArrays f.Dimension ts form
WordForm word.Common ts form = Made IsCommon f.Common ts form
WordForm word.Parameter ts form = Made IsParameter f.Parameter ts form
WordForm word.External ts form = Made AreNames f.External ts form
WordForm word.Intrinsic ts form = Made AreNames f.Intrinsic ts form
WordForm word.Save ts form = Made IsSave save_of ts form
WordForm word.Data ts form = Made IsData f.DataRuns ts form
WordForm word.ElseIf ts form = Made IsTest f.ElseIf ts form
WordForm word.Else ts form = IsBare f.Else ts form
WordForm word.EndIf ts form = IsBare f.EndIf ts form
WordForm word.End ts form = IsBare f.End ts form
WordForm word.GoTo ts form = IsGoTo ts form
WordForm word.Continue ts form = IsBare f.Continue ts form
WordForm word.Return ts form = IsBare f.Return ts form
WordForm word.Stop ts form = IsStop ts form
WordForm word.Call ts form = IsCall ts form
WordForm word.Print ts form = IsPrint ts form
WordForm word.Read ts form = IsRead ts form

-- a head wherever it stands, else a word and what belongs to it
pub data IsWorded (text : Text) (form : Form) : Type 0 where
  head : IsHeadForm text form → IsWorded text form
  by_word : (w : Keyword) → Never IsHeadForm text → keyword_of text ≡ Some w → InTokens (WordForm w) (behind w text) form → IsWorded text form

-- the text behind IF in the tokens of a block IF or an arithmetic IF
pub record BehindIf (Is : Tokens → Form → Type 0) (text : Text) (form : Form) : Type 0 where
  pub rest : Text
  pub cut : text ≡ codes "IF" ++ rest
  pub is : InTokens Is rest form

-- the form by the kind, for all kinds but the logical IF
abbrev pub KindForm : StatementKind → Text → Form → Type 0
KindForm kind.Assignment text form = InTokens IsAssignment text form
KindForm kind.Do text form = IsDoForm text form
KindForm kind.BlockIf text form = BehindIf (Made IsTest f.BlockIf) text form
KindForm kind.ArithmeticIf text form = BehindIf IsArithmeticIf text form
KindForm kind.LogicalIf text form = ⊥
KindForm kind.Worded text form = IsWorded text form

pub record HasPlainForm (text : Text) (form : Form) : Type 0 where
  pub kind : StatementKind
  pub is_kind : IsKind text kind
  pub is : KindForm kind text form

-- what may stand in a logical IF: what is executable, and no DO, IF with a block, part of one, other logical IF or END
abbrev pub is_action_at : Form-F Form → Bool
is_action_at (Form-F.Assign target value) = true
is_action_at (Form-F.ArithmeticIf value a b c) = true
is_action_at (Form-F.GoTo label) = true
is_action_at (Form-F.ComputedGoTo labels index) = true
is_action_at Form-F.Continue = true
is_action_at Form-F.Return = true
is_action_at Form-F.Stop = true
is_action_at (Form-F.Call name actuals) = true
is_action_at (Form-F.Print items) = true
is_action_at (Form-F.Read targets) = true
is_action_at _ = false

abbrev pub is_action : Form → Bool
is_action form = is_action_at (out-Form form)

pub record HasAction (text : Text) (form : Form) : Type 0 where
  pub plain : HasPlainForm text form
  pub action : is_action form ≡ true

-- IF(e)s. Its condition and its statement are read apart, so the depth of parentheses is asked of the whole.
pub record IsLogicalIf (text : Text) (form : Form) : Type 0 where
  pub condition : Text
  pub statement : Text
  pub test : Expr
  pub inner : Form
  pub cut : IsIf text condition statement
  pub is_test : InTokens IsExpression condition test
  pub is_inner : HasAction statement inner
  pub shallow : IsTooDeep text → ⊥
  pub made : form ≡ f.LogicalIf test inner

-- a logical IF of the condition in a text
pub record IsConditional (condition : Text) (inner form : Form) : Type 0 where
  pub test : Expr
  pub is_test : Sole (InTokens IsExpression) condition test
  pub made : form ≡ f.LogicalIf test inner

-- The text of a statement has this form.
pub data HasForm (text : Text) (form : Form) : Type 0 where
  plain : HasPlainForm text form → HasForm text form
  logical_if : IsKind text kind.LogicalIf → IsLogicalIf text form → HasForm text form
