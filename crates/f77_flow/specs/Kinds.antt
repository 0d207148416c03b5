-- What a statement is to the statements around it.
use Rattle.std.specs.Prelude.{ℕ, Bool, true, false, List, None, Some, slice_get}
use Rattle.f77_tree.specs.declared.form.Form.{Form, out-Form}
use Rattle.f77_tree.specs.declared.form.Form.TheOpen.{Form-F}
use Rattle.f77_tree.specs.declared.unit.Stmt.{Stmt}
use Rattle.f77_flow.specs.declared.kinds.Kind.{Kind}
use Rattle.f77_flow.specs.declared.kinds.Kind.TheVariants.{Declaration, BlockIf, ElseIf, Else, EndIf, Do, Plain}

abbrev pub kind_of : Form-F Form → Kind
kind_of (Form-F.Head kind word name dummies) = Declaration
kind_of (Form-F.Implicit rules) = Declaration
kind_of Form-F.ImplicitNone = Declaration
kind_of (Form-F.Typed ty all) = Declaration
kind_of (Form-F.Dimension all) = Declaration
kind_of (Form-F.Common blocks) = Declaration
kind_of (Form-F.Parameter all) = Declaration
kind_of (Form-F.External names) = Declaration
kind_of (Form-F.Intrinsic names) = Declaration
kind_of (Form-F.Save names blocks) = Declaration
kind_of (Form-F.DataRuns runs) = Declaration
kind_of (Form-F.BlockIf test) = BlockIf
kind_of (Form-F.ElseIf test) = ElseIf
kind_of Form-F.Else = Else
kind_of Form-F.EndIf = EndIf
kind_of (Form-F.Do label name from to step) = Do label
kind_of _ = Plain

abbrev pub kind : Stmt → Kind
kind s = kind_of (out-Form s.form)

abbrev pub is_executable : Kind → Bool
is_executable Declaration = false
is_executable _ = true

-- what stands at k. Nothing stands behind the last statement.
abbrev pub kind_at : List Stmt → ℕ → Kind
kind_at u k = elim (slice_get u k) [ None ↦ Declaration | Some s ↦ kind s ]

-- executable, and no part of a block IF
abbrev pub IsOther : Kind → Type 0
IsOther (Do label) = Unit {0}
IsOther Plain = Unit {0}
IsOther _ = ⊥
