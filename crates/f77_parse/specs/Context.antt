-- What the statements before one leave open for it.
use Rattle.std.specs.Prelude.{◌≡◌, Bool, true, false, not, ◌||◌, ◌&&◌, List, [], Some, None}
use Rattle.std.specs.Bool.{MatchBool}
use Rattle.std.specs.declared.option.Option.{Option}
use Rattle.f77_tree.specs.declared.form.Form.{Form}
use Rattle.f77_tree.specs.declared.unit.UnitKind.{UnitKind}
use Rattle.f77_tree.specs.declared.unit.UnitKind.TheVariants as unit
use Rattle.fixed_form.specs.declared.reader.Line.{Line}
use Rattle.f77_parse.specs.declared.class.Class.{Class}
use Rattle.f77_parse.specs.declared.class.Class.TheVariants as class
use Rattle.f77_parse.specs.declared.context.Context.{Context}
use Rattle.f77_parse.specs.Statements.{class_of, has_return}
use Rattle.f77_parse.specs.Order.{is_specification, bars_implicit, is_executable, bars_block_data, HasClass}

abbrev pub is_head : Class → Bool
is_head class.Head = true
is_head _ = false

abbrev pub is_implicit : Class → Bool
is_implicit class.Implicit = true
is_implicit _ = false

abbrev pub is_block_data : UnitKind → Bool
is_block_data unit.BlockData = true
is_block_data _ = false

abbrev pub is_main : UnitKind → Bool
is_main unit.Main = true
is_main _ = false

-- the parts of the order, for a form behind such statements
abbrev pub breaks_order : Context → Form → Bool
breaks_order c form =
    (is_head (class_of form) && not c.first) || ((is_implicit (class_of form) && c.declared) || ((is_specification (class_of form) && c.executed)
    || ((is_block_data c.kind && bars_block_data (class_of form)) || (is_main c.kind && has_return form))))

abbrev pub behind : Context → Option Form → Context
behind c None = record { kind = c.kind; first = false; declared = c.declared; executed = c.executed }
behind c (Some form) = record { kind = c.kind; first = false; declared = c.declared || bars_implicit (class_of form); executed = c.executed || is_executable (class_of form) }

-- whether the statements have such a form is told by a truth value
abbrev pub Tells : Bool → (Class → Bool) → List Line → Type 0
Tells truth such lines = MatchBool truth (HasClass such lines) (HasClass such lines → ⊥)

-- the context is that of these statements
pub record Knows (before : List Line) (c : Context) : Type 0 where
  pub first : MatchBool c.first (before ≡ []) (before ≡ [] → ⊥)
  pub declared : Tells c.declared bars_implicit before
  pub executed : Tells c.executed is_executable before
