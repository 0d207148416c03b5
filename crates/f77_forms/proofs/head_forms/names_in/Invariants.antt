use Rattle.std.proofs.Common.{List, ◌++◌, length}
use Rattle.f77_expr.specs.Spelling.{Text}
use Rattle.form_parts.specs.Only.{Sole, Never}
use Rattle.f77_forms.specs.HeadForms.{AreNamesIn}
use Rattle.f77_forms.proofs.head_forms.names_in.Given as goal

abbrev pub invariant-name : goal.invariant-name
invariant-name l = record {
  sole : (others : List Text) → Sole AreNamesIn l.rest others → Sole AreNamesIn l.text (l.all ++ others);
  never : Never AreNamesIn l.rest → Never AreNamesIn l.text;
}

abbrev pub decreases-name : goal.decreases-name
decreases-name l = length l.rest
