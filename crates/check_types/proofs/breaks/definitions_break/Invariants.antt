use Rattle.std.proofs.Common.{◌≡◌, drop}
use Rattle.std.specs.List.{list_any}
use Rattle.check_types.specs.Breaks.{definition_breaks}
use Rattle.check_types.proofs.breaks.definitions_break.Given as goal

abbrev pub invariant-loop-definition : goal.invariant-loop-definition
invariant-loop-definition l = list_any (definition_breaks l.facts l.constants l.rule) (drop l.definition-index l.definition-items) ≡ list_any (definition_breaks l.facts l.constants l.rule) l.definition-items
