use Rattle.std.proofs.Common.{◌≡◌, drop}
use Rattle.std.specs.List.{list_any}
use Rattle.check_types.specs.Breaks.{declarator_breaks}
use Rattle.check_types.proofs.breaks.declarators_break.Given as goal

abbrev pub invariant-loop-declarator : goal.invariant-loop-declarator
invariant-loop-declarator l = list_any (declarator_breaks l.facts l.constants l.rule) (drop l.declarator-index l.declarator-items) ≡ list_any (declarator_breaks l.facts l.constants l.rule) l.declarator-items
