use Rattle.form_kinds.specs.StatementKinds.{loop}
use Rattle.std.proofs.Common.{refl}
use Rattle.form_kinds.proofs.statement_kinds.kind_around.Goals as goal

pub returns-then-is_do : goal.returns-then-is_do
returns-then-is_do c = loop c.if-is_do.ensures.label c.if-is_do.ensures.name c.if-is_do.ensures.is refl
