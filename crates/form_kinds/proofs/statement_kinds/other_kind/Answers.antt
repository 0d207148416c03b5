use Rattle.form_kinds.specs.StatementKinds.{equated}
use Rattle.form_kinds.proofs.statement_kinds.other_kind.Goals as goal

pub returns-in-Some : goal.returns-in-Some
returns-in-Some c = equated c.in-Some.before.now c.in-Some.behind.now c.requires (c.in-Some.ensures {u = tt}) c.kind_around.ensures
