use Rattle.form_kinds.proofs.KindTests.{kind_same}
use Rattle.form_kinds.proofs.statement_kinds.statement_kind.Goals as goal

pub returns : goal.returns
returns c = record { kind = c.read_kind.ensures; only = λ other is. kind_same is c.read_kind.ensures }
