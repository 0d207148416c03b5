use Rattle.std.proofs.Common.{sym, ◌∙◌}
use Rattle.run_model.specs.Storage.{name_eq}
use Rattle.thin_code.proofs.Indexed.{no_position}
use Rattle.thin_code.proofs.names.offset_of.Goals as goal

pub returns-in-None-clause-offset : goal.returns-in-None-clause-offset
returns-in-None-clause-offset c = c.len.ensures.len ∙ sym (no_position (name_eq c.args.name.now) c.args.names.now.keys (sym c.get_index_of.ensures.index ∙ c.in-None.is))
