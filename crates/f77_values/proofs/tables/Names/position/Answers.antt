use Rattle.std.proofs.Common.{sym, ap, ◌∙◌}
use Rattle.std.specs.List.{position_or_len}
use Rattle.f77_values.specs.Tables.{name_eq}
use Rattle.f77_values.proofs.Indexed.{no_position}
use Rattle.f77_values.proofs.tables.Names.position.Goals as goal

pub returns-in-None : goal.returns-in-None
returns-in-None c =
    c.len.ensures.len
    ∙ (sym (no_position (name_eq c.args.name.now) c.self.inside.names.keys (sym c.get_index_of.ensures.index ∙ c.in-None.is))
    ∙ ap (position_or_len (name_eq c.args.name.now)) c.self.view_is)
