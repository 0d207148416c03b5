-- The sites of a unit are those of its layout, so the two number them alike.
use Rattle.std.specs.Prelude.{◌≡◌, map}
use Rattle.f77_tree.specs.declared.unit.Unit.{Unit}
use Rattle.f77_values.specs.Tables.{Name}
use Rattle.f77_store.specs.Layouts.{callees}
use Rattle.prog_texts.specs.declared.mentions.Site.{Site}
use Rattle.prog_texts.specs.Mentions.{sites}

abbrev pub callee_of : Site → Name
callee_of s = s.callee

-- in the order of the text, each with its callee
abbrev pub SitesAreCallees : Type 0
SitesAreCallees = (u : Unit) → map callee_of (sites u) ≡ callees u
