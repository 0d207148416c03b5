-- A unit's data stand for the unit.
use Rattle.std.proofs.Common.{◌≡◌, Bool, List, refl, sym, ◌∙◌, subst}
use Rattle.f77_tree.specs.declared.unit.Stmt.{Stmt}
use Rattle.f77_tree.specs.declared.unit.Unit.{Unit}
use Rattle.f77_names.specs.declared.facts.Facts.{Facts}
use Rattle.f77_store.specs.declared.storage.Slot.{Slot}
use Rattle.f77_values.specs.Tables.{Name}
use Rattle.f77_names.specs.Roles as roles
use Rattle.f77_store.specs.Layouts as layouts
use Rattle.f77_semantics.specs.Program as program
use Rattle.f77_semantics.specs.Data as given
use Rattle.f77_semantics.specs.Resolve.{statements_from}
use Rattle.f77_semantics.specs.Source as source
use Rattle.f77_semantics.specs.Source.{meant_in, routine}
use Rattle.interp_data.specs.declared.lookup.Lookup.{Lookup}
use Rattle.interp_lower.specs.declared.piece.Line.{Line}
use Rattle.interp_lower.specs.declared.routine.Routine.{Routine}
use Rattle.interp_data.specs.Meant.{meant}
use Rattle.interp_lower.specs.Lines.{AreLines}
use Rattle.interp_lower.specs.Units.{StandsFor, looked_up, Stands, Parts}

pub with_lines : (r : Routine) (names : Lookup) (u : Unit) (lines : List Line) (callees : List Name) → Parts r names u lines callees
    → AreLines lines (statements_from (meant names) names.facts (source.is_main u.kind) u.statements 0 1 u.statements) → Stands r names callees u
with_lines r names u lines callees p h = record {
  name = p.name;
  statements = subst (λ (ls : List Line). AreLines ls (statements_from (meant names) names.facts (source.is_main u.kind) u.statements 0 1 u.statements)) (sym p.lines_) h;
  callees = p.callees_;
  dummy_arrays = p.dummy_arrays;
  result = p.result;
  kept = p.kept;
  initial = p.initial;
}

pub with_lines_of : (r : Routine) (names : Lookup) (u : Unit) (lines : List Line) (callees : List Name) (statements : List Stmt) (main : Bool) → statements ≡ u.statements → main ≡ source.is_main u.kind
    → AreLines lines (statements_from (meant names) names.facts main statements 0 1 statements) → Parts r names u lines callees → Stands r names callees u
with_lines_of r names u lines callees statements main s b h p =
    let here : AreLines lines (statements_from (meant names) names.facts main u.statements 0 1 u.statements) = subst (λ (ss : List Stmt). AreLines lines (statements_from (meant names) names.facts main ss 0 1 ss)) s h in
    with_lines r names u lines callees p (subst (λ (m : Bool). AreLines lines (statements_from (meant names) names.facts m u.statements 0 1 u.statements)) b here)

-- a unit by its facts, its slots and its callees
abbrev by_parts : Unit → Facts → List Slot → List Name → program.Routine
by_parts u f slots callees = record (routine u) {
  statements = statements_from (meant_in f slots) f (source.is_main u.kind) u.statements 0 1 u.statements;
  callees = callees;
  dummy_arrays = source.dummy_arrays_from f (meant_in f slots) 0 u.dummies;
  result = source.result_of u.kind (meant_in f slots u.name);
  kept = given.kept u.statements slots;
  initial = given.initial f.constants (meant_in f slots) u.statements;
}

whole : (u : Unit) → by_parts u (roles.facts u) (layouts.slots u) (layouts.callees u) ≡ routine u
whole u = refl

looked : (names : Lookup) (callees : List Name) (u : Unit) → looked_up names callees u ≡ by_parts u names.facts names.slots callees
unfolding meant
looked names callees u = refl

looked_up-routine : (names : Lookup) (callees : List Name) (u : Unit) → names.facts ≡ roles.facts u → names.slots ≡ layouts.slots u → callees ≡ layouts.callees u → looked_up names callees u ≡ routine u
looked_up-routine names callees u f s c = looked names callees u ∙ ((λ i. by_parts u (f i) (s i) (c i)) ∙ whole u)

pub stands : (r : Routine) (names : Lookup) (callees : List Name) (u : Unit) → names.facts ≡ roles.facts u → names.slots ≡ layouts.slots u → callees ≡ layouts.callees u
    → Stands r names callees u → StandsFor r (routine u)
stands r names callees u f s c h = subst (StandsFor r) (looked_up-routine names callees u f s c) h
