use Rattle.std.proofs.Common.{◌≡◌, ℕ, List, [], Some, map, slice_get, get_or, length, subst, sym, ap, ◌∙◌}
use Rattle.std.proofs.lemmas.Option.{get_or_from_slice_get}
use Rattle.run_model.specs.Acts.{World}
use Rattle.f77_tree.specs.declared.unit.Unit.{Unit as SourceUnit}
use Rattle.interp_calls.specs.declared.procedure.Procedure.{Procedure}
use Rattle.interp_calls.specs.Procedures.{AreUnits, Represents}
use Rattle.interp_calls.specs.Sending.{Sends}
use Rattle.f77_semantics.specs.Source.{routine}
use Rattle.f77_semantics.specs.Units.{Program, meaning, named}
use Rattle.interp_steps.specs.Worlds.{world_of}
use Rattle.f77_values.specs.Tables.{Name}
use Rattle.f77_meaning.specs.Places.{find_of}
use Rattle.f77_meaning.proofs.Placing.{found_at, mapped_at}
use Rattle.f77_meaning.proofs.Telling.{answering}
use Rattle.f77_meaning.proofs.program.run_main.Goals as goal

pub returns-clause-run : goal.returns-clause-run
returns-clause-run g c m e =
    let units : List SourceUnit = c.args.units.now in
    let find : Name → ℕ = find_of units c.args.main in
    let program : Program = named (map routine units) (routine m) in
    let are : AreUnits find c.in_ok-procedures.procedures.items (map routine units) = c.in_ok-procedures.ensures {u = tt} in
    let same : get_or units c.args.main c.index-units-main.result ≡ m = get_or_from_slice_get units c.args.main m c.index-units-main.result e in
    let started = c.in_ok-state.ensures find (map routine units) (subst (λ (ps : List Procedure). AreUnits find ps (map routine units)) (sym c.as_slice.ensures.value) are) in
    let at : c.find-at.result ≡ find m.name = c.find-at.ensures units (c.in_ok-places.ensures) ∙ ap (λ (u : SourceUnit). find u.name) same in
    let found : (q : Name) → slice_get (map routine units) (find q) ≡ Some (program q) = found_at units c.args.main (routine m) (mapped_at units c.args.main m e) in
    let represents : Represents c.as_slice-2.result.now (map routine units) program =
    record { find = find; each = subst (λ (ps : List Procedure). AreUnits find ps (map routine units)) (sym c.as_slice-2.ensures.value) are; found = found } in
    subst (λ (w : World). Sends c.call-end.result answering w (world_of c.call-end.new.state) (g.O.Sink.written c.args.out.now) (g.O.Sink.written c.call-end.new.out) (meaning program (length units) m.name [])) started
    (c.call-end.ensures.run (map routine units) program represents m.name (ap (λ (k : ℕ). slice_get (map routine units) k) at ∙ found m.name))
