use Rattle.std.proofs.Common.{◌+ℤ◌, ℤ, w64, subst}
use Rattle.std.proofs.lemmas.Int.{to_z-of_z}
use Rattle.run_model.specs.Acts.{and_then, play}
use Rattle.f77_tree.specs.declared.unit.Ty.TheVariants as ty
use Rattle.f77_tree.specs.declared.unit.Value.TheVariants.{Integer}
use Rattle.f77_values.specs.Arithmetic.{wrap}
use Rattle.f77_semantics.specs.Expressions.{fetch, store}
use Rattle.f77_semantics.specs.Statements.{as_number}
use Rattle.interp_cells.specs.Spots.{loc_of}
use Rattle.interp_steps.specs.Stops.{Ends}
use Rattle.interp_steps.specs.Worlds.{world_of}
use Rattle.interp_steps.proofs.Plays.{ends_goes, ends_stops}
use Rattle.interp_turns.proofs.loops.add_to.Goals as goal

pub returns-in-Ok : goal.returns-in-Ok
returns-in-Ok c = λ h.
    let w = world_of c.args.state.now in
    ends_goes h (fetch ty.Integer (loc_of c.args.spot)) (λ x. and_then (as_number x) (λ n. store (loc_of c.args.spot) (Integer (wrap (n +ℤ c.args.step))))) w c.store_sum.result (λ _. tt) w (world_of c.store_sum.new.state) c.in-Ok.value (c.in-Ok.ensures h)
    (subst (λ (z : ℤ). Ends c.store_sum.result (λ _. tt) (world_of c.store_sum.new.state) (play h (and_then (as_number c.in-Ok.value) (λ n. store (loc_of c.args.spot) (Integer (wrap (n +ℤ z))))) w)) (to_z-of_z w64 c.args.step c.ranges.step) (c.store_sum.ensures h))

pub returns-in-Err : goal.returns-in-Err
returns-in-Err c = λ h.
    let w = world_of c.args.state.now in
    ends_stops h (fetch ty.Integer (loc_of c.args.spot)) (λ x. and_then (as_number x) (λ n. store (loc_of c.args.spot) (Integer (wrap (n +ℤ c.args.step))))) w c.in-Err.stop w (c.in-Err.ensures h)
