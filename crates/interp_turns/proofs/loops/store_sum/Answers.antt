use Rattle.std.proofs.Common.{◌+ℤ◌, ℤ, w64, to_z, of_z, SFits, rules, ap, ◌∙◌, subst}
use Rattle.std.proofs.lemmas.Int.{to_z-of_z, SFits-int_wrap}
use Rattle.run_model.specs.Acts.{play}
use Rattle.f77_tree.specs.declared.unit.Value.TheVariants.{Integer}
use Rattle.f77_values.specs.Arithmetic.{wrap}
use Rattle.f77_semantics.specs.Expressions.{store}
use Rattle.f77_semantics.specs.Statements.{as_number}
use Rattle.interp_cells.specs.Spots.{loc_of}
use Rattle.interp_steps.specs.Stops.{Ends}
use Rattle.interp_steps.specs.Worlds.{world_of}
use Rattle.interp_steps.proofs.Plays.{done_goes, fails}
use Rattle.interp_turns.proofs.loops.store_sum.Goals as goal

pub returns-in-Ok : goal.returns-in-Ok
returns-in-Ok c = λ h.
    let w = world_of c.args.state.now in
    let v = world_of c.store.new.self in
    let fits : SFits w64 c.in-Ok.n = search rules in
    let n = to_z w64 (of_z w64 c.in-Ok.n) in
    let step = to_z w64 (of_z w64 c.args.step) in
    let sum = ap (λ (z : ℤ). to_z w64 (of_z w64 z)) c.sum.ensures
    ∙ (to_z-of_z w64 (wrap (n +ℤ step)) (SFits-int_wrap w64 (n +ℤ step))
    ∙ (ap (λ (z : ℤ). wrap (z +ℤ step)) (to_z-of_z w64 c.in-Ok.n fits) ∙ ap (λ (z : ℤ). wrap (c.in-Ok.n +ℤ z)) (to_z-of_z w64 c.args.step c.ranges.step))) in
    done_goes h (as_number c.args.value) (λ n. store (loc_of c.args.spot) (Integer (wrap (n +ℤ c.args.step)))) w c.store.result (λ _. tt) v c.in-Ok.n c.in-Ok.ensures
    (subst (λ (z : ℤ). Ends c.store.result (λ _. tt) v (play h (store (loc_of c.args.spot) (Integer z)) w)) sum (c.store.ensures.moves h))

pub returns-in-Err : goal.returns-in-Err
returns-in-Err c = λ h.
    fails h (as_number c.args.value) (λ n. store (loc_of c.args.spot) (Integer (wrap (n +ℤ c.args.step)))) (world_of c.args.state.now) c.in-Err.stop c.in-Err.ensures
