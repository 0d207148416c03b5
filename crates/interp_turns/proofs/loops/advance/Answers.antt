use Rattle.std.proofs.Common.{◌≡◌, ◌+ℤ◌, ◌-◌, ℤ, w64, to_z, of_z, SFits, rules, subst, sym, ap, ◌∙◌}
use Rattle.std.proofs.lemmas.Int.{to_z-of_z}
use Rattle.run_model.specs.Storage.{Loc}
use Rattle.run_model.specs.Acts.{Act, Stop, Outcome, and_then, play}
use Rattle.run_model.specs.Turns.{After}
use Rattle.f77_tree.specs.declared.unit.Ty.TheVariants as ty
use Rattle.f77_tree.specs.declared.unit.Value.TheVariants.{Integer}
use Rattle.f77_values.specs.Arithmetic.{wrap}
use Rattle.f77_semantics.specs.Expressions.{fetch, store, scalar}
use Rattle.f77_semantics.specs.Statements as running
use Rattle.f77_semantics.specs.Statements.{as_number, set_loop, tested}
use Rattle.interp_cells.specs.Spots.{loc_of}
use Rattle.interp_steps.specs.Frames.{frame_of}
use Rattle.interp_steps.specs.Stops.{Stopped}
use Rattle.interp_steps.specs.Worlds.{world_of}
use Rattle.interp_steps.proofs.Plays.{goes_on, ends_stops}
use Rattle.interp_turns.specs.Places.{here_of, loop_of}
use Rattle.interp_turns.proofs.Paths.{stepped, advance_is}
use Rattle.interp_turns.proofs.loops.advance.Goals as goal

-- the variable is stepped
abbrev adds : Loc → ℤ → Act (Unit {0})
adds l step = and_then (fetch ty.Integer l) (λ x. and_then (as_number x) (λ n. store l (Integer (wrap (n +ℤ step)))))

pub returns-in-Ok-clause-turn : goal.returns-in-Ok-clause-turn
returns-in-Ok-clause-turn c = λ u follows first last third h.
    let f = frame_of c.args.frame.now in
    let b = c.args.base.now in
    let s = here_of c.args.here.now in
    let k = c.args.k in
    let w = world_of c.args.state.now in
    let v = world_of c.add_to.new.state in
    let step = to_z w64 (of_z w64 c.get-left.result.step) in
    let fits : SFits w64 c.get-left.result.step = search rules in
    let by : step ≡ (s.loops k).step = to_z-of_z w64 c.get-left.result.step fits ∙ ap (λ (l : running.Loop). l.step) (ap loop_of c.get-left.ensures) in
    let same : play h (adds (scalar f b) (s.loops k).step) w ≡ play h (adds (loc_of c.in_ok-spot.spot) step) w =
    ap (λ (z : ℤ). play h (adds (scalar f b) z) w) (sym by) ∙ ap (λ (l : Loc). play h (adds l step) w) (sym (c.in_ok-spot.ensures {u = tt})) in
    let place : here_of c.set.new.self ≡ stepped k s =
    c.set.ensures.place ∙ (ap (λ (l : running.Loop). record s { loops = set_loop k l s.loops }) c.less.ensures ∙ ap (λ (l : running.Loop). record s { loops = set_loop k (record { count = l.count - 1; step = l.step }) s.loops }) (ap loop_of c.get-left.ensures)) in
    ap (λ (act : Act (After running.Here)). play h act w) (sym (advance_is u f s k b first last third))
    ∙ (goes_on h (adds (scalar f b) (s.loops k).step) (λ _. tested u k (stepped k s)) w v tt (same ∙ c.in-Ok.ensures h)
    ∙ ap (λ (act : Act (After running.Here)). play h act v) (ap (tested u k) (sym place) ∙ c.tested.ensures.turn u follows))

pub returns-in-Err-clause-turn : goal.returns-in-Err-clause-turn
returns-in-Err-clause-turn c = λ u follows first last third h.
    let f = frame_of c.args.frame.now in
    let b = c.args.base.now in
    let s = here_of c.args.here.now in
    let k = c.args.k in
    let w = world_of c.args.state.now in
    let v = world_of c.add_to.new.state in
    let step = to_z w64 (of_z w64 c.get-left.result.step) in
    let fits : SFits w64 c.get-left.result.step = search rules in
    let by : step ≡ (s.loops k).step = to_z-of_z w64 c.get-left.result.step fits ∙ ap (λ (l : running.Loop). l.step) (ap loop_of c.get-left.ensures) in
    let same : play h (adds (loc_of c.in_ok-spot.spot) step) w ≡ play h (adds (scalar f b) (s.loops k).step) w =
    ap (λ (l : Loc). play h (adds l step) w) (c.in_ok-spot.ensures {u = tt}) ∙ ap (λ (z : ℤ). play h (adds (scalar f b) z) w) by in
    subst (λ (act : Act (After running.Here)). Stopped c.in-Err.stop (λ reason. play h act w ≡ Stop reason v)) (advance_is u f s k b first last third)
    (ends_stops h (adds (scalar f b) (s.loops k).step) (λ _. tested u k (stepped k s)) w c.in-Err.stop v
    (subst (λ (o : Outcome (Unit {0})). Stopped c.in-Err.stop (λ reason. o ≡ Stop reason v)) same (c.in-Err.ensures h)))
