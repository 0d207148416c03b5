use Rattle.std.proofs.Common.{◌≡◌, ℕ, ℤ, pos, Bool, true, false, w64, to_z, of_z, subst, sym, ap, ◌∙◌}
use Rattle.std.specs.Ordering.{int_eq}
use Rattle.std.proofs.lemmas.Int.{to_z-of_z}
use Rattle.run_model.specs.Storage.{Loc}
use Rattle.run_model.specs.Acts.{Act, Done, Fine, Stop, and_then, play}
use Rattle.run_model.specs.Turns.{After, Again}
use Rattle.f77_tree.specs.declared.unit.Value.TheVariants.{Integer}
use Rattle.f77_flow.specs.Graph.{Test}
use Rattle.f77_semantics.specs.Expressions.{store}
use Rattle.f77_semantics.specs.Statements as running
use Rattle.f77_semantics.specs.Statements.{set_loop, trips}
use Rattle.interp_cells.specs.Spots.{loc_of}
use Rattle.interp_steps.specs.Frames.{frame_of}
use Rattle.interp_steps.specs.Stops.{Stopped}
use Rattle.interp_steps.specs.Worlds.{world_of}
use Rattle.interp_steps.proofs.Plays.{goes_on, ends_stops}
use Rattle.interp_turns.specs.Places.{here_of}
use Rattle.interp_turns.proofs.Paths.{begun_not, begun_does}
use Rattle.interp_turns.proofs.loops.begin.Goals as goal

-- the place at the first test
abbrev begun_at : running.Here → ℕ → running.Loop → running.Here
begun_at s k l = record { point = Test k; loops = set_loop k l s.loops }

abbrev next_of : running.Here → ℕ → running.Loop → Unit {0} → Act (After running.Here)
next_of s k l x = Done (Again (begun_at s k l))

settled : (s : running.Here) (k : ℕ) (x y z x' y' z' : ℤ) → x ≡ x' → y ≡ y' → z ≡ z' → begun_at s k (record { count = trips x y z; step = z }) ≡ begun_at s k (record { count = trips x' y' z'; step = z' })
settled s k x y z x' y' z' p q r = λ i. begun_at s k (record { count = trips (p i) (q i) (r i); step = r i })

zero_is : (z z' : ℤ) (b b' : Bool) → z ≡ z' → b ≡ int_eq z (pos 0) → b ≡ b' → int_eq z' (pos 0) ≡ b'
zero_is z z' b b' e is test = ap (λ (z : ℤ). int_eq z (pos 0)) (sym e) ∙ (sym is ∙ test)

pub returns-then-is_zero-clause-turn : goal.returns-then-is_zero-clause-turn
returns-then-is_zero-clause-turn c = λ h.
    let same = to_z-of_z w64 c.args.step c.ranges.step in
    ap (λ (act : Act (After running.Here)). play h act (world_of c.args.state.now)) (begun_not (frame_of c.args.frame.now) (here_of c.args.here.now) c.args.k c.args.base.now c.args.first c.args.last c.args.step (zero_is _ c.args.step c.is_zero.result true same c.is_zero.ensures c.if-is_zero.true))

pub returns-in-Ok-clause-turn : goal.returns-in-Ok-clause-turn
returns-in-Ok-clause-turn c = λ h.
    let f = frame_of c.args.frame.now in
    let b = c.args.base.now in
    let s = here_of c.args.here.now in
    let k = c.args.k in
    let w = world_of c.args.state.now in
    let v = world_of c.store.new.self in
    let first = to_z-of_z w64 c.args.first c.ranges.first in
    let last = to_z-of_z w64 c.args.last c.ranges.last in
    let step = to_z-of_z w64 c.args.step c.ranges.step in
    let next = next_of s k (record { count = trips c.args.first c.args.last c.args.step; step = c.args.step }) in
    let place = ap (λ (x : running.Here). record x { point = Test k }) c.set.ensures.place in
    let count = ap (λ (n : ℕ). begun_at s k (record { count = n; step = to_z w64 (of_z w64 c.args.step) })) c.trips.ensures in
    let whole = place ∙ (count ∙ settled s k (to_z w64 (of_z w64 c.args.first)) (to_z w64 (of_z w64 c.args.last)) (to_z w64 (of_z w64 c.args.step)) c.args.first c.args.last c.args.step first last step) in
    ap (λ (act : Act (After running.Here)). play h act w) (begun_does f s k b c.args.first c.args.last c.args.step (zero_is _ c.args.step c.is_zero.result false step c.is_zero.ensures c.if-is_zero.false))
    ∙ (ap (λ (l : Loc). play h (and_then (store l (Integer c.args.first)) next) w) (sym (c.in_ok-spot.ensures {u = tt}))
    ∙ (goes_on h (store (loc_of c.in_ok-spot.spot) (Integer c.args.first)) next w v tt (ap (λ (z : ℤ). play h (store (loc_of c.in_ok-spot.spot) (Integer z)) w) (sym first) ∙ c.in-Ok.ensures.moves h)
    ∙ ap (λ (x : running.Here). Fine (Again x) v) (sym whole)))

pub returns-in-Err-clause-turn : goal.returns-in-Err-clause-turn
returns-in-Err-clause-turn c = λ h.
    let f = frame_of c.args.frame.now in
    let b = c.args.base.now in
    let s = here_of c.args.here.now in
    let k = c.args.k in
    let w = world_of c.args.state.now in
    let v = world_of c.store.new.self in
    let first = to_z-of_z w64 c.args.first c.ranges.first in
    let step = to_z-of_z w64 c.args.step c.ranges.step in
    let next = next_of s k (record { count = trips c.args.first c.args.last c.args.step; step = c.args.step }) in
    subst (λ (act : Act (After running.Here)). Stopped c.in-Err.stop (λ reason. play h act w ≡ Stop reason v)) (sym (begun_does f s k b c.args.first c.args.last c.args.step (zero_is _ c.args.step c.is_zero.result false step c.is_zero.ensures c.if-is_zero.false)))
    (subst (λ (l : Loc). Stopped c.in-Err.stop (λ reason. play h (and_then (store l (Integer c.args.first)) next) w ≡ Stop reason v)) (c.in_ok-spot.ensures {u = tt})
    (ends_stops h (store (loc_of c.in_ok-spot.spot) (Integer c.args.first)) next w c.in-Err.stop v
    (subst (λ (z : ℤ). Stopped c.in-Err.stop (λ reason. play h (store (loc_of c.in_ok-spot.spot) (Integer z)) w ≡ Stop reason v)) first (c.in-Err.ensures.moves h))))
