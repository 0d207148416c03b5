use Rattle.std.proofs.Common.{[], subst, sym, ◌∙◌}
use Rattle.std.proofs.KnownBytes.{Appends-nil}
use Rattle.f77_semantics.specs.Source.{Source}
use Rattle.interp_steps.specs.Worlds.{world_of}
use Rattle.f77_meaning.specs.Answers.{IsTold}
use Rattle.f77_meaning.proofs.Placing.{there}
use Rattle.f77_meaning.proofs.Telling.{ended, broken_off, main_outcome, no_main, runs_so}
use Rattle.f77_meaning.proofs.program.outcome.Goals as goal

pub told-requires : goal.told-requires
told-requires g c =
    let units = c.args.units.now in
    let main = there units c.in-Some.main (c.in-Some.ensures {u = tt}).within in
    let start = g.O.Sink.written c.args.out.now in
    let reached = (c.in_ok-end-in-Some.ensures.run main.0 main.1) start [] (Appends-nil start) in
    ended units c.args.input.now c.args.steps main.0 c.in_ok-end-in-Some.end start (g.O.Sink.written c.run_main.new.out) (world_of c.in_ok-end-in-Some.state) ((c.in-Some.ensures {u = tt}).main ∙ main.1) reached
    (c.programs_law.ensures.never_wrong units c.requires.good c.requires.names c.requires.accepted c.args.input.now c.args.steps)

pub unreachable-requires : goal.unreachable-requires
unreachable-requires g c =
    c.programs_law.ensures.never_wrong c.args.units.now c.requires.good c.requires.names c.requires.accepted c.args.input.now c.args.steps (no_main c.args.units.now c.args.input.now c.args.steps (c.in-None.ensures {u = tt}).main)

pub returns-clause-told : goal.returns-clause-told
returns-clause-told g c =
    let units = c.args.units.now in
    let input = c.args.input.now in
    let n = c.args.steps in
    let main = there units c.in-Some.main (c.in-Some.ensures {u = tt}).within in
    let start = g.O.Sink.written c.args.out.now in
    let now = g.O.Sink.written c.run_main.new.out in
    let reached = (c.in_ok-end-in-Some.ensures.run main.0 main.1) start [] (Appends-nil start) in
    let so = runs_so units input n main.0 ((c.in-Some.ensures {u = tt}).main ∙ main.1) in
    let never = c.programs_law.ensures.never_wrong units c.requires.good c.requires.names c.requires.accepted input n in
    subst (λ r. IsTold c.told.result start now r) (sym so)
    (c.told.ensures.told start now (main_outcome units input n main.0) c.in_ok-end-in-Some.ensures.all reached (λ wrong. never (so ∙ wrong)))

pub returns-in_err-end-in-Some-clause-told : goal.returns-in_err-end-in-Some-clause-told
returns-in_err-end-in-Some-clause-told g c =
    broken_off (g.O.Sink.written c.args.out.now) (g.O.Sink.written c.run_main.new.out) (Source c.args.units.now c.args.input.now c.args.steps) c.from_residual.result c.from_residual.ensures.0 (c.in_err-end-in-Some.ensures {u = tt}).none
