use Rattle.f77_semantics.specs.Source.{Source}
use Rattle.f77_meaning.proofs.Telling.{told_run, told_all, told_front}
use Rattle.f77_meaning.proofs.interpreter.interpret.Goals as goal

pub returns-clause-run : goal.returns-clause-run
returns-clause-run g c = told_run (g.O.Sink.written c.args.out.now) (g.O.Sink.written c.outcome.new.out) (Source c.args.units.now c.args.input.now c.args.steps) c.outcome.result c.outcome.ensures.told

pub returns-clause-all : goal.returns-clause-all
returns-clause-all g c = told_all (g.O.Sink.written c.args.out.now) (g.O.Sink.written c.outcome.new.out) (Source c.args.units.now c.args.input.now c.args.steps) c.outcome.result c.outcome.ensures.told

pub returns-clause-front : goal.returns-clause-front
returns-clause-front g c = told_front (g.O.Sink.written c.args.out.now) (g.O.Sink.written c.outcome.new.out) (Source c.args.units.now c.args.input.now c.args.steps) c.outcome.result c.outcome.ensures.told
