use Rattle.prog_texts.proofs.Named.{named_more, texts_more}
use Rattle.prog_texts.proofs.programs.program_of.Goals as goal

pub loop-place-preserved : goal.loop-place-preserved
loop-place-preserved c = record {
  signatures = named_more c.args.units.now c.loop-place.place c.index-units-place.result c.loop-place.signatures c.add_unit.new.signatures _ c.loop-place-test.true c.index-units-place.is c.in_ok-add_unit.ensures.signatures c.loop-place.invariant.signatures;
  texts = texts_more c.args.units.now c.loop-place.place c.index-units-place.result c.loop-place.texts c.add_unit.new.texts _ c.loop-place-test.true c.index-units-place.is c.in_ok-add_unit.ensures.texts c.loop-place.invariant.texts;
}
