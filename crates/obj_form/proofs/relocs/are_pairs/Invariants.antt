use Rattle.obj_form.proofs.Pairs.{Taken}
use Rattle.obj_form.proofs.relocs.are_pairs.Given as goal

abbrev pub invariant-reloc : goal.invariant-reloc
invariant-reloc l = Taken l.words l.relocs l.reloc-index l.taken.items
