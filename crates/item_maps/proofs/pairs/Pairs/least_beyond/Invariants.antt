use Rattle.item_maps.proofs.Firsts.{Seeking}
use Rattle.item_maps.proofs.pairs.Pairs.least_beyond.Given as goal

abbrev pub invariant-loop-dummy : goal.invariant-loop-dummy
invariant-loop-dummy l = Seeking l.self l.other l.dummy-iterator
