-- What a visit of a block leads to.
use Rattle.std.specs.Option.{option_map}
use Rattle.run_model.specs.Turns as turns
use Rattle.f77_semantics.specs.Values.{stored}
use Rattle.ir_core.specs.Runs.{Temporaries, Here}
use Rattle.ir_run.specs.declared.ends.Turn.{Turn}
use Rattle.ir_run.specs.declared.ends.Turn.TheVariants.{Again, Result}

abbrev pub after_of : Turn → Temporaries → turns.After Here
after_of (Again b) f = turns.Again (record { block = b; temporaries = f })
after_of (Result r) f = turns.Result (option_map stored r)
