-- What temporaries, arguments and activations of the code stand for.
use Rattle.std.specs.Prelude.{List, Option, None, map, slice_index_or}
use Rattle.std.specs.Option.{option_map}
use Rattle.run_model.specs.Storage as storage
use Rattle.ir_core.specs.Runs as runs
use Rattle.interp_steps.specs.declared.frame.Interval.{Interval}
use Rattle.interp_steps.specs.Frames.{interval_of}
use Rattle.ir_run.specs.declared.values.Content.{Content}
use Rattle.ir_run.specs.declared.values.Content.TheVariants.{Word, Address}
use Rattle.ir_run.specs.declared.values.Values.{Values}
use Rattle.ir_run.specs.declared.spots.Activation.{Activation}

abbrev pub content_of : Content → runs.Content
content_of (Word x) = runs.Word x
content_of (Address i) = runs.Address (interval_of i)

-- what a temporary holds, of which those behind the end were never set
abbrev pub temporaries_of : List (Option Content) → runs.Temporaries
temporaries_of all t = option_map content_of (slice_index_or all t None)

abbrev pub arguments_of : List (Option Interval) → List (Option storage.Interval)
arguments_of all = map (option_map interval_of) all

abbrev pub values_of : Values → runs.Values
values_of v = record { temporaries = temporaries_of v.temporaries.items; arguments = arguments_of v.arguments.items }

abbrev pub activation_of : Activation → runs.Activation
activation_of a = record { unit = a.unit.now; actuals = map interval_of a.actuals.now }
