use Rattle.std.proofs.Common.{◌≡◌, ◌++◌, map, drop}
use Rattle.std.specs.Option.{option_map}
use Rattle.interp_steps.specs.Frames.{interval_of}
use Rattle.ir_core.specs.Runs.{all_set}
use Rattle.ir_run.specs.Images.{arguments_of}
use Rattle.ir_run.proofs.calls.passed.Given as goal

-- the arguments so far with those still to come are all
abbrev pub invariant-loop-argument : goal.invariant-loop-argument
invariant-loop-argument l = option_map (λ is. map interval_of l.all.items ++ is) (all_set (arguments_of (drop l.argument-index l.arguments))) ≡ all_set (arguments_of l.arguments)
