use Rattle.std.proofs.Common.{◌≡◌, take}
use Rattle.std.specs.Option.{option_map}
use Rattle.check_data.specs.Counting.{counted}
use Rattle.check_data.specs.DataRuns.{size_of}
use Rattle.check_data.proofs.counts.size_of.Given as goal

abbrev pub invariant-loop-side : goal.invariant-loop-side
invariant-loop-side l = l.size ≡ option_map counted (size_of (take l.side-index l.side-items))
