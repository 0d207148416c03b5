use Rattle.std.proofs.lemmas.Result.{on_ok_weaker}
use Rattle.interp_data.specs.Meant.{meant}
use Rattle.interp_lower.proofs.Dimensions.{array_more}
use Rattle.interp_lower.proofs.arrays.push_array.Goals as goal

pub returns-in_ok-bounds-in-Array : goal.returns-in_ok-bounds-in-Array
returns-in_ok-bounds-in-Array c =
    on_ok_weaker c.push.result (array_more (meant c.args.names.now) c.args.found.now c.push.new.self _ c.in-Array.bounds c.args.role.now c.in-Array.is (c.in_ok-bounds-in-Array.ensures {u = tt})) c.push.ensures.ok
