use Rattle.std.proofs.Common.{◌≡◌, ◌≤◌, length, arith, flat_map}
use Rattle.interp_data.specs.Spans.{places_of, values_of, units_of}
use Rattle.interp_data.proofs.Zipping.{places_end, values_end}
use Rattle.interp_data.proofs.spans.+push_spans.Goals as goal

pub returns-in-None : goal.returns-in-None
returns-in-None t c =
    let given = c.args.given in
    let none : length c.args.places.now ≡ 0 = (c.in-None.ensures {u = tt}).cases in
    places_end c.args.base.now c.args.units.0 c.args.units.1 given.count given.value c.args.places.now (flat_map values_of c.args.values.now) (flat_map units_of c.args.spans.now) _ c.if-count-given.true none (c.in_ok-push_span.ensures {u = tt})

pub returns-in-None-split_first : goal.returns-in-None-split_first
returns-in-None-split_first t c =
    let given = c.args.given in
    let fewer : given.count ≤ c.args.units.1 = omega arith in
    let none : length c.args.values.now ≡ 0 = (c.in-None-split_first.ensures {u = tt}).cases in
    values_end c.args.base.now c.args.units.0 c.args.units.1 given.count given.value (flat_map places_of c.args.places.now) c.args.values.now (flat_map units_of c.args.spans.now) _ fewer none (c.in_ok-push_span-2.ensures {u = tt})
