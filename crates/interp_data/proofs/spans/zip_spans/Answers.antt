use Rattle.std.proofs.Common.{◌≡◌, length, flat_map, sym, ap, ◌∙◌}
use Rattle.interp_data.specs.Spans.{places_of, units_of}
use Rattle.interp_data.proofs.Zipping.{nothing_given}
use Rattle.interp_data.proofs.spans.zip_spans.Goals as goal

pub returns-in_default : goal.returns-in_default
returns-in_default c =
    let none : length c.as_slice-2.result.now ≡ 0 = (c.in_default.ensures' {u = tt}).cases in
    nothing_given (flat_map places_of c.args.places.now) c.args.values.now (flat_map units_of c.args.spans.now) (ap length (sym c.as_slice-2.ensures) ∙ none)
