use Rattle.std.proofs.Common.{◌≡◌, [], map, ap, ◌∙◌, rules}
use Rattle.interp_steps.specs.Frames.{interval_of, shape_at}
use Rattle.interp_calls.specs.Entries.{associated_by}
use Rattle.interp_calls.proofs.Entering.{associated_is}
use Rattle.interp_calls.proofs.entries.entered.Goals as goal

pub returns : goal.returns
returns c = λ find u is.
    let ds = map interval_of c.args.actuals.now in
    let marks = c.args.procedure.now.arrays.items in
    let all : map interval_of c.in_ok-actuals.actuals.items ≡ associated_by marks 0 ds = search rules in
    let none : c.new.result.items ≡ [] = search rules in
    let one = all ∙ associated_is u.dummy_arrays marks is.arrays 0 ds in
    let shapes = ap shape_at none in
    λ i. record { unit = is.stands.name i; actuals = one i; shapes = shapes i }
