use Rattle.f77_parse.specs.Statements.{EndsUnit}
use Rattle.thin_text.proofs.Units.{first_fault, second_fault, program, first_of, rest_of, alone}
use Rattle.thin_text.proofs.thin.thin_of.Goals as goal

pub returns-in-Faulty : goal.returns-in-Faulty
returns-in-Faulty c = record { told = first_fault c.in-Faulty.fault c.args.units.now c.in-Some.unit.now c.in-Some.others.now (c.in-Some.ensures {u = tt}).cases.0 (rw c.in-Faulty.is at (c.in_ok-body.ensures {u = tt}).thin) }

pub returns-in_default-split_first : goal.returns-in_default-split_first
returns-in_default-split_first c =
    let cut = (c.in-Some.ensures {u = tt}).cases.0 in
    let thin = rw c.in-Body.is at (c.in_ok-body.ensures {u = tt}).thin in
    let plain = rw c.in-Body.is at (c.in_ok-body.ensures {u = tt}).plain in
    let ended = first_of EndsUnit c.args.units.now c.in-Some.unit.now c.in-Some.others.now cut c.requires.ended in
    record {
      told = (
        record { unit = c.in-Some.unit.now; alone = alone c.args.units.now c.in-Some.unit.now c.in-Some.others.now cut (c.in_default-split_first.ensures {u = tt}).cases; statements = thin },
        program c.end_law.ensures.end c.in-Some.unit.now c.in-Body.body ended thin plain,
      );
    }

pub second-requires : goal.second-requires
second-requires c =
    let all = rest_of EndsUnit c.args.units.now c.in-Some.unit.now c.in-Some.others.now (c.in-Some.ensures {u = tt}).cases.0 c.requires.ended in
    first_of EndsUnit c.in-Some.others.now c.in-Some-split_first.next.now c.in-Some-split_first.field-0-1.now (c.in-Some-split_first.ensures {u = tt}).cases.0 all

pub returns : goal.returns
returns c = record {
  told = second_fault c.in_ok-second.field-0 c.args.units.now c.in-Some.unit.now c.in-Some-split_first.next.now c.in-Some.others.now c.in-Some-split_first.field-0-1.now c.in-Body.body
      (c.in-Some.ensures {u = tt}).cases.0 (c.in-Some-split_first.ensures {u = tt}).cases.0 (rw c.in-Body.is at (c.in_ok-body.ensures {u = tt}).thin) (c.in_ok-second.ensures {u = tt});
}
