use Rattle.std.proofs.Common.{List, [], ◌∷◌, ◌++◌, true, false, None, refl, sym, subst, ◌∙◌, arith}
use Rattle.f77_tree.specs.declared.unit.Stmt.{Stmt}
use Rattle.f77_parse.specs.Progress.{Stands}
use Rattle.f77_parse.proofs.Finishing.{stands_start, stands_more, finished, finished_fault, finished_faultless, finished_few, finished_unit, finished_ends}
use Rattle.f77_parse.proofs.unit.parse_unit.Goals as goal

pub loop-line-init : goal.loop-line-init
loop-line-init c = record {
  small = omega arith;
  kind = refl;
  stands = subst (λ (xs : List Stmt). Stands [] (c.in-Some.front.now ++ c.in-Some.last.now ∷ []) (record { statements = xs; context = record { kind = c.in_ok-kind.kind; first = true; declared = false; executed = false }; tokens = 0; fault = None }))
      (sym c.new.ensures) (stands_start c.in_ok-kind.kind (c.in-Some.front.now ++ c.in-Some.last.now ∷ []));
}

pub take-requires : goal.take-requires
take-requires c = c.loop-line.invariant.small

pub loop-line-preserved : goal.loop-line-preserved
loop-line-preserved c =
    let taken = c.in_ok-progress.ensures {u = tt} in
    record {
      small = taken.small;
      kind = taken.kind ∙ c.loop-line.invariant.kind;
      stands = stands_more c.in-Some.front.now c.in-Some.last.now c.loop-line.line-index c.line-item.result c.loop-line.progress c.in_ok-progress.progress c.loop-line-test.true c.line-item.is c.loop-line.invariant.stands taken.stands;
    }

pub take-requires-2 : goal.take-requires-2
take-requires-2 c = c.loop-line.invariant.small

pub returns-in-Some-fault-clause-fault : goal.returns-in-Some-fault-clause-fault
returns-in-Some-fault-clause-fault c =
    let done = finished c.args.unit.now c.as_slice-lines.result.now c.in-Some.front.now c.in-Some.last.now c.loop-line.line-index c.in_ok-kind.kind c.in_ok-kind.dummies c.loop-line.progress c.in_ok-statements.field-0 c.as_slice-lines.ensures (c.in-Some.ensures {u = tt}).cases.0 c.loop-line-test.false
    (c.in_ok-kind.ensures {u = tt}).head (c.in_ok-kind.ensures {u = tt}).only c.loop-line.invariant.kind (c.in_ok-statements.ensures {u = tt}).kind c.loop-line.invariant.stands (c.in_ok-statements.ensures {u = tt}).stands in
    finished_fault c.refusal.result c.args.unit.now c.in_ok-kind.kind c.in_ok-kind.dummies c.in_ok-statements.field-0 c.in-Some-fault.mark done c.in-Some-fault.is c.refusal.ensures.told

pub returns-clause-unit : goal.returns-clause-unit
returns-clause-unit c =
    let done = finished c.args.unit.now c.as_slice-lines.result.now c.in-Some.front.now c.in-Some.last.now c.loop-line.line-index c.in_ok-kind.kind c.in_ok-kind.dummies c.loop-line.progress c.in_ok-statements.field-0 c.as_slice-lines.ensures (c.in-Some.ensures {u = tt}).cases.0 c.loop-line-test.false
    (c.in_ok-kind.ensures {u = tt}).head (c.in_ok-kind.ensures {u = tt}).only c.loop-line.invariant.kind (c.in_ok-statements.ensures {u = tt}).kind c.loop-line.invariant.stands (c.in_ok-statements.ensures {u = tt}).stands in
    finished_unit c.args.unit.now c.in_ok-kind.kind c.in_ok-kind.dummies c.in_ok-statements.field-0 c.in_ok-copy.field-0 done c.in_default-fault.is (c.in_ok-copy.ensures {u = tt})

pub returns-clause-faultless : goal.returns-clause-faultless
returns-clause-faultless c =
    let done = finished c.args.unit.now c.as_slice-lines.result.now c.in-Some.front.now c.in-Some.last.now c.loop-line.line-index c.in_ok-kind.kind c.in_ok-kind.dummies c.loop-line.progress c.in_ok-statements.field-0 c.as_slice-lines.ensures (c.in-Some.ensures {u = tt}).cases.0 c.loop-line-test.false
    (c.in_ok-kind.ensures {u = tt}).head (c.in_ok-kind.ensures {u = tt}).only c.loop-line.invariant.kind (c.in_ok-statements.ensures {u = tt}).kind c.loop-line.invariant.stands (c.in_ok-statements.ensures {u = tt}).stands in
    finished_faultless c.args.unit.now c.in_ok-kind.kind c.in_ok-kind.dummies c.in_ok-statements.field-0 done c.in_default-fault.is

pub returns-clause-few : goal.returns-clause-few
returns-clause-few c =
    let done = finished c.args.unit.now c.as_slice-lines.result.now c.in-Some.front.now c.in-Some.last.now c.loop-line.line-index c.in_ok-kind.kind c.in_ok-kind.dummies c.loop-line.progress c.in_ok-statements.field-0 c.as_slice-lines.ensures (c.in-Some.ensures {u = tt}).cases.0 c.loop-line-test.false
    (c.in_ok-kind.ensures {u = tt}).head (c.in_ok-kind.ensures {u = tt}).only c.loop-line.invariant.kind (c.in_ok-statements.ensures {u = tt}).kind c.loop-line.invariant.stands (c.in_ok-statements.ensures {u = tt}).stands in
    finished_few c.args.unit.now c.in_ok-kind.kind c.in_ok-kind.dummies c.in_ok-statements.field-0 done c.in_default-fault.is

pub returns-clause-ends : goal.returns-clause-ends
returns-clause-ends c =
    let done = finished c.args.unit.now c.as_slice-lines.result.now c.in-Some.front.now c.in-Some.last.now c.loop-line.line-index c.in_ok-kind.kind c.in_ok-kind.dummies c.loop-line.progress c.in_ok-statements.field-0 c.as_slice-lines.ensures (c.in-Some.ensures {u = tt}).cases.0 c.loop-line-test.false
    (c.in_ok-kind.ensures {u = tt}).head (c.in_ok-kind.ensures {u = tt}).only c.loop-line.invariant.kind (c.in_ok-statements.ensures {u = tt}).kind c.loop-line.invariant.stands (c.in_ok-statements.ensures {u = tt}).stands in
    finished_ends c.args.unit.now c.in_ok-kind.kind c.in_ok-kind.dummies c.in_ok-statements.field-0 c.in_ok-copy.field-0 c.requires.ended done c.in_default-fault.is
