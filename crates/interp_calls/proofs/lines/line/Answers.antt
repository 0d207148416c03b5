use Rattle.std.specs.Slice.{IsItemAt}
use Rattle.std.proofs.Common.{◌≡◌, ◌≤◌, length, rules, arith}
use Rattle.interp_calls.proofs.Lining.{line_found, behind_all}
use Rattle.interp_calls.proofs.lines.line.Goals as goal

pub returns-then-k-procedure-clause-line : goal.returns-then-k-procedure-clause-line
returns-then-k-procedure-clause-line c = λ find u is.
    let lines = c.args.procedure.now.routine.lines in
    let e : c.as_slice-lines.result.now ≡ lines = search rules in
    let item : IsItemAt c.as_slice-lines.result.now c.args.k c.get.result = search rules in
    line_found c.as_slice-lines.result.now lines u.statements e is.stands.statements c.args.k c.get.result item

pub returns-else-k-procedure-clause-line : goal.returns-else-k-procedure-clause-line
returns-else-k-procedure-clause-line c = λ find u is.
    let l = is.lines in
    let far : length u.statements ≤ c.args.k = omega (arith, l) in
    behind_all u.statements c.args.k far
