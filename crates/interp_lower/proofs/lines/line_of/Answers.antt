use Rattle.std.proofs.Common.{◌≡◌, sym, subst, rules}
use Rattle.f77_tree.specs.declared.form.Form.{out-Form}
use Rattle.f77_flow.specs.Labels.{target}
use Rattle.f77_semantics.specs.Program.{Statement}
use Rattle.f77_semantics.specs.Resolve.{simple, statement_of}
use Rattle.interp_data.specs.Meant.{meant}
use Rattle.interp_lower.specs.Lines.{IsPiece, IsLine}
use Rattle.interp_lower.proofs.Lining.{none_inside, single_line}
use Rattle.interp_lower.proofs.lines.line_of.Goals as goal

pub returns-in_ok-piece-in_default : goal.returns-in_ok-piece-in_default
returns-in_ok-piece-in_default c =
    let m = meant c.args.names.now in
    let all = c.args.control.now.statements.now in
    let form = out-Form c.args.form.now in
    let alone : Statement = simple m c.args.main (target all) c.args.site form in
    let e : statement_of m c.args.main all c.args.k c.args.site form ≡ alone = search rules in
    let line = c.single-in_default.result in
    let is : IsPiece line.piece alone = subst (λ p. IsPiece p alone) (sym c.single-in_default.ensures.piece) c.in_ok-piece-in_default.ensures in
    subst (IsLine line) (sym e) (single_line m line alone is c.single-in_default.ensures.inner (none_inside m c.args.main (target all) c.args.site form))
