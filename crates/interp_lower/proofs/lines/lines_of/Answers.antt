use Rattle.std.proofs.Common.{◌+◌, get_or, length, subst, ap, ◌∙◌}
use Rattle.f77_tree.specs.declared.form.Form.{out-Form}
use Rattle.f77_tree.specs.declared.unit.Stmt.{Stmt}
use Rattle.f77_names.specs.Occurrences.{in_statement}
use Rattle.f77_store.specs.Layouts.{callees_with}
use Rattle.f77_semantics.specs.Resolve.{statement_of}
use Rattle.interp_data.specs.Meant.{meant}
use Rattle.interp_lower.specs.Lines.{IsLine}
use Rattle.interp_lower.proofs.Lining.{lines_more, lines_end}
use Rattle.interp_lower.proofs.lines.lines_of.Goals as goal

pub loop-k-preserved : goal.loop-k-preserved
loop-k-preserved c =
    let names = c.args.names.now in
    let all = c.args.control.now.statements.now in
    let k = c.loop-k.k in
    let site = c.loop-k.site in
    let line = c.in_ok-line_of.field-0 in
    let here : IsLine line (statement_of (meant names) c.args.main all k site (out-Form (get_or all k c.index-statements-k.result).form)) =
    subst (λ (s : Stmt). IsLine line (statement_of (meant names) c.args.main all k site (out-Form s.form))) c.index-statements-k.is c.in_ok-line_of.ensures in
    let count = c.in_ok-sites_of.ensures {u = tt} ∙ ap (λ (s : Stmt). length (callees_with names.facts (in_statement s))) c.index-statements-k.is in
    let next = c.in_ok-site.ensures {u = tt} ∙ ap (λ n. site + n) count in
    rw (c.in_ok-push.ensures {u = tt}).ok (lines_more (meant names) names.facts c.args.main all k site c.in_ok-site.site c.index-statements-k.result c.loop-k.all line _ c.loop-k-test.true here next c.loop-k.invariant)

pub returns : goal.returns
returns c = lines_end (meant c.args.names.now) c.args.names.now.facts c.args.main c.args.control.now.statements.now c.loop-k.k c.loop-k.site c.loop-k.all _ c.loop-k-test.false c.loop-k.invariant
