use Rattle.std.proofs.Common.{List, ℕ, subst}
use Rattle.f77_expr.specs.Lexing.{Counts}
use Rattle.f77_parse.specs.Shown.{KnowsForm}
use Rattle.f77_parse.proofs.Standing.{stands_next, passes_told}
use Rattle.f77_parse.proofs.unit.take.Goals as goal

pub returns-clause-stands : goal.returns-clause-stands
returns-clause-stands c = λ before after last stands.
    let line = c.args.line.now in
    let same = c.as_slice-text.ensures in
    let form : KnowsForm after line.text c.in_ok-form.form = subst (λ (t : List ℕ). KnowsForm after t c.in_ok-form.form) same ((c.in_ok-form.ensures {u = tt}) after last) in
    let counts : Counts line.text c.token_count.result = subst (λ (t : List ℕ). Counts t c.token_count.result) same c.token_count.ensures.count in
    let passing = passes_told c.lexes_law.ensures.pieces before line stands.total c.token_count.result c.args.progress.tokens c.add_tokens-total.result stands.counted counts stands.tokens c.add_tokens-total.ensures c.passes_limit.result c.passes_limit.ensures in
    let mark = (c.in_ok-mark.ensures {u = tt}) before after stands.knows form passing in
    stands_next before line after c.args.progress _ c.in_ok-form.form c.token_count.result c.in_ok-mark.mark stands form counts mark c.behind-context.ensures c.add_tokens-total.ensures c.first_of.ensures.first (c.in_ok-statements.ensures {u = tt})
