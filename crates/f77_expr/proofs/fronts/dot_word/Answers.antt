use Rattle.std.proofs.Common.{◌≡◌, rules, sym, ◌∙◌}
use Rattle.f77_expr.specs.declared.token.Kind.TheVariants as k
use Rattle.f77_expr.proofs.DotWords.{dot_at, no_dot_at}
use Rattle.f77_expr.proofs.fronts.dot_word.Goals as goal

pub returns-then-eq : goal.returns-then-eq
returns-then-eq c =
    let other : c.dot_kind.result ≡ k.Other = search rules in
    no_dot_at c.args.text.now c.split_at.result.1.now c.split_at-2.result.0.now c.split_at-2.result.1.now c.word_run-run.result c.requires.some c.requires.dot c.split_at.ensures.back c.word_run-run.ensures c.split_at-2.ensures.front c.split_at-2.ensures.back
    (λ rest known dot. known (sym c.dot_kind.ensures ∙ other))

pub returns-in-Some : goal.returns-in-Some
returns-in-Some c =
    let known : c.dot_kind.result ≡ k.Other → ⊥ = search rules in
    dot_at c.args.text.now c.split_at.result.1.now c.split_at-2.result.0.now c.split_at-2.result.1.now c.in-Some.field-0.now c.word_run-run.result c.requires.some c.requires.dot c.split_at.ensures.back c.word_run-run.ensures c.split_at-2.ensures.front c.split_at-2.ensures.back
    (λ other. known (c.dot_kind.ensures ∙ other)) (c.in-Some.ensures {u = tt})

pub returns-in-None : goal.returns-in-None
returns-in-None c =
    no_dot_at c.args.text.now c.split_at.result.1.now c.split_at-2.result.0.now c.split_at-2.result.1.now c.word_run-run.result c.requires.some c.requires.dot c.split_at.ensures.back c.word_run-run.ensures c.split_at-2.ensures.front c.split_at-2.ensures.back
    (λ rest known dot. (c.in-None.ensures {u = tt}).not rest dot)
