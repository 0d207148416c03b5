use Rattle.std.proofs.Common.{◌≡◌, rules, sym, ◌∙◌}
use Rattle.f77_expr.specs.declared.token.Kind.TheVariants as k
use Rattle.f77_expr.proofs.Beginnings.{begins_word, begins_none}
use Rattle.f77_expr.proofs.fronts.front.Goals as goal

pub returns-then-is_letter : goal.returns-then-is_letter
returns-then-is_letter c = record { begins = begins_word c.args.text.now c.word_run.result c.requires.some (sym (c.if-is_letter.ensures {u = tt})) c.word_run.ensures }

pub returns-then-eq : goal.returns-then-eq
returns-then-eq c =
    let other : c.sign_kind.result ≡ k.Other = search rules in
    record { begins = begins_none c.args.text.now c.requires.some (sym (c.if-is_letter.ensures {u = tt})) (sym (c.if-is_digit.ensures {u = tt})) c.if-b-eq39.false c.if-b-eq46.false (sym c.sign_kind.ensures ∙ other) }
