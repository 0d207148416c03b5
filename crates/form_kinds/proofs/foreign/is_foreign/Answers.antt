use Rattle.std.proofs.Common.{◌≡◌, rules, arith, subst}
use Rattle.form_kinds.specs.declared.statement_kinds.StatementKind.TheVariants as kind
use Rattle.form_kinds.specs.StatementKinds.{IsKind}
use Rattle.form_kinds.specs.Foreign.{inside}
use Rattle.form_kinds.proofs.ForeignTexts.{foreign_inside, not_foreign, foreign_of}
use Rattle.form_kinds.proofs.foreign.is_foreign.Goals as goal

pub inside-preserved : goal.inside-preserved
inside-preserved c = record {
  yes = λ f. c.inside.invariant.yes (inside (c.in-Some.ensures {u = tt}) f);
  no = λ f. foreign_inside (c.in-Some.ensures {u = tt}) (c.inside.invariant.no f);
}

pub returns-then-ne : goal.returns-then-ne
returns-then-ne c = λ f. not_foreign (c.in_default.ensures {u = tt}) c.statement_kind.ensures.kind (λ e. grind (arith, e)) (c.inside.invariant.no f)

pub returns : goal.returns
returns c = foreign_of c.is_foreign_text.result c.is_foreign_text.ensures (let worded : c.statement_kind.result ≡ kind.Worded = search rules in subst (IsKind c.inside.rest.now) worded c.statement_kind.ensures.kind) (c.in_default.ensures {u = tt}) c.inside.invariant.yes c.inside.invariant.no
