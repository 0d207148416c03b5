use Rattle.f77_parse.proofs.Texts.{tokens_explain, form_explains, foreign_explains, nothing_explains}
use Rattle.f77_parse.proofs.statement.explained.Goals as goal

pub returns-in-Some : goal.returns-in-Some
returns-in-Some c = λ behind formed. tokens_explain behind c.args.text.now c.in-Some.number (rw c.in-Some.is at (c.in_ok-number.ensures {u = tt}))

pub returns-then-formed : goal.returns-then-formed
returns-then-formed c = λ behind formed. form_explains behind c.args.text.now (rw c.in_default.is at (c.in_ok-number.ensures {u = tt})) (rw c.if-formed.true at formed)

pub returns-then-is_foreign : goal.returns-then-is_foreign
returns-then-is_foreign c = λ behind formed. foreign_explains behind c.args.text.now (rw c.in_default.is at (c.in_ok-number.ensures {u = tt})) (rw c.if-formed.false at formed) (c.if-is_foreign.ensures {u = tt})

pub returns-else-is_foreign : goal.returns-else-is_foreign
returns-else-is_foreign c = λ behind formed. nothing_explains behind c.args.text.now (rw c.in_default.is at (c.in_ok-number.ensures {u = tt})) (rw c.if-formed.false at formed) (c.if-is_foreign.ensures {u = tt})
