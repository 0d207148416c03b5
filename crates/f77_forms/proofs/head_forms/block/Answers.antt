use Rattle.std.proofs.Common.{sym, ◌∙◌}
use Rattle.f77_forms.proofs.HeadParts.{never_block, sole_block}
use Rattle.form_parts.proofs.NextToken.{filled}
use Rattle.f77_forms.proofs.head_forms.block.Goals as goal

pub returns-in_default : goal.returns-in_default
returns-in_default c = never_block (rw c.as_slice.ensures at (c.in_default.ensures {u = tt}))

pub returns : goal.returns
returns c = rw (c.in_ok-name_of-2.ensures {u = tt}, c.new-2.ensures) (sole_block (rw c.as_slice.ensures at (c.in-Some.ensures {u = tt})) (filled c.in-Some.name.now c.is_empty.ensures c.if-is_empty.false) (sym c.is_name.ensures ∙ c.if-not-is_name.false))
