use Rattle.std.proofs.Common.{ℕ, ◌+◌, ◌-◌, ◌≤◌, arith, ap, ◌∙◌, get_or, List}
use Rattle.std.proofs.lemmas.Bool.Decides.{nat_tests}
use Rattle.rv_machine.specs.Memory.{read}
use Rattle.rv_machine.proofs.Wholes.{read_low, read_high}
use Rattle.rv_machine.proofs.kept.Machine.read_value.Goals as goal

pub returns-then-at-self : goal.returns-then-at-self
returns-then-at-self c =
    let m = c.args.self.now in
    let low : 65536 ≤ c.args.at = grind (arith, nat_tests, c.requires.mapped, m.apart) in
    let high : c.args.at + c.args.count ≤ m.data_at = grind (arith, nat_tests, c.requires.mapped, m.apart) in
    c.read_le.ensures.value
    ∙ ap (λ (xs : List ℕ). read c.args.count (λ y. get_or xs y 0) (c.args.at - 65536)) c.deref.ensures.value
    ∙ read_low c.args.count _ _ _ _ low high

pub returns-else-at-self : goal.returns-else-at-self
returns-else-at-self c =
    c.read_le-else-at-self.ensures.value
    ∙ ap (λ (xs : List ℕ). read c.args.count (λ y. get_or xs y 0) (c.args.at - c.args.self.now.data_at)) c.deref-else-at-self.ensures.value
    ∙ read_high c.args.count _ _ _ _ c.if-at-self.false
