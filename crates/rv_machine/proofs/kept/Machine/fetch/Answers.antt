use Rattle.std.proofs.Common.{ℕ, ◌+◌, ◌-◌, ◌≤◌, arith, ap, ◌∙◌, get_or, List}
use Rattle.std.proofs.lemmas.Bool.Decides.{nat_tests}
use Rattle.rv_isa.specs.Table.{decode_word}
use Rattle.rv_machine.specs.Memory.{read}
use Rattle.rv_machine.specs.Machine.{fetched}
use Rattle.rv_machine.proofs.Wholes.{read_low}
use Rattle.rv_machine.proofs.kept.Machine.fetch.Goals as goal

pub returns-clause-value : goal.returns-clause-value
unfolding fetched
returns-clause-value c =
    let m = c.args.self.now in
    let low : 65536 ≤ m.pc = grind (arith, nat_tests, c.requires, m.apart) in
    let high : m.pc + 4 ≤ m.data_at = grind (arith, nat_tests, c.requires, m.apart) in
    c.decode.ensures.value
    ∙ ap decode_word
    (c.read_le.ensures.value
    ∙ ap (λ (xs : List ℕ). read 4 (λ y. get_or xs y 0) (m.pc - 65536)) c.deref.ensures.value
    ∙ read_low 4 _ _ _ _ low high)
