use Rattle.std.proofs.Common.{◌≡◌, ℕ, ◌-◌, ◌≤◌, arith, ap, ◌∙◌, get_or, List, vec_len, length}
use Rattle.std.proofs.lemmas.Bool.Decides.{nat_tests}
use Rattle.rv_machine.specs.Memory.{write}
use Rattle.std.proofs.lemmas.List.{with_items_is}
use Rattle.rv_machine.specs.Kept.{state_of, whole}
use Rattle.rv_machine.proofs.Wholes.{store_whole}
use Rattle.rv_machine.proofs.kept.Machine.write_value.Goals as goal

pub returns : goal.returns
returns c =
    let m = c.args.self.now in
    let low : m.data_at ≤ c.args.at = grind (arith, nat_tests, c.requires.mapped) in
    let f : (x : ℕ) → get_or c.write_le.new.bytes x 0 ≡ write c.args.count (c.args.at - m.data_at) c.args.value (λ y. get_or m.memory.items y 0) x =
    λ x. c.write_le.ensures x ∙ ap (λ (xs : List ℕ). write c.args.count (c.args.at - m.data_at) c.args.value (λ y. get_or xs y 0) x) c.deref_mut.ensures.value in
    let p = store_whole c.args.count m.data_at c.args.at c.args.value m.code.items m.memory.items c.write_le.new.bytes low f in
    let e : length c.write_le.new.bytes ≡ vec_len m.memory = omega (arith, c.write_le.auto.bytes, c.deref_mut.ensures.len) in
    let w = with_items_is m.memory c.write_le.new.bytes e in
    λ i. record (state_of m) { mem = (ap (λ (xs : List ℕ). whole m.code.items xs m.data_at) w ∙ p) i }
