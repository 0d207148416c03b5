use Rattle.std.proofs.Common.{◌≡◌, ◌+◌, ◌%◌, ◌^◌, ◌∙◌, sym, ap, w32}
use Rattle.std.proofs.lemmas.Int.{to_z-of_z}
use Rattle.rv_isa.specs.declared.inst.Inst.TheVariants.{Store}
use Rattle.rv_machine.specs.Machine.{kept, exec, bits_of}
use Rattle.rv_machine.specs.Kept.{state_of}
use Rattle.rv_machine.proofs.kept.Machine.execute_store.Goals as goal

pub returns-in-Sd : goal.returns-in-Sd
returns-in-Sd c =
    let s = state_of c.args.self.now in
    let e1 = c.register.ensures in
    let e2 = c.bits.ensures ∙ ap bits_of (to_z-of_z w32 c.args.value c.ranges.value) in
    let e3 = c.register-stored.ensures in
    let k : kept 8 ((c.register.result + c.bits.result) % 2 ^ 64) c.register-stored.result s ≡ kept 8 ((s.regs c.args.a + bits_of c.args.value) % 2 ^ 64) (s.regs c.args.b) s = λ i. kept 8 ((e1 i + e2 i) % 2 ^ 64) (e3 i) s in
    c.store_from.ensures ∙ k ∙ ap (λ op. exec (Store op c.args.a c.args.b c.args.value) s) (sym c.in-Sd.is)
