use Rattle.std.proofs.Common.{◌≡◌, ℕ, suc, ◌+◌, ◌-◌, ◌/◌, ◌%◌, List, [], ◌∷◌, ◌++◌, arith, ap, ◌∙◌, sym, append_assoc}
use Rattle.elf_file.specs.Numbers.{le}
use Rattle.elf_file.proofs.numbers.push_le.Goals as goal

pub loop-k-preserved : goal.loop-k-preserved
loop-k-preserved c =
    let n : c.args.count - c.loop-k._k ≡ suc (c.args.count - (c.loop-k._k + 1)) = omega arith in
    let e = c.in_ok-push.ensures.items in
    ap (λ (xs : List ℕ). xs ++ le (c.args.count - (c.loop-k._k + 1)) (c.loop-k.rest / 256)) e
    ∙ append_assoc c.loop-k.bytes.items (c.loop-k.rest % 256 ∷ []) (le (c.args.count - (c.loop-k._k + 1)) (c.loop-k.rest / 256))
    ∙ ap (λ m. c.loop-k.bytes.items ++ le m c.loop-k.rest) (sym n) ∙ c.loop-k.invariant
