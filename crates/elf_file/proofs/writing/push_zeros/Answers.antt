use Rattle.std.proofs.Common.{◌≡◌, ℕ, suc, ◌+◌, ◌-◌, List, [], ◌∷◌, ◌++◌, arith, ap, ◌∙◌, sym, append_assoc, append-nil}
use Rattle.elf_file.specs.Shape.{zeros}
use Rattle.elf_file.proofs.Shapes.{zeros-suc, zeros-zero}
use Rattle.elf_file.proofs.writing.push_zeros.Goals as goal

pub loop-k-preserved : goal.loop-k-preserved
loop-k-preserved c =
    let n : c.args.count - c.loop-k._k ≡ suc (c.args.count - (c.loop-k._k + 1)) = omega arith in
    let m = c.args.count - (c.loop-k._k + 1) in
    ap (λ (xs : List ℕ). xs ++ zeros m) c.in_ok-push.ensures.items
    ∙ append_assoc c.loop-k.bytes.items (0 ∷ []) (zeros m)
    ∙ ap (λ (xs : List ℕ). c.loop-k.bytes.items ++ xs) (sym (zeros-suc m))
    ∙ ap (λ m. c.loop-k.bytes.items ++ zeros m) (sym n) ∙ c.loop-k.invariant

pub returns : goal.returns
returns c =
    let n : c.args.count - c.loop-k._k ≡ 0 = omega arith in
    let z : zeros (c.args.count - c.loop-k._k) ≡ [] = ap zeros n ∙ zeros-zero in
    sym (ap (λ (xs : List ℕ). c.loop-k.bytes.items ++ xs) z ∙ append-nil c.loop-k.bytes.items) ∙ c.loop-k.invariant
