-- The top of a stack.
use Rattle.std.proofs.Common.{◌≡◌, List, [], ◌∷◌, ◌++◌}
use Rattle.std.proofs.lemmas.List.{map-append, reverse-append}
use Rattle.interp_steps.specs.declared.operand.Operand.{Operand}
use Rattle.interp_steps.specs.Stacks.{operand_of, stack_of}

pub pushed : (s : List Operand) (o : Operand) → stack_of (s ++ o ∷ []) ≡ operand_of o ∷ stack_of s
pushed s o = simp (map-append, reverse-append)
