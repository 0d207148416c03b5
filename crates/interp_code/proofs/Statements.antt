-- A statement does what its steps and its ending do.
use Rattle.std.proofs.Common.{◌≡◌, ℕ, List, [], ◌∷◌, ◌++◌, Option, None, Some, ℤ, pos, flat_map, refl, sym, ap, ◌∙◌, append-nil}
use Rattle.run_model.specs.Acts.{Act, Done, and_then}
use Rattle.run_model.specs.Turns.{After}
use Rattle.f77_semantics.specs.Program.{Term, Terms, Statement, Assign, If, LogicalIf, ArithmeticIf, GoTo, ComputedGoTo, Do, Continue, Call, Return, Stop, Print, Read, NoStatement, Routine}
use Rattle.f77_semantics.specs.declared.storage.Base.{Base}
use Rattle.f77_tree.specs.declared.unit.Value.{Value}
use Rattle.f77_tree.specs.declared.unit.Value.TheVariants.{Integer, Logical}
use Rattle.f77_semantics.specs.Expressions.{Frame, value}
use Rattle.f77_semantics.specs.Statements.{Here, number, step_of, as_number, perform, target, items, say_record, to}
use Rattle.interp_code.specs.Steps.{Step, Number, Operand, Operands, Item, operands_onto, said, shown, steps}
use Rattle.interp_code.specs.Code.{code, shows}
use Rattle.interp_code.specs.Endings.{number_code, step_code, prelude, ending, begun, finish}
use Rattle.interp_code.proofs.Acts.{assoc, later}
use Rattle.interp_code.proofs.Codes.{code_does, passes_does, passed_back, aim_does, reads_does, shows_does, shown_says}

pub number_does : (f : Frame) (t : Term) (cs : List Step) (s : Operands) → steps f (number_code t cs) s ≡ and_then (number f t) (λ n. steps f cs (Item (Integer n) ∷ s))
number_does f t cs s = code_does f t (Number ∷ cs) s ∙ simp assoc

turned : (os s acc : Operands) → operands_onto (operands_onto os s) acc ≡ operands_onto s (os ++ acc)
turned [] s acc = refl
turned (o ∷ os) s acc = turned os (o ∷ s) acc

pub turned_back : (os : Operands) → operands_onto (operands_onto os []) [] ≡ os
turned_back os = turned os [] [] ∙ append-nil os

step_does : (f : Frame) (e : Option Term) (s : Operands) → steps f (step_code e) s ≡ and_then (step_of f e) (λ n. Done (Item (Integer n) ∷ s))
step_does f None s = refl
step_does f (Some e) s = number_does f e [] s

pub performs : (u : Routine) (f : Frame) (s : Here) (k : ℕ) (t : Statement) → perform u f s k t ≡ and_then (steps f (prelude t) []) (finish u f s k (ending t))
performs u f s k (Assign t e) = simp (aim_does f t, code_does f e, assoc)
performs u f s k (If e otherwise) = simp (code_does f e, assoc)
performs u f s k (LogicalIf e inner) = simp (code_does f e, assoc)
performs u f s k (ArithmeticIf e a b c) = simp (number_does f e, assoc)
performs u f s k (GoTo l) = refl
performs u f s k (ComputedGoTo ls e) = simp (number_does f e, assoc)
performs u f s k (Do b e1 e2 e3) = simp (number_does f e1, number_does f e2, step_does f e3, assoc)
performs u f s k Continue = refl
performs u f s k (Call site es) = simp (passes_does f site 0 es, passed_back, assoc)
performs u f s k Return = refl
performs u f s k Stop = refl
performs u f s k (Print es) = simp (shows_does f es, shown_says f es, turned_back, assoc)
performs u f s k (Read ts) = simp (reads_does f ts, assoc)
performs u f s k NoStatement = refl
