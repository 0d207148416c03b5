-- A statement is the steps of its expressions, and then what it makes of their operands.
use Rattle.std.specs.Prelude.{ℕ, List, [], ◌∷◌, Option, None, Some, ℤ, pos, flat_map, if◌then◌else◌}
use Rattle.std.specs.Ordering.{int_eq}
use Rattle.run_model.specs.Acts.{Act, Done, Fail, Ended, Undefined, Stuck, and_then}
use Rattle.run_model.specs.Turns.{After, Again}
use Rattle.f77_tree.specs.declared.unit.Value.TheVariants.{Integer}
use Rattle.f77_flow.specs.Graph.{At, Inside, Test}
use Rattle.f77_semantics.specs.Program.{Term, Statement, Assign, If, LogicalIf, ArithmeticIf, GoTo, ComputedGoTo, Do, Continue, Call, Return, Stop, Print, Read, NoStatement, Routine}
use Rattle.f77_semantics.specs.declared.storage.Base.{Base}
use Rattle.f77_semantics.specs.Expressions.{Frame, scalar, store}
use Rattle.f77_semantics.specs.Statements.{Here, set_loop, as_number, as_truth, say_record, trips, by_sign, chosen, to, to_chosen, return}
use Rattle.interp_code.specs.Steps.{Operands, Item, Place, operands_onto, said, Step, Push, Open, Perform, Number, steps}
use Rattle.interp_code.specs.Code.{code, passes, aim, shows, reads}
pub use Rattle.interp_code.specs.declared.ending.Ending.{Ending}
pub use Rattle.interp_code.specs.declared.ending.Ending.TheVariants.{Store, Branch, Guard, Sign, Jump, Choose, Count, Next, Leave, Halt, Write, Nowhere}

abbrev pub number_code : Term → List Step → List Step
number_code e cs = code e (Number ∷ cs)

abbrev pub step_code : Option Term → List Step
step_code None = Push (Integer (pos 1)) ∷ []
step_code (Some e) = number_code e []

abbrev pub prelude : Statement → List Step
prelude (Assign t e) = aim t (code e [])
prelude (If e otherwise) = code e []
prelude (LogicalIf e inner) = code e []
prelude (ArithmeticIf e a b c) = number_code e []
prelude (ComputedGoTo ls e) = number_code e []
prelude (Do b e1 e2 e3) = number_code e1 (number_code e2 (step_code e3))
prelude (Call site es) = Open ∷ passes site 0 es (Perform site ∷ [])
prelude (Print es) = shows es []
prelude (Read ts) = reads ts []
prelude _ = []

abbrev pub ending : Statement → Ending
ending (Assign t e) = Store
ending (If e otherwise) = Branch otherwise
ending (LogicalIf e inner) = Guard
ending (ArithmeticIf e a b c) = Sign a b c
ending (GoTo l) = Jump l
ending (ComputedGoTo ls e) = Choose ls
ending (Do b e1 e2 e3) = Count b
ending Continue = Next
ending (Call site es) = Next
ending Return = Leave
ending Stop = Halt
ending (Print es) = Write
ending (Read ts) = Next
ending NoStatement = Nowhere

-- the DO at k begins: its variable is set and its count is fixed
abbrev pub begun : Frame → Here → ℕ → Base → (m1 m2 m3 : ℤ) → Act (After Here)
begun f s k b m1 m2 m3 = if int_eq m3 (pos 0) then Fail (Undefined 6) else and_then (store (scalar f b) (Integer m1)) (λ _. Done (Again (record { point = Test k; loops = set_loop k (record { count = trips m1 m2 m3; step = m3 }) s.loops })))

abbrev pub finish : Routine → Frame → Here → ℕ → Ending → Operands → Act (After Here)
finish u f s k Store (Item x ∷ Place l ∷ []) = and_then (store l x) (λ _. to (u.after k) s)
finish u f s k (Branch otherwise) (Item v ∷ []) = and_then (as_truth v) (λ c. to (At (if c then u.below k else otherwise)) s)
finish u f s k Guard (Item v ∷ []) = and_then (as_truth v) (λ c. to (if c then Inside k else u.after k) s)
finish u f s k (Sign a b c) (Item (Integer x) ∷ []) = to (At (by_sign x a b c)) s
finish u f s k (Jump l) [] = to (At l) s
finish u f s k (Choose ls) (Item (Integer x) ∷ []) = to_chosen (chosen ls x) (u.after k) s
finish u f s k (Count b) (Item (Integer m3) ∷ Item (Integer m2) ∷ Item (Integer m1) ∷ []) = begun f s k b m1 m2 m3
finish u f s k Next [] = to (u.after k) s
finish u f s k Leave [] = return f u.result
finish u f s k Halt [] = Fail (Ended 0)
finish u f s k Write os = and_then (say_record (flat_map said (operands_onto os []))) (λ _. to (u.after k) s)
finish u f s k _ _ = Fail Stuck
