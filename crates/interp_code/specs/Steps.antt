-- What steps of expressions do. Each takes operands from a stack and puts one there, so that an expression is a list of steps.
use Rattle.std.specs.Prelude.{ℕ, List, [], ◌∷◌, Option, Some, None, ℤ, map}
use Rattle.run_model.specs.Storage.{Loc, Interval}
use Rattle.run_model.specs.Acts.{Act, Done, Take, Ask, Fail, Stuck, and_then, Answer}
use Rattle.f77_tree.specs.declared.expr.Op.{Op}
use Rattle.f77_tree.specs.declared.unit.Ty.{Ty}
use Rattle.f77_tree.specs.declared.unit.Value.{Value}
use Rattle.f77_tree.specs.declared.unit.Value.TheVariants.{Integer}
use Rattle.f77_names.specs.declared.intrinsics.Intrinsic.{Intrinsic}
use Rattle.f77_values.specs.Arithmetic.{negated, kept, denied}
use Rattle.f77_semantics.specs.Values.{or_fail, operated, intrinsic}
use Rattle.f77_semantics.specs.Program.{Text, Terms, End, ◌and◌}
use Rattle.f77_semantics.specs.declared.storage.Base.{Base}
use Rattle.f77_semantics.specs.declared.storage.Array.{Array}
use Rattle.f77_semantics.specs.Expressions.{Frame, interval, at, rest, fetch, store, scalar, integers, element, sequence, resulting, fresh, value}
use Rattle.f77_semantics.specs.Statements.{as_number, written}
pub use Rattle.interp_code.specs.declared.step.Step.{Step}
pub use Rattle.interp_code.specs.declared.step.Step.TheVariants.{Push, Show, Open, Fetch, Aim, Locate, Load, Pass, PassWhole, PassRest, Hold, Refer, Perform, Compute, Keep, Negate, Deny, Operate, Number, TakeIn, Wrong}

-- what stands on the stack: a value, a location, an actual argument, a literal of PRINT, and what the operands of a list stand on
pub data Operand : Type 0 where
  Item : Value → Operand
  Place : Loc → Operand
  Passed : Interval → Operand
  Bytes : List ℕ → Operand
  Mark : Operand

abbrev pub Operands : Type 0
Operands = List Operand

-- values put on the stack, the first lowest, and actual arguments
abbrev pub onto : List Value → Operands → Operands
onto [] s = s
onto (v ∷ vs) s = onto vs (Item v ∷ s)

abbrev pub passed_onto : List Interval → Operands → Operands
passed_onto [] s = s
passed_onto (d ∷ ds) s = passed_onto ds (Passed d ∷ s)

abbrev pub operands_onto : Operands → Operands → Operands
operands_onto [] s = s
operands_onto (o ∷ os) s = operands_onto os (o ∷ s)

-- the values above the last mark, the lowest first, and what stands below the mark
abbrev pub items_above : Operands → List Value → Option (List Value × Operands)
items_above (Item v ∷ s) vs = items_above s (v ∷ vs)
items_above (Mark ∷ s) vs = Some (vs, s)
items_above _ vs = None

abbrev pub passed_above : Operands → List Interval → Option (List Interval × Operands)
passed_above (Passed d ∷ s) ds = passed_above s (d ∷ ds)
passed_above (Mark ∷ s) ds = Some (ds, s)
passed_above _ ds = None

abbrev pub with_some : {A B : Type 0} → Option A → (A → Act B) → Act B
with_some None go = Fail Stuck
with_some (Some a) go = go a

-- the value on top of the stack, or the location there, and what stands below
abbrev pub item_on : Operands → Option (Value × Operands)
item_on (Item v ∷ s) = Some (v, s)
item_on _ = None

abbrev pub place_on : Operands → Option (Loc × Operands)
place_on (Place l ∷ s) = Some (l, s)
place_on _ = None

abbrev pub with_item : Operands → (Value → Operands → Act Operands) → Act Operands
with_item s go = with_some (item_on s) (λ p. go p.0 p.1)

abbrev pub with_place : Operands → (Loc → Operands → Act Operands) → Act Operands
with_place s go = with_some (place_on s) (λ p. go p.0 p.1)

-- an operand in the place of those that a step takes
abbrev pub push : Operands → Operand → Act Operands
push s o = Done (o ∷ s)

abbrev pub push_item : Operands → Value → Act Operands
push_item s v = Done (Item v ∷ s)

-- the place of an element in its array's sequence, by the subscripts on the stack
abbrev pub with_element : Frame → Array → Operands → (ℕ → Operand) → Act Operands
with_element f a s operand = with_some (items_above s []) (λ p. and_then (element f a p.0) (λ k. push p.1 (operand k)))

abbrev pub step : Frame → Step → Operands → Act Operands
step f (Push v) s = push_item s v
step f (Show bs) s = push s (Bytes bs)
step f Open s = push s Mark
step f (Fetch ty b) s = and_then (fetch ty (scalar f b)) (push_item s)
step f (Aim b) s = push s (Place (scalar f b))
step f (Locate a) s = with_element f a s (λ k. Place (at (sequence f a) k))
step f (Load ty) s = with_place s (λ l t. and_then (fetch ty l) (push_item t))
step f (Pass b) s = push s (Passed (interval f b 1))
step f (PassWhole a) s = push s (Passed (sequence f a))
step f (PassRest a) s = with_element f a s (λ k. Passed (rest (sequence f a) k))
step f (Hold site position) s = with_item s (λ v t. and_then (store (at (fresh f site position) 0) v) (λ _. push t (Passed (fresh f site position))))
step f (Refer site) s = with_some (passed_above s []) (λ p. Ask site p.0 (λ r. and_then (resulting r) (push_item p.1)))
step f (Perform site) s = with_some (passed_above s []) (λ p. Ask site p.0 (λ r. Done p.1))
step f (Compute i) s = with_some (items_above s []) (λ p. and_then (integers p.0) (λ xs. and_then (intrinsic i xs) (λ x. push_item p.1 (Integer x))))
step f Keep s = with_item s (λ x t. and_then (or_fail Stuck (kept x)) (push_item t))
step f Negate s = with_item s (λ x t. and_then (or_fail Stuck (negated x)) (push_item t))
step f Deny s = with_item s (λ x t. and_then (or_fail Stuck (denied x)) (push_item t))
step f (Operate op) s = with_item s (λ y t. with_item t (λ x u. and_then (operated op x y) (push_item u)))
step f Number s = with_item s (λ x t. and_then (as_number x) (λ n. push_item t (Integer n)))
step f TakeIn s = with_place s (λ l t. Take (λ x. and_then (store l (Integer x)) (λ _. Done t)))
step f Wrong s = Fail Stuck

-- one step after another
abbrev pub steps : Frame → List Step → Operands → Act Operands
steps f [] s = Done s
steps f (c ∷ cs) s = and_then (step f c s) (steps f cs)

-- the operands of a PRINT, and the texts of one with the blank before it
abbrev pub shown : Frame → Terms → Act Operands
shown f End = Done []
shown f (Text bs and es) = and_then (shown f es) (λ os. Done (Bytes bs ∷ os))
shown f (e and es) = and_then (value f e) (λ x. and_then (shown f es) (λ os. Done (Item x ∷ os)))

abbrev pub said : Operand → List (List ℕ)
said (Item v) = (32 ∷ []) ∷ written v ∷ []
said (Bytes bs) = (32 ∷ []) ∷ map (λ b. b ∷ []) bs
said _ = []
