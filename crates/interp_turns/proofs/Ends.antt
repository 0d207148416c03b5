-- The ends of statements, by the operands that they take.
use Rattle.std.proofs.Common.{◌≡◌, ℕ, List, [], ◌∷◌, Option, refl, sym, ap, ◌∙◌, flat_map, if◌then◌else◌}
use Rattle.run_model.specs.Acts.{Act, Fail, Ended, and_then}
use Rattle.run_model.specs.Turns.{After}
use Rattle.f77_tree.specs.declared.unit.Stmt.{Stmt}
use Rattle.f77_tree.specs.declared.unit.Ty.{Ty}
use Rattle.f77_tree.specs.declared.unit.Value.TheVariants.{Integer, Logical}
use Rattle.f77_flow.specs.Blocks as b
use Rattle.f77_flow.specs.Graph as g
use Rattle.f77_flow.specs.Graph.{At, Inside}
use Rattle.f77_semantics.specs.Program.{Routine}
use Rattle.f77_semantics.specs.declared.storage.Base.{Base}
use Rattle.interp_code.specs.declared.ending.Ending.TheVariants.{Branch, Choose, Count, Guard, Halt, Jump, Leave, Next, Sign, Store, Write}
use Rattle.f77_semantics.specs.Expressions.{Frame, store}
use Rattle.f77_semantics.specs.Statements.{Here, by_sign, chosen, say_record, to, to_chosen, return}
use Rattle.interp_code.specs.Steps.{Operands, Item, Place, operands_onto, said}
use Rattle.interp_code.specs.Endings.{begun, finish}
use Rattle.interp_turns.specs.Flows.{Follows}
use Rattle.interp_turns.specs.Operands.{nothing, assigned, truth, number, three}

module _ (u : Routine) (f : Frame) (s : Here) (k : ℕ) where
  store_is : (os : Operands) → and_then (assigned os) (λ p. and_then (store p.1 p.0) (λ _. to (u.after k) s)) ≡ finish u f s k Store os
  store_is (Item x ∷ Place l ∷ []) = refl
  store_is _ = refl

  branch_is : (otherwise : ℕ) (os : Operands) → and_then (truth os) (λ c. to (At (if c then u.below k else otherwise)) s) ≡ finish u f s k (Branch otherwise) os
  branch_is otherwise (Item v ∷ []) = refl
  branch_is otherwise _ = refl

  guard_is : (os : Operands) → and_then (truth os) (λ c. to (if c then Inside k else u.after k) s) ≡ finish u f s k Guard os
  guard_is (Item v ∷ []) = refl
  guard_is _ = refl

  sign_is : (x y z : ℕ) (os : Operands) → and_then (number os) (λ n. to (At (by_sign n x y z)) s) ≡ finish u f s k (Sign x y z) os
  sign_is x y z (Item (Integer n) ∷ []) = refl
  sign_is x y z (Item (Logical b) ∷ []) = refl
  sign_is x y z (Item (Logical b) ∷ o ∷ os) = refl
  sign_is x y z _ = refl

  jump_is : (target : ℕ) (os : Operands) → and_then (nothing os) (λ _. to (At target) s) ≡ finish u f s k (Jump target) os
  jump_is target [] = refl
  jump_is target (o ∷ os) = refl

  choose_is : (targets : List ℕ) (os : Operands) → and_then (number os) (λ n. to_chosen (chosen targets n) (u.after k) s) ≡ finish u f s k (Choose targets) os
  choose_is targets (Item (Integer n) ∷ []) = refl
  choose_is targets (Item (Logical b) ∷ []) = refl
  choose_is targets (Item (Logical b) ∷ o ∷ os) = refl
  choose_is targets _ = refl

  count_is : (base : Base) (os : Operands) → and_then (three os) (λ m. begun f s k base m.0 m.1 m.2) ≡ finish u f s k (Count base) os
  count_is base (Item (Integer m3) ∷ Item (Integer m2) ∷ Item (Integer m1) ∷ []) = refl
  count_is base _ = refl

  next_is : (os : Operands) → and_then (nothing os) (λ _. to (u.after k) s) ≡ finish u f s k Next os
  next_is [] = refl
  next_is (o ∷ os) = refl

  leave_is : (os : Operands) → and_then (nothing os) (λ _. return f u.result) ≡ finish u f s k Leave os
  leave_is [] = refl
  leave_is (o ∷ os) = refl

  halt_is : (os : Operands) → and_then (nothing os) (λ _. Fail (Ended 0)) ≡ finish u f s k Halt os
  halt_is [] = refl
  halt_is (o ∷ os) = refl

  module _ (statements : List Stmt) (follows : Follows u statements) where
    below_too : (F : ℕ → Act (After Here)) → F (b.below statements k) ≡ F (u.below k)
    below_too F = ap F (sym (follows.below k))

    after_too : (F : g.Point → Act (After Here)) → F (g.after statements k) ≡ F (u.after k)
    after_too F = ap F (sym (follows.after k))

    pub store_path : (os : Operands) → and_then (assigned os) (λ p. and_then (store p.1 p.0) (λ _. to (g.after statements k) s)) ≡ finish u f s k Store os
    store_path os = after_too (λ q. and_then (assigned os) (λ p. and_then (store p.1 p.0) (λ _. to q s))) ∙ store_is os

    pub branch_path : (otherwise : ℕ) (os : Operands) → and_then (truth os) (λ c. to (At (if c then b.below statements k else otherwise)) s) ≡ finish u f s k (Branch otherwise) os
    branch_path otherwise os = below_too (λ j. and_then (truth os) (λ c. to (At (if c then j else otherwise)) s)) ∙ branch_is otherwise os

    pub guard_path : (os : Operands) → and_then (truth os) (λ c. to (if c then Inside k else g.after statements k) s) ≡ finish u f s k Guard os
    guard_path os = after_too (λ q. and_then (truth os) (λ c. to (if c then Inside k else q) s)) ∙ guard_is os

    pub sign_path : (x y z : ℕ) (os : Operands) → and_then (number os) (λ n. to (At (by_sign n x y z)) s) ≡ finish u f s k (Sign x y z) os
    sign_path = sign_is

    pub jump_path : (target : ℕ) (os : Operands) → and_then (nothing os) (λ _. to (At target) s) ≡ finish u f s k (Jump target) os
    jump_path = jump_is

    pub choose_path : (targets : List ℕ) (os : Operands) → and_then (number os) (λ n. to_chosen (chosen targets n) (g.after statements k) s) ≡ finish u f s k (Choose targets) os
    choose_path targets os = after_too (λ q. and_then (number os) (λ n. to_chosen (chosen targets n) q s)) ∙ choose_is targets os

    pub count_path : (base : Base) (os : Operands) → and_then (three os) (λ m. begun f s k base m.0 m.1 m.2) ≡ finish u f s k (Count base) os
    count_path = count_is

    pub next_path : (os : Operands) → and_then (nothing os) (λ _. to (g.after statements k) s) ≡ finish u f s k Next os
    next_path os = after_too (λ q. and_then (nothing os) (λ _. to q s)) ∙ next_is os

    pub leave_path : (result : Option (Ty × Base)) → u.result ≡ result → (os : Operands) → and_then (nothing os) (λ _. return f result) ≡ finish u f s k Leave os
    leave_path result e os = ap (λ r. and_then (nothing os) (λ _. return f r)) (sym e) ∙ leave_is os

    pub halt_path : (os : Operands) → and_then (nothing os) (λ _. Fail (Ended 0)) ≡ finish u f s k Halt os
    halt_path = halt_is

    pub write_path : (os : Operands) → and_then (say_record (flat_map said (operands_onto os []))) (λ _. to (g.after statements k) s) ≡ finish u f s k Write os
    write_path os = after_too (λ q. and_then (say_record (flat_map said (operands_onto os []))) (λ _. to q s))
