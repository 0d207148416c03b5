-- What is played after an act that ended, or not at all.
use Rattle.std.proofs.Common.{◌≡◌, ◌∷◌, ap, sym, ◌∙◌, subst, Result, Ok, Err}
use Rattle.run_model.specs.Acts as acts
use Rattle.run_model.specs.Acts.{World, Reason, Fine, then_do, Act, Done, Fail, and_then, Handler, play}
use Rattle.run_model.proofs.Order.{play-and_then}
use Rattle.f77_tree.specs.declared.unit.Value.{Value}
use Rattle.interp_code.specs.Steps.{Operands, Item, push_item}
use Rattle.interp_steps.specs.declared.stop.Stop.{Stop}
use Rattle.interp_steps.specs.declared.stop.Stop.TheVariants.{Spent, Ended, Undefined, Stuck, OutOfMemory}
use Rattle.interp_steps.specs.Stops.{Stopped, Gives, Ends}

module _ {A B : Type 0} (h : Handler) (a : Act A) (f : A → Act B) (w v : World) where
  pub goes_on : (x : A) → play h a w ≡ Fine x v → play h (and_then a f) w ≡ play h (f x) v
  goes_on x e = play-and_then h a f w ∙ ap (λ o. then_do o (λ y u. play h (f y) u)) e

  pub stops : (r : Reason) → play h a w ≡ acts.Stop r v → play h (and_then a f) w ≡ acts.Stop r v
  stops r e = play-and_then h a f w ∙ ap (λ o. then_do o (λ y u. play h (f y) u)) e

pub weaker : (e : Stop) (P Q : Reason → Type 0) → ((r : Reason) → P r → Q r) → Stopped e P → Stopped e Q
weaker Spent P Q f p = f _ p
weaker (Ended k) P Q f p = f _ p
weaker (Undefined k) P Q f p = f _ p
weaker Stuck P Q f p = f _ p
weaker OutOfMemory P Q f p = tt

module _ (h : Handler) (act : Act Value) (s : Operands) (w v : World) (r : Result Value Stop) (end : Ends r (λ x. x) v (play h act w)) where
  -- a value is put on the stack
  pub pushed_on : (x : Value) (t : Operands) → r ≡ Ok x → t ≡ Item x ∷ s → play h (and_then act (push_item s)) w ≡ Fine t v
  pushed_on x t e p =
      goes_on h act (push_item s) w v x (subst (λ (r : Result Value Stop). Ends r (λ x. x) v (play h act w)) e end) ∙ ap (λ (u : Operands). Fine u v) (sym p)

  -- nothing is put where the run stops
  pub stopped_on : (stop : Stop) → r ≡ Err stop → Stopped stop (λ reason. play h (and_then act (push_item s)) w ≡ acts.Stop reason v)
  stopped_on stop e =
      weaker stop (λ reason. play h act w ≡ acts.Stop reason v) (λ reason. play h (and_then act (push_item s)) w ≡ acts.Stop reason v) (stops h act (push_item s) w v)
      (subst (λ (r : Result Value Stop). Ends r (λ x. x) v (play h act w)) e end)

-- acts that leave the world alone, played
pub moved : {T A : Type 0} → (r : Result T Stop) (view : T → A) (act : Act A) → Gives r view act → (h : Handler) (w : World) → Ends r view w (play h act w)
moved (Ok x) view act e h w = ap (λ a. play h a w) e
moved (Err stop) view act s h w = weaker stop (λ reason. act ≡ Fail reason) (λ reason. play h act w ≡ acts.Stop reason w) (λ reason e. ap (λ a. play h a w) e) s

module _ {A B : Type 0} (h : Handler) (act : Act A) (f : A → Act B) (w : World) where
  -- what is played after an act that is done without a look at the world, or not at all
  pub done_goes : {T : Type 0} (r : Result T Stop) (view : T → B) (v : World) (x : A) → act ≡ Done x → Ends r view v (play h (f x) w) → Ends r view v (play h (and_then act f) w)
  done_goes r view v x e end = subst (λ (a : Act A). Ends r view v (play h (and_then a f) w)) (sym e) end

  pub fails : (stop : Stop) → Stopped stop (λ reason. act ≡ Fail reason) → Stopped stop (λ reason. play h (and_then act f) w ≡ acts.Stop reason w)
  fails stop s = weaker stop (λ reason. act ≡ Fail reason) (λ reason. play h (and_then act f) w ≡ acts.Stop reason w) (λ reason e. ap (λ a. play h (and_then a f) w) e) s

  -- what is played after an act that was played
  pub ends_goes : {T : Type 0} (r : Result T Stop) (view : T → B) (w1 v : World) (x : A) → play h act w ≡ Fine x w1 → Ends r view v (play h (f x) w1) → Ends r view v (play h (and_then act f) w)
  ends_goes r view w1 v x e end = subst (λ (o : acts.Outcome B). Ends r view v o) (sym (goes_on h act f w w1 x e)) end

  pub ends_stops : (stop : Stop) (w1 : World) → Stopped stop (λ reason. play h act w ≡ acts.Stop reason w1) → Stopped stop (λ reason. play h (and_then act f) w ≡ acts.Stop reason w1)
  ends_stops stop w1 s = weaker stop (λ reason. play h act w ≡ acts.Stop reason w1) (λ reason. play h (and_then act f) w ≡ acts.Stop reason w1) (stops h act f w w1) s
