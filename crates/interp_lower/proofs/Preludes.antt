-- The steps of statements.
use Rattle.std.proofs.Common.{◌≡◌, ℕ, suc, ◌+◌, List, [], ◌∷◌, ◌++◌, Option, Some, None, refl, sym, ap, ◌∙◌, append_assoc}
use Rattle.f77_tree.specs.declared.expr.Expr.{Expr}
use Rattle.f77_values.specs.Tables.{Name}
use Rattle.f77_semantics.specs.Program.{If, Assign, LogicalIf, ArithmeticIf, ComputedGoTo, Do, Call, Print, Read, Statement}
use Rattle.f77_semantics.specs.declared.storage.Base.{Base}
use Rattle.interp_code.specs.declared.step.Step.{Step}
use Rattle.interp_code.specs.declared.step.Step.TheVariants.{Number, Open, Perform}
use Rattle.f77_semantics.specs.Terms.{Meant}
use Rattle.f77_semantics.specs.Resolve.{term, terms, sites, optional}
use Rattle.interp_code.specs.Code.{code}
use Rattle.interp_code.specs.Endings.{prelude, number_code, step_code}
use Rattle.interp_lower.specs.Pieces.{site_count, value_steps, target_steps, actuals_steps, items_steps, targets_steps, step_steps, loop_steps}
use Rattle.interp_data.proofs.Lists.{joined}
use Rattle.interp_lower.proofs.Behind.{code-append, aim-append, passes-append}

module _ (m : Name → Meant) where
  pub counted : (e : Expr) → site_count m e ≡ sites m e
  unfolding site_count
  counted e = refl

  pub prelude-Assign : (t e : Expr) (s : ℕ) → prelude (Assign (term m t s) (term m e (s + sites m t))) ≡ target_steps m t s ++ value_steps m e (s + site_count m t)
  unfolding target_steps value_steps site_count
  prelude-Assign t e s = aim-append (term m t s) [] (code (term m e (s + sites m t)) [])

  pub prelude-If : (e : Expr) (s otherwise : ℕ) → prelude (If (term m e s) otherwise) ≡ value_steps m e s
  unfolding value_steps
  prelude-If e s otherwise = refl

  pub prelude-LogicalIf : (e : Expr) (s : ℕ) (inner : Statement) → prelude (LogicalIf (term m e s) inner) ≡ value_steps m e s
  unfolding value_steps
  prelude-LogicalIf e s inner = refl

  numbered : (e : Expr) (s : ℕ) (cs : List Step) → number_code (term m e s) cs ≡ value_steps m e s ++ Number ∷ cs
  unfolding value_steps
  numbered e s cs = code-append (term m e s) [] (Number ∷ cs)

  pub prelude-ArithmeticIf : (e : Expr) (s a b c : ℕ) → prelude (ArithmeticIf (term m e s) a b c) ≡ value_steps m e s ++ Number ∷ []
  prelude-ArithmeticIf e s a b c = numbered e s []

  pub prelude-ComputedGoTo : (ways : List ℕ) (e : Expr) (s : ℕ) → prelude (ComputedGoTo ways (term m e s)) ≡ value_steps m e s ++ Number ∷ []
  prelude-ComputedGoTo ways e s = numbered e s []

  stepped : (e : Option Expr) (s : ℕ) → step_code (optional m e s) ≡ step_steps m e s
  stepped None s = refl
  stepped (Some e) s = numbered e s []

  pub prelude-Do : (b : Base) (first last : Expr) (step : Option Expr) (s : ℕ)
      → prelude (Do b (term m first s) (term m last (s + sites m first)) (optional m step (s + (sites m first + sites m last)))) ≡ loop_steps m first last step s
  unfolding site_count
  prelude-Do b first last step s =
      let steps : List Step = step_steps m step (s + (sites m first + sites m last)) in
      let behind : List Step = value_steps m last (s + sites m first) ++ Number ∷ steps in
      numbered first s (number_code (term m last (s + sites m first)) (step_code (optional m step (s + (sites m first + sites m last)))))
      ∙ (ap (λ cs. value_steps m first s ++ Number ∷ cs) (numbered last (s + sites m first) (step_code (optional m step (s + (sites m first + sites m last))))
      ∙ ap (λ cs. value_steps m last (s + sites m first) ++ Number ∷ cs) (stepped step (s + (sites m first + sites m last))))
      ∙ (sym (append_assoc (value_steps m first s) (Number ∷ []) behind)
      ∙ ap (λ cs. (value_steps m first s ++ Number ∷ []) ++ cs) (sym (append_assoc (value_steps m last (s + sites m first)) (Number ∷ []) steps))))

  pub prelude-Call : (s : ℕ) (es : List Expr) → prelude (Call s (terms m es (suc s))) ≡ Open ∷ (actuals_steps m s 0 es (suc s) ++ Perform s ∷ [])
  unfolding actuals_steps
  prelude-Call s es = ap (λ cs. Open ∷ cs) (passes-append s 0 (terms m es (suc s)) [] (Perform s ∷ []))

  pub prelude-Print : (es : List Expr) (s : ℕ) → prelude (Print (terms m es s)) ≡ items_steps m es s
  unfolding items_steps
  prelude-Print es s = refl

  pub prelude-Read : (es : List Expr) (s : ℕ) → prelude (Read (terms m es s)) ≡ targets_steps m es s
  unfolding targets_steps
  prelude-Read es s = refl

pub ruleset preludes = (joined, prelude-Assign, prelude-If, prelude-LogicalIf, prelude-ArithmeticIf, prelude-ComputedGoTo, prelude-Do, prelude-Call, prelude-Print, prelude-Read)
