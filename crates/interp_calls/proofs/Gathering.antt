-- Results put behind others, one by one.
use Rattle.std.proofs.Common.{◌≡◌, List, [], ◌∷◌, ◌++◌, append-nil, append_assoc, refl, ap, sym, ◌∙◌, subst, Result}
use Rattle.run_model.specs.Acts.{Act, Done, Get, Put, Say, Take, Ask, Fail, and_then}
use Rattle.interp_code.proofs.Acts.{assoc}
use Rattle.interp_calls.specs.Gathering.{before, behind}
use Rattle.interp_steps.specs.declared.stop.Stop.{Stop}
use Rattle.interp_steps.specs.Stops.{Gives, Stopped}
use Rattle.interp_steps.proofs.Plays.{weaker}

pub same : {A : Type 0} → (a : Act A) → and_then a (λ x. Done x) ≡ a
same (Done x) = refl
same (Get l k) = λ i. Get l (λ v. same (k v) i)
same (Put l v a) = λ i. Put l v (same a i)
same (Say bs a) = λ i. Say bs (same a i)
same (Take k) = λ i. Take (λ x. same (k x) i)
same (Ask s ds k) = λ i. Ask s ds (λ r. same (k r) i)
same (Fail r) = refl

pub nothing_behind : {A : Type 0} → (all : List A) → behind all (Done []) ≡ Done all
nothing_behind all = ap (λ xs. Done xs) (append-nil all)

moved_on : {A : Type 0} → (all : List A) (x : A) (others : Act (List A)) → behind (all ++ x ∷ []) others ≡ behind all (before (Done x) others)
moved_on all x others = simp (assoc, append_assoc)

pub one_more : {T A : Type 0} → (r : Result T Stop) (new all all' : List A) (x : A) (first : Act A) (others : Act (List A)) → first ≡ Done x → all' ≡ all ++ x ∷ []
    → Gives r (λ _. new) (behind all' others) → Gives r (λ _. new) (behind all (before first others))
one_more {A = A} r new all all' x first others e more g =
    let path : behind all' others ≡ behind all (before first others) =
    ap (λ (l : List A). behind l others) more ∙ (moved_on all x others ∙ ap (λ (a : Act A). behind all (before a others)) (sym e)) in
    subst (λ (act : Act (List A)). Gives r (λ _. new) act) path g

pub no_more : {A : Type 0} → (all : List A) (first : Act A) (others : Act (List A)) (stop : Stop) → Stopped stop (λ reason. first ≡ Fail reason) → Stopped stop (λ reason. behind all (before first others) ≡ Fail reason)
no_more {A = A} all first others stop s = weaker stop (λ reason. first ≡ Fail reason) (λ reason. behind all (before first others) ≡ Fail reason) (λ reason e. ap (λ (a : Act A). behind all (before a others)) e) s

module _ {A : Type 0} (others : Act (List A)) (l : List A) (none : l ≡ []) where
  all_path : behind l others ≡ others
  all_path = ap (λ (l : List A). behind l others) none ∙ same others

  pub all_of : (new : List A) → behind l others ≡ Done new → others ≡ Done new
  all_of new e = sym all_path ∙ e

  pub none_of : (e : Stop) → Stopped e (λ r. behind l others ≡ Fail r) → Stopped e (λ r. others ≡ Fail r)
  none_of e h = subst (λ (act : Act (List A)). Stopped e (λ r. act ≡ Fail r)) all_path h
