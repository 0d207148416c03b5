-- Laws of runs that end alike.
use Rattle.std.proofs.Common.{◌≡◌, refl, sym, ap, ◌∙◌, subst}
use Rattle.run_model.specs.Acts.{World, Reason, Spent, Ended, Undefined, Stuck, Outcome, Fine, Stop, then_do}
use Rattle.run_calls.specs.Same.{LooksLike, StopsAlike, SameRun, IfDefined}

pub looks_itself : (v : World) → LooksLike v v
looks_itself v = record { out = refl; input = refl; left = refl }

pub stops_itself : {A : Type 0} → (r : Reason) (v : World) → StopsAlike {A = A} r v (Stop r v)
stops_itself r v = record { world = v; is = refl; alike = looks_itself v }

pub same_self : {A : Type 0} → (o : Outcome A) → SameRun o o
same_self (Fine x v) = refl
same_self (Stop Spent v) = stops_itself Spent v
same_self (Stop (Ended k) v) = stops_itself (Ended k) v
same_self (Stop (Undefined c) v) = tt
same_self (Stop Stuck v) = tt

stops_trans : {A : Type 0} → (r : Reason) (v : World) (b c : Outcome A) → StopsAlike r v b → ((v' : World) → b ≡ Stop r v' → StopsAlike r v' c) → StopsAlike r v c
stops_trans r v b c p f =
    let q = f p.world p.is in
    record {
      world = q.world;
      is = q.is;
      alike = record { out = p.alike.out ∙ q.alike.out; input = p.alike.input ∙ q.alike.input; left = p.alike.left ∙ q.alike.left };
    }

pub same_trans : {A : Type 0} → (a b c : Outcome A) → SameRun a b → SameRun b c → SameRun a c
same_trans (Fine x v) b c p q = subst (λ o. SameRun o c) p q
same_trans (Stop Spent v) b c p q = stops_trans Spent v b c p (λ v' e. subst (λ o. SameRun o c) e q)
same_trans (Stop (Ended k) v) b c p q = stops_trans (Ended k) v b c p (λ v' e. subst (λ o. SameRun o c) e q)
same_trans (Stop (Undefined u) v) b c p q = tt
same_trans (Stop Stuck v) b c p q = tt

-- what stops alike stops alike with more to do behind it
pub stops_then : {A B : Type 0} → (r : Reason) (v : World) (o : Outcome A) (f : A → World → Outcome B) → StopsAlike r v o → StopsAlike r v (then_do o f)
stops_then r v o f p = record { world = p.world; is = ap (λ o. then_do o f) p.is; alike = p.alike }

-- runs that go on alike where the first returned end alike
pub same_then : {A B : Type 0} → (o p : Outcome A) (f g : A → World → Outcome B) → SameRun o p → ((x : A) (v : World) → o ≡ Fine x v → SameRun (f x v) (g x v)) → SameRun (then_do o f) (then_do p g)
same_then (Fine x v) p f g s k = subst (λ p. SameRun (f x v) (then_do p g)) (sym s) (k x v refl)
same_then (Stop Spent v) p f g s k = stops_then Spent v p g s
same_then (Stop (Ended e) v) p f g s k = stops_then (Ended e) v p g s
same_then (Stop (Undefined c) v) p f g s k = tt
same_then (Stop Stuck v) p f g s k = tt

-- where the first run is undefined nothing is owed
pub if_defined : {A : Type 0} → (o p : Outcome A) (P : Type 0) → IfDefined o P → (P → SameRun o p) → SameRun o p
if_defined (Fine x v) p P d f = f d
if_defined (Stop Spent v) p P d f = f d
if_defined (Stop (Ended k) v) p P d f = f d
if_defined (Stop (Undefined c) v) p P d f = tt
if_defined (Stop Stuck v) p P d f = tt

pub if_map : {A : Type 0} → (o : Outcome A) (P Q : Type 0) → (P → Q) → IfDefined o P → IfDefined o Q
if_map (Fine x v) P Q f d = f d
if_map (Stop Spent v) P Q f d = f d
if_map (Stop (Ended k) v) P Q f d = f d
if_map (Stop (Undefined c) v) P Q f d = tt
if_map (Stop Stuck v) P Q f d = tt

-- what holds where the second of two like runs is defined holds where the first is
pub with_second : {A : Type 0} → (o p : Outcome A) (P Q R : Type 0) → SameRun o p → IfDefined o P → (P → IfDefined p Q) → (P → Q → R) → IfDefined o R
with_second (Fine x v) p P Q R s d f g = g d (subst (λ o. IfDefined o Q) s (f d))
with_second (Stop Spent v) p P Q R s d f g = g d (subst (λ o. IfDefined o Q) s.is (f d))
with_second (Stop (Ended k) v) p P Q R s d f g = g d (subst (λ o. IfDefined o Q) s.is (f d))
with_second (Stop (Undefined c) v) p P Q R s d f g = tt
with_second (Stop Stuck v) p P Q R s d f g = tt

pub if_holds : {A : Type 0} → (o : Outcome A) (P : Type 0) → P → IfDefined o P
if_holds (Fine x v) P p = p
if_holds (Stop Spent v) P p = p
if_holds (Stop (Ended k) v) P p = p
if_holds (Stop (Undefined c) v) P p = tt
if_holds (Stop Stuck v) P p = tt
