-- One act after another makes the calls of the first and then those of the next.
use Rattle.std.proofs.Common.{◌≡◌, List, [], ◌∷◌, Option, Some, None, ℤ, refl, ap}
use Rattle.run_model.specs.Storage.{Value}
use Rattle.run_model.specs.Acts.{World, Outcome, Fine, Stop, Act, Done, Get, Put, Say, Take, Ask, Fail, and_then, Answer, Handler}
use Rattle.run_calls.specs.Calls.{Call, calls_then, calls_cell, calls_input, calls}

pub calls-and_then : {A B : Type 0} → (h : Handler) (a : Act A) (f : A → Act B) (w : World) (go : B → World → List Call) → calls h (and_then a f) w go ≡ calls h a w (λ x v. calls h (f x) v go)
calls-and_then h (Done a) f w go = refl
calls-and_then h (Get l g) f w go = at_cell (w.cells l) (λ v. calls-and_then h (g v) f w go)
  where
    at_cell : (o : Option Value) → ((v : Value) → calls h (and_then (g v) f) w go ≡ calls h (g v) w (λ x v. calls h (f x) v go)) → calls_cell o (λ v. calls h (and_then (g v) f) w go) ≡ calls_cell o (λ v. calls h (g v) w (λ x v. calls h (f x) v go))
    at_cell None ih = refl
    at_cell (Some v) ih = ih v
calls-and_then h (Put l v a) f w go = calls-and_then h a f _ go
calls-and_then h (Say bs a) f w go = calls-and_then h a f _ go
calls-and_then h (Take g) f w go = at_input w.input (λ x xs. calls-and_then h (g x) f (record w { input = xs }) go)
  where
    at_input : (xs : List ℤ) → ((x : ℤ) (xs : List ℤ) → calls h (and_then (g x) f) (record w { input = xs }) go ≡ calls h (g x) (record w { input = xs }) (λ x v. calls h (f x) v go)) → calls_input xs w (λ x w1. calls h (and_then (g x) f) w1 go) ≡ calls_input xs w (λ x w1. calls h (g x) w1 (λ x v. calls h (f x) v go))
    at_input [] ih = refl
    at_input (x ∷ xs) ih = ih x xs
calls-and_then h (Ask s ds g) f w go = ap (λ cs. record { site = s; actuals = ds; world = w } ∷ cs) (at_answer (h s ds w) (λ x v. calls-and_then h (g x) f v go))
  where
    at_answer : (o : Outcome Answer) → ((x : Answer) (v : World) → calls h (and_then (g x) f) v go ≡ calls h (g x) v (λ x v. calls h (f x) v go)) → calls_then o (λ x v. calls h (and_then (g x) f) v go) ≡ calls_then o (λ x v. calls h (g x) v (λ x v. calls h (f x) v go))
    at_answer (Fine x v) ih = ih x v
    at_answer (Stop e v) ih = refl
calls-and_then h (Fail e) f w go = refl
