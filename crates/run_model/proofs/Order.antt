-- One act after another is played where the first left off.
use Rattle.std.proofs.Common.{◌≡◌, List, [], ◌∷◌, Option, Some, None, ℤ, refl}
use Rattle.run_model.specs.Storage.{Value}
use Rattle.run_model.specs.Acts.{World, Outcome, Fine, Stop, then_do, Act, Done, Get, Put, Say, Take, Ask, Fail, and_then, Answer, Handler, play, with_cell, with_input}

pub play-and_then : {A B : Type 0} → (h : Handler) (a : Act A) (f : A → Act B) (w : World) → play h (and_then a f) w ≡ then_do (play h a w) (λ x v. play h (f x) v)
play-and_then h (Done a) f w = refl
play-and_then {A = A} {B = B} h (Get l g) f w = at_cell (w.cells l) (λ v. play-and_then h (g v) f w)
  where
    at_cell : (o : Option Value) → ((v : Value) → play h (and_then (g v) f) w ≡ then_do (play h (g v) w) (λ x v. play h (f x) v)) → with_cell {A = B} o w (λ v. play h (and_then (g v) f) w) ≡ then_do (with_cell {A = A} o w (λ v. play h (g v) w)) (λ x v. play h (f x) v)
    at_cell None ih = refl
    at_cell (Some v) ih = ih v
play-and_then h (Put l v a) f w = play-and_then h a f _
play-and_then h (Say v a) f w = play-and_then h a f _
play-and_then {A = A} {B = B} h (Take g) f w = at_input w.input (λ x xs. play-and_then h (g x) f (record w { input = xs }))
  where
    at_input : (xs : List ℤ) → ((x : ℤ) (xs : List ℤ) → play h (and_then (g x) f) (record w { input = xs }) ≡ then_do (play h (g x) (record w { input = xs })) (λ x v. play h (f x) v)) → with_input {A = B} xs w (λ x w1. play h (and_then (g x) f) w1) ≡ then_do (with_input {A = A} xs w (λ x w1. play h (g x) w1)) (λ x v. play h (f x) v)
    at_input [] ih = refl
    at_input (x ∷ xs) ih = ih x xs
play-and_then {A = A} {B = B} h (Ask s ds g) f w = at_answer (h s ds w) (λ x v. play-and_then h (g x) f v)
  where
    at_answer : (o : Outcome Answer) → ((x : Answer) (v : World) → play h (and_then (g x) f) v ≡ then_do (play h (g x) v) (λ x v. play h (f x) v)) → then_do {A = Answer} {B = B} o (λ x v. play h (and_then (g x) f) v) ≡ then_do (then_do {A = Answer} {B = A} o (λ x v. play h (g x) v)) (λ x v. play h (f x) v)
    at_answer (Fine x v) ih = ih x v
    at_answer (Stop e v) ih = refl
play-and_then h (Fail e) f w = refl
