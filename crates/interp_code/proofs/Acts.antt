-- Acts one after another.
use Rattle.std.proofs.Common.{◌≡◌, ap, refl}
use Rattle.run_model.specs.Acts.{Act, Done, Get, Put, Say, Take, Ask, Fail, and_then}

pub assoc : {A B C : Type 0} → (a : Act A) (f : A → Act B) (g : B → Act C) → and_then (and_then a f) g ≡ and_then a (λ x. and_then (f x) g)
assoc (Done x) f g = refl
assoc (Get l k) f g = λ i. Get l (λ v. assoc (k v) f g i)
assoc (Put l v a) f g = λ i. Put l v (assoc a f g i)
assoc (Say bs a) f g = λ i. Say bs (assoc a f g i)
assoc (Take k) f g = λ i. Take (λ x. assoc (k x) f g i)
assoc (Ask s ds k) f g = λ i. Ask s ds (λ r. assoc (k r) f g i)
assoc (Fail r) f g = refl

-- what follows is the same
pub later : {A B : Type 0} → (a : Act A) (f g : A → Act B) → ((x : A) → f x ≡ g x) → and_then a f ≡ and_then a g
later a f g h = λ i. and_then a (λ x. h x i)
