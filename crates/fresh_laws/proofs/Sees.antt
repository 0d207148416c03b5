-- Acts that read, and pass on, only cells in which two worlds agree, and what they leave of two such worlds.
use Rattle.std.proofs.Common.{◌≡◌, ℕ, zero, suc, List, [], ◌∷◌, ◌++◌, Option, Some, None, Bool, true, false, cond, not, ◌||◌, ℤ, refl, ap, subst}
use Rattle.run_model.specs.Storage.{Value, Loc, Interval, area_eq, loc_eq, put_cell}
use Rattle.run_model.specs.Acts.{World, Outcome, Fine, Stop, then_do, Act, Done, Get, Put, Say, Take, Ask, Fail, and_then, Answer, Handler, play, with_cell, with_input}
use Rattle.run_model.specs.Turns.{After, Again, Result, ticked, follow, turns, run_from}
use Rattle.fresh_laws.specs.Fresh.{is_fresh, is_passed, matters, Locations, Within, Agree, Alike}

-- this location too
abbrev pub also : Loc → Locations → Locations
also l P m = loc_eq l m || P m

or_right : (a b : Bool) → b ≡ true → (a || b) ≡ true
or_right true b e = refl
or_right false b e = e

or_left : (a b : Bool) → a ≡ true → (a || b) ≡ true
or_left true b e = refl
or_left false b e = let z : false ≡ true = e in cc

pub also_within : (l : Loc) (P : Locations) → Within P (also l P)
also_within l P m e = or_right (loc_eq l m) (P m) e

-- all locations of an area
abbrev pub Has : Locations → Interval → Type 0
Has P i = (l : Loc) → area_eq i.area l.area ≡ true → P l ≡ true

abbrev pub HasEach : Locations → List Interval → Type 0
HasEach P [] = Unit {0}
HasEach P (i ∷ is) = Has P i × HasEach P is

pub has_each_within : (P Q : Locations) → Within P Q → (is : List Interval) → HasEach P is → HasEach Q is
has_each_within P Q sub [] h = tt
has_each_within P Q sub (i ∷ is) h = ((λ l e. sub l (h.0 l e)), has_each_within P Q sub is h.1)

-- Whatever is read and answered, only what agrees is read and passed on, and what the acts end with has the property. A store adds its
-- location to what agrees.
abbrev pub Sees : {A : Type 0} → (Locations → A → Type 0) → Locations → Act A → Type 0
Sees Q P (Done a) = Q P a
Sees Q P (Get l k) = (P l ≡ true) × ((v : Value) → Sees Q P (k v))
Sees Q P (Put l v a) = Sees Q (also l P) a
Sees Q P (Say bs a) = Sees Q P a
Sees Q P (Take k) = (x : ℤ) → Sees Q P (k x)
Sees Q P (Ask s ds k) = HasEach P ds × ((r : Answer) → Sees Q P (k r))
Sees Q P (Fail r) = Unit {0}

pub bind : {A B : Type 0} → (Q : Locations → A → Type 0) (R : Locations → B → Type 0) (P : Locations) (a : Act A) (f : A → Act B) → Sees Q P a → ((P' : Locations) → Within P P' → (x : A) → Q P' x → Sees R P' (f x)) → Sees R P (and_then a f)
bind Q R P (Done x) f k g = g P (λ l e. e) x k
bind Q R P (Get l n) f k g = (k.0, λ v. bind Q R P (n v) f (k.1 v) g)
bind Q R P (Put l v a) f k g = bind Q R (also l P) a f k (λ P' sub. g P' (λ m e. sub m (also_within l P m e)))
bind Q R P (Say bs a) f k g = bind Q R P a f k g
bind Q R P (Take n) f k g = λ x. bind Q R P (n x) f (k x) g
bind Q R P (Ask s ds n) f k g = (k.0, λ r. bind Q R P (n r) f (k.1 r) g)
bind Q R P (Fail r) f k g = tt

-- nothing is asked of what they end with
abbrev pub Any : {A : Type 0} → Locations → A → Type 0
Any P a = Unit {0}

-- ---- outcomes

-- alike, with a property of the answer
abbrev pub With : {A : Type 0} → (A → Type 0) → Locations → Outcome A → Outcome A → Type 0
With R P (Fine x v) (Fine y w) = (x ≡ y) × Agree P v w × R x
With R P (Stop r v) (Stop s w) = (r ≡ s) × Agree P v w
With R P _ _ = ⊥

pub forget : {A : Type 0} → (R : A → Type 0) (P : Locations) (o o' : Outcome A) → With R P o o' → Alike P o o'
forget R P (Fine x v) (Fine y w) a = (a.0, a.1)
forget R P (Stop r v) (Stop s w) a = a
forget R P (Fine x v) (Stop s w) a = a
forget R P (Stop r v) (Fine y w) a = a

pub agree_within : (P Q : Locations) → Within P Q → (v w : World) → Agree Q v w → Agree P v w
agree_within P Q sub v w a = record { cells = λ l e. a.cells l (sub l e); out = a.out; input = a.input; left = a.left }

pub alike_then : {A B : Type 0} → (P Q : Locations) → Within P Q → (R : B → Type 0) (o o' : Outcome A) (f f' : A → World → Outcome B) → Alike Q o o' → ((x : A) (v w : World) → Agree Q v w → With R P (f x v) (f' x w)) → With R P (then_do o f) (then_do o' f')
alike_then P Q sub R (Fine x v) (Fine y w) f f' a g = subst (λ z. With R P (f x v) (f' z w)) a.0 (g x v w a.1)
alike_then P Q sub R (Stop r v) (Stop s w) f f' a g = (a.0, agree_within P Q sub v w a.1)
alike_then P Q sub R (Fine x v) (Stop s w) f f' a g = absurd a
alike_then P Q sub R (Stop r v) (Fine y w) f f' a g = absurd a

agree_put : (P : Locations) (l : Loc) (x : Value) (v w : World) → Agree P v w → Agree (also l P) (record v { cells = put_cell l x v.cells }) (record w { cells = put_cell l x w.cells })
agree_put P l x v w a = record { cells = λ m e. go m (loc_eq l m) e; out = a.out; input = a.input; left = a.left }
  where
    go : (m : Loc) (b : Bool) → (b || P m) ≡ true → cond b (Some x) (v.cells m) ≡ cond b (Some x) (w.cells m)
    go m true e = refl
    go m false e = a.cells m e

-- all cells but fresh ones agree
abbrev pub Firm : Locations → Type 0
Firm P = (l : Loc) → is_fresh l ≡ false → P l ≡ true

passed_within : (P : Locations) (is : List Interval) → HasEach P is → Within (is_passed is) P
passed_within P [] h l e = let z : false ≡ true = e in cc
passed_within P (i ∷ is) h l e = at (area_eq i.area l.area) refl e (passed_within P is h.1 l)
  where
    at : (b : Bool) → area_eq i.area l.area ≡ b → (b || is_passed is l) ≡ true → (is_passed is l ≡ true → P l ≡ true) → P l ≡ true
    at true t e ih = h.0 l t
    at false t e ih = ih e

pub matters_within : (P : Locations) → Firm P → (ds : List Interval) → HasEach P ds → Within (matters ds) P
matters_within P firm ds h l e = go (is_fresh l) refl e
  where
    go : (b : Bool) → is_fresh l ≡ b → (not b || is_passed ds l) ≡ true → P l ≡ true
    go false t e = firm l t
    go true t e = passed_within P ds h l e

module _ (h : Handler) (hs : (s : ℕ) (ds : List Interval) (P : Locations) → Within (matters ds) P → (v w : World) → Agree P v w → Alike P (h s ds v) (h s ds w)) where
  pub play_alike : {A : Type 0} → (R : A → Type 0) (Q : Locations → A → Type 0) (P0 P : Locations) → Within P0 P → Firm P → ((P' : Locations) (x : A) → Q P' x → R x) → (a : Act A) → Sees Q P a → (v w : World) → Agree P v w → With R P0 (play h a v) (play h a w)
  play_alike R Q P0 P sub firm so (Done x) k v w a = (refl, agree_within P0 P sub v w a, so P x k)
  play_alike {A = A} R Q P0 P sub firm so (Get l g) k v w a = subst (λ o. With R P0 (with_cell {A = A} (v.cells l) v (λ x. play h (g x) v)) (with_cell {A = A} o w (λ x. play h (g x) w))) (a.cells l k.0) (at_cell (v.cells l) (λ x. play_alike R Q P0 P sub firm so (g x) (k.1 x) v w a))
    where
      at_cell : (o : Option Value) → ((x : Value) → With R P0 (play h (g x) v) (play h (g x) w)) → With R P0 (with_cell {A = A} o v (λ x. play h (g x) v)) (with_cell {A = A} o w (λ x. play h (g x) w))
      at_cell None ih = (refl, agree_within P0 P sub v w a)
      at_cell (Some x) ih = ih x
  play_alike R Q P0 P sub firm so (Put l x b) k v w a = play_alike R Q P0 (also l P) (λ m e. also_within l P m (sub m e)) (λ m e. also_within l P m (firm m e)) so b k _ _ (agree_put P l x v w a)
  play_alike R Q P0 P sub firm so (Say bs b) k v w a = play_alike R Q P0 P sub firm so b k (record v { out = v.out ++ bs }) (record w { out = w.out ++ bs }) (record { cells = a.cells; out = ap (λ o. o ++ bs) a.out; input = a.input; left = a.left })
  play_alike {A = A} R Q P0 P sub firm so (Take g) k v w a = subst (λ i. With R P0 (with_input {A = A} v.input v (λ x v1. play h (g x) v1)) (with_input {A = A} i w (λ x w1. play h (g x) w1))) a.input (at_input v.input (λ x xs. play_alike R Q P0 P sub firm so (g x) (k x) (record v { input = xs }) (record w { input = xs }) (record { cells = a.cells; out = a.out; input = refl; left = a.left })))
    where
      at_input : (xs : List ℤ) → ((x : ℤ) (xs : List ℤ) → With R P0 (play h (g x) (record v { input = xs })) (play h (g x) (record w { input = xs }))) → With R P0 (with_input {A = A} xs v (λ x v1. play h (g x) v1)) (with_input {A = A} xs w (λ x w1. play h (g x) w1))
      at_input [] ih = (refl, agree_within P0 P sub v w a)
      at_input (x ∷ xs) ih = ih x xs
  play_alike R Q P0 P sub firm so (Ask s ds g) k v w a = alike_then P0 P sub R (h s ds v) (h s ds w) (λ r v1. play h (g r) v1) (λ r w1. play h (g r) w1) (hs s ds P (matters_within P firm ds k.0) v w a) (λ r v1 w1 b. play_alike R Q P0 P sub firm so (g r) (k.1 r) v1 w1 b)
  play_alike R Q P0 P sub firm so (Fail r) k v w a = (refl, agree_within P0 P sub v w a)

  module _ (P : Locations) (firm : Firm P) where
    pub turns_alike : {S : Type 0} → (t : S → Act (After S)) → ((s : S) → Sees Any P (t s)) → (n : ℕ) (s : S) (v w : World) → Agree P v w → With (λ r. Unit {0}) P (turns h t n s v) (turns h t n s w)
    turns_alike t k zero s v w a = (refl, a)
    turns_alike {S = S} t k (suc n) s v w a = subst (λ i. With (λ r. Unit {0}) P (ticked v.left v go) (ticked i w go)) a.left (at_tick v.left (turns_alike t k n))
      where
        go : World → Outcome Answer
        go w1 = then_do (play h (t s) w1) (λ b w2. follow b w2 (turns h t n))

        at_tick : (m : ℕ) → ((s : S) (v w : World) → Agree P v w → With (λ r. Unit {0}) P (turns h t n s v) (turns h t n s w)) → With (λ r. Unit {0}) P (ticked m v go) (ticked m w go)
        at_tick zero ih = (refl, a)
        at_tick (suc m) ih = alike_then P P (λ l e. e) (λ r. Unit {0}) (play h (t s) (record v { left = m })) (play h (t s) (record w { left = m })) (λ b w2. follow b w2 (turns h t n)) (λ b w2. follow b w2 (turns h t n))
            (forget (λ b. Unit {0}) P (play h (t s) (record v { left = m })) (play h (t s) (record w { left = m })) (play_alike (λ b. Unit {0}) Any P P (λ l e. e) firm (λ P' x q. tt) (t s) (k s) (record v { left = m }) (record w { left = m }) (record { cells = a.cells; out = a.out; input = a.input; left = refl })))
            next
          where
            next : (b : After S) (v w : World) → Agree P v w → With (λ r. Unit {0}) P (follow b v (turns h t n)) (follow b w (turns h t n))
            next (Again s) v w b = ih s v w b
            next (Result r) v w b = (refl, b, tt)

    pub from_alike : {S : Type 0} → (t : S → Act (After S)) → ((s : S) → Sees Any P (t s)) → (s : S) (v w : World) → Agree P v w → With (λ r. Unit {0}) P (run_from h t s v) (run_from h t s w)
    from_alike t k s v w a = subst (λ n. With (λ r. Unit {0}) P (turns h t (suc v.left) s v) (turns h t (suc n) s w)) a.left (turns_alike t k (suc v.left) s v w a)
