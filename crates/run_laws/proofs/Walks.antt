-- A unit's run goes along the graph of its statements: turn by turn, and so from statement to statement.
use Rattle.std.proofs.Common.{◌≡◌, ℕ, zero, suc, List, [], ◌∷◌, Option, Some, None, ℤ, refl, sym, subst, ap, ◌∙◌, slice_get}
use Rattle.run_model.specs.Storage.{Value}
use Rattle.run_model.specs.Acts.{World, Outcome, Fine, Stop, then_do, Act, Done, Get, Put, Say, Take, Ask, Fail, Handler, play, with_cell, with_input}
use Rattle.run_model.specs.Turns.{After, Again, Result}
use Rattle.f77_tree.specs.declared.unit.Stmt.{Stmt}
use Rattle.f77_tree.specs.declared.unit.Unit.{Unit as SourceUnit}
use Rattle.f77_flow.specs.Blocks.{first}
use Rattle.f77_flow.specs.Graph.{Point, At, Inside, Test, Advance, follow}
use Rattle.f77_flow.specs.Next.{MayFollow, Leads, begins, goes}
use Rattle.f77_flow.specs.Checks.{PassedChecks}
use Rattle.f77_semantics.specs.Expressions.{Frame}
use Rattle.f77_semantics.specs.Statements.{Here, turn}
use Rattle.f77_semantics.specs.Units.{entry, entered, cleared, beginning}
use Rattle.f77_semantics.specs.Goes.{Gives, IsOne, GoesTo, IsPlace, GoesToPlaces, HasRange}
use Rattle.f77_semantics.specs.Source.{routine}
use Rattle.f77_semantics.proofs.Goes.{goes as turn_goes}
use Rattle.f77_semantics.proofs.Places.{stays}
use Rattle.run_laws.specs.Walks.{way_ticked, way_behind, way_from, way_entered, begun, IsAlongTheGraph, RunsFollowTheGraph}

-- what an act that was played to its end gives
abbrev Came : {A : Type 0} → (A → Type 0) → Outcome A → Type 0
Came Q (Fine x w) = Q x
Came Q (Stop r w) = Unit {0}

came_then : {A B : Type 0} → (Q : B → Type 0) (o : Outcome A) (f : A → World → Outcome B) → ((x : A) (v : World) → Came Q (f x v)) → Came Q (then_do o f)
came_then Q (Fine x v) f g = g x v
came_then Q (Stop r v) f g = tt

play_gives : {A : Type 0} → (h : Handler) (Q : A → Type 0) (a : Act A) (w : World) → Gives Q a → Came Q (play h a w)
play_gives h Q (Done x) w g = g
play_gives {A = A} h Q (Get l k) w g = at_cell (w.cells l) (λ v. play_gives h Q (k v) w (g v))
  where
    at_cell : (o : Option Value) → ((v : Value) → Came Q (play h (k v) w)) → Came Q (with_cell {A = A} o w (λ v. play h (k v) w))
    at_cell None ih = tt
    at_cell (Some v) ih = ih v
play_gives h Q (Put l v a) w g = play_gives h Q a _ g
play_gives h Q (Say bs a) w g = play_gives h Q a _ g
play_gives {A = A} h Q (Take k) w g = at_input w.input (λ x xs. play_gives h Q (k x) (record w { input = xs }) (g x))
  where
    at_input : (xs : List ℤ) → ((x : ℤ) (xs : List ℤ) → Came Q (play h (k x) (record w { input = xs }))) → Came Q (with_input {A = A} xs w (λ x w1. play h (k x) w1))
    at_input [] ih = tt
    at_input (x ∷ xs) ih = ih x xs
play_gives h Q (Ask s ds k) w g = came_then Q (h s ds w) (λ r w1. play h (k r) w1) (λ r v. play_gives h Q (k r) v (g r))
play_gives h Q (Fail r) w g = tt

-- ---- chains of points

module _ (u : List Stmt) where
  -- the points behind p, one after another
  abbrev Chain : Point → List Point → Type 0
  Chain p [] = Unit {0}
  Chain p (q ∷ ps) = IsOne (follow u p) q × Chain q ps

  chain_goes : (p : Point) (ps : List Point) → Chain p ps → (k : ℕ) (a b : Point) → slice_get (p ∷ ps) k ≡ Some a → slice_get (p ∷ ps) (suc k) ≡ Some b → IsOne (follow u a) b
  chain_goes p [] c zero a b e f = let z : None ≡ Some b = f in cc
  chain_goes p [] c (suc k) a b e f = let z : None ≡ Some b = f in cc
  chain_goes p (q ∷ ps) c zero a b e f =
      let x : p ≡ a = cc in
      let y : q ≡ b = cc in
      subst (λ i. IsOne (follow u i) b) x (subst (IsOne (follow u p)) y c.0)
  chain_goes p (q ∷ ps) c (suc k) a b e f = chain_goes q ps c.1 k a b e f

  -- from a point a chain comes to the first statement that begins
  leads : (p : Point) (ps : List Point) → Chain p ps → (j : ℕ) → slice_get (begun (p ∷ ps)) 0 ≡ Some j → Leads u j p
  leads (At k) ps c j e = let x : k ≡ j = cc in begins (ap At x)
  leads (Inside k) [] c j e = let z : None ≡ Some j = e in cc
  leads (Inside k) (q ∷ ps) c j e = goes c.0.way tt c.0.is (leads q ps c.1 j e)
  leads (Test k) [] c j e = let z : None ≡ Some j = e in cc
  leads (Test k) (q ∷ ps) c j e = goes c.0.way tt c.0.is (leads q ps c.1 j e)
  leads (Advance k) [] c j e = let z : None ≡ Some j = e in cc
  leads (Advance k) (q ∷ ps) c j e = goes c.0.way tt c.0.is (leads q ps c.1 j e)

  statements : (p : Point) (ps : List Point) → Chain p ps → (k i j : ℕ) → slice_get (begun (p ∷ ps)) k ≡ Some i → slice_get (begun (p ∷ ps)) (suc k) ≡ Some j → MayFollow u i j
  statements (At k) [] c n i j e f = let z : None ≡ Some j = f in cc
  statements (At k) (q ∷ ps) c zero i j e f =
      let x : k ≡ i = cc in
      subst (λ n. MayFollow u n j) x (record { point = q; way = c.0.way; follows = c.0.is; leads = leads q ps c.1 j f })
  statements (At k) (q ∷ ps) c (suc n) i j e f = statements q ps c.1 n i j e f
  statements (Inside k) [] c n i j e f = let z : None ≡ Some j = f in cc
  statements (Inside k) (q ∷ ps) c n i j e f = statements q ps c.1 n i j e f
  statements (Test k) [] c n i j e f = let z : None ≡ Some j = f in cc
  statements (Test k) (q ∷ ps) c n i j e f = statements q ps c.1 n i j e f
  statements (Advance k) [] c n i j e f = let z : None ≡ Some j = f in cc
  statements (Advance k) (q ∷ ps) c n i j e f = statements q ps c.1 n i j e f

  -- a list of points that begins there and goes on as a chain
  abbrev From : Point → List Point → Type 0
  From p [] = Unit {0}
  From p (q ∷ ps) = (q ≡ p) × Chain q ps

  behind : (p q : Point) (ps : List Point) → IsOne (follow u p) q → From q ps → Chain p ps
  behind p q [] one c = tt
  behind p q (r ∷ ps) one c = (subst (IsOne (follow u p)) (sym c.0) one, c.1)

  along : (ps : List Point) → From (At (first u)) ps → IsAlongTheGraph u ps
  along [] c = record { begins = λ p e. (let z : None ≡ Some p = e in cc); goes = λ k p q e f. (let z : None ≡ Some q = f in cc); statements = λ k i j e f. (let z : None ≡ Some j = f in cc) }
  along (p ∷ ps) c = record { begins = λ q e. (let x : p ≡ q = cc in sym x ∙ c.0); goes = chain_goes p ps c.1; statements = statements p ps c.1 }

-- ---- turns

ranged : (u : List Stmt) (p : Point) → IsPlace u p → HasRange u p
ranged u (At k) h = tt
ranged u (Inside k) h = tt
ranged u (Test d) h = h
ranged u (Advance d) h = h

module _ (u : SourceUnit) (checks : PassedChecks u.statements) (h : Handler) (f : Frame) where
  abbrev t : Here → Act (After Here)
  t = turn (routine u) f

  way_goes : (n : ℕ) (s : Here) (w : World) → IsPlace u.statements s.point → From u.statements s.point (way_from h t n s w)
  way_goes zero s w i = tt
  way_goes (suc n) s w i = at_tick w.left (way_goes n)
    where
      at_tick : (m : ℕ) → ((s : Here) (w : World) → IsPlace u.statements s.point → From u.statements s.point (way_from h t n s w)) → From u.statements s.point (way_ticked m w (λ w1. s.point ∷ way_behind (play h (t s) w1) (way_from h t n)))
      at_tick zero ih = tt
      at_tick (suc m) ih = (refl, go (play h (t s) (record w { left = m })) (play_gives h (GoesToPlaces u.statements) (t s) (record w { left = m }) (stays.goes u checks f s i)) (play_gives h (GoesTo (follow u.statements s.point)) (t s) (record w { left = m }) (turn_goes u f s (ranged u.statements s.point i))))
        where
          go : (o : Outcome (After Here)) → Came (GoesToPlaces u.statements) o → Came (GoesTo (follow u.statements s.point)) o → Chain u.statements s.point (way_behind o (way_from h t n))
          go (Fine (Again r) v) p q = behind u.statements s.point r.point (way_from h t n r v) q (ih r v p)
          go (Fine (Result r) v) p q = tt
          go (Stop r v) p q = tt

pub follows : RunsFollowTheGraph
follows u checks h ds w = go (play h (entry (entered (routine u) ds) (routine u).dummy_arrays) (cleared (routine u) w))
  where
    go : (o : Outcome Frame) → IsAlongTheGraph u.statements (way_entered h (routine u) o)
    go (Fine f v) = along u.statements (way_entered h (routine u) (Fine f v)) (way_goes u checks h f (suc v.left) (beginning (routine u)) v (stays.begins u checks))
    go (Stop r v) = along u.statements [] tt
