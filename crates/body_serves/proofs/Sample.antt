-- The example's body serves its unit: the store that is dropped isn't read through, and what isn't loaded is the constant.
use Rattle.std.proofs.Common.{◌≡◌, ℕ, zero, suc, List, [], ◌∷◌, ◌++◌, Option, Some, None, Bool, true, false, ◌&&◌, cond, ℤ, pos, nat_eq, refl, sym, ap, ◌∙◌, subst, arith, ⊎_elim}
use Rattle.std.proofs.Math.Path.{fun_ext}
use Rattle.std.proofs.lemmas.Bool.{eqb-true, false≢true}
use Rattle.run_model.specs.Storage.{Value, Integer, Logical, Area, Block, Local, Fresh, Loc, Interval, Cells, area_eq, loc_eq, put_cell}
use Rattle.run_model.specs.Acts.{World, Spent, Stuck, Outcome, Fine, Stop, then_do, Act, Get, Ask, Fail, Answer, Handler, play, with_cell}
use Rattle.run_model.specs.Turns.{After, follow, turns}
use Rattle.f77_tree.specs.declared.unit.Item.TheVariants as item
use Rattle.f77_values.proofs.SameNames.{same_name}
use Rattle.f77_flow.specs.Graph.{At}
use Rattle.f77_semantics.specs.Expressions.{Frame, at, only_first}
use Rattle.f77_semantics.specs.Statements.{Here, turn}
use Rattle.f77_semantics.specs.Units.{entered, beginning}
use Rattle.run_calls.specs.Calls.{Call, calls, calls_then, calls_cell, calls_follow, turns_calls, Each}
use Rattle.run_calls.specs.Same.{SameRun, IfDefined}
use Rattle.run_calls.proofs.Ends.{if_map}
use Rattle.run_records.specs.Records.{IsOwn, IsReadThrough, IsChanged, StandsIn, IsEntry}
use Rattle.run_records.specs.Rows.{Changes, over, changed, Row, Results, Ends, GoesOn, Fails, IsRow, AllChanges, IsBound, Respects}
use Rattle.run_records.specs.Serving.{SameCall, SameCalls}
use Rattle.run_records.proofs.Stands.{stands_itself}
use Rattle.unit_serves.specs.Units.{unit_behaviour}
use Rattle.ir_core.specs.Runs.{Activation, Temporaries, body_turn}
use Rattle.ir_core.specs.Runs as body
use Rattle.body_serves.specs.Bodies.{activated, body_behaviour}
use Rattle.body_serves.specs.Example.{block, unit_p, places_p, record_p, body_p, ExampleServes}

-- M and N
abbrev pub m_at : Loc
m_at = record { area = Block block; offset = 1 }

abbrev n_at : Loc
n_at = record { area = Block block; offset = 0 }

both : (a b : Bool) → (a && b) ≡ true → (a ≡ true) × (b ≡ true)
both true b h = (refl, h)
both false b h = absurd (false≢true h)

same_area : (a : Area) → area_eq (Block block) a ≡ true → Block block ≡ a
same_area (Block b) e = ap Block (same_name block b e)
same_area (Local u) e = absurd (false≢true e)
same_area (Fresh u s j) e = absurd (false≢true e)

is_m : (l : Loc) → loc_eq m_at l ≡ true → l ≡ m_at
is_m l e =
    let t = both (area_eq (Block block) l.area) (nat_eq 1 l.offset) e in
    sym (λ i. record { area = same_area l.area t.0 i; offset = eqb-true 1 l.offset t.1 i })

-- what a tree does behind its first read
abbrev behind : {A : Type 0} → Act A → Value → Act A
behind (Get l f) v = f v
behind _ v = Fail Stuck

-- what a tree does behind its first call
abbrev answered : {A : Type 0} → Act A → Answer → Act A
answered (Ask s ds f) r = f r
answered _ r = Fail Stuck

module _ (h : Handler) (d : Interval) (ds : List Interval) where
  -- K
  abbrev k_at : Loc
  k_at = at (only_first d) 0

  abbrev frame : Frame
  frame = entered unit_p (d ∷ ds)

  abbrev entry_act : Activation
  entry_act = activated unit_p (d ∷ ds)

  abbrev unit_turn : Here → Act (After Here)
  unit_turn = turn unit_p frame

  abbrev block_turn : body.Here → Act (After body.Here)
  block_turn = body_turn entry_act body_p

  abbrev statement_at : ℕ → Here
  statement_at j = record { point = At j; loops = (beginning unit_p).loops }

  abbrev block_at : ℕ → Temporaries → body.Here
  block_at j t = record { block = j; temporaries = t }

  own_k : IsOwn (places_p (d ∷ ds)) (item.Dummy 0) k_at
  own_k = record { own = refl; interval = only_first d; stands = refl; covers = record { at_ = 0; inside_ = omega arith; is = refl } }

  own_m : (l : Loc) → l ≡ m_at → IsOwn (places_p (d ∷ ds)) (item.Common block 1) l
  own_m l e = record { own = refl; interval = record { area = Block block; from = 1; length = 1 }; stands = refl; covers = record { at_ = 0; inside_ = omega arith; is = e } }

  pub record Ok (o p : Outcome Answer) (cs es : List Call) : Type 0 where
    pub run : SameRun o p
    pub calls : IfDefined o (SameCalls record_p (places_p (d ∷ ds)) cs es)

  abbrev stopped : (v v' : World) → v.out ≡ v'.out → v.input ≡ v'.input → v.left ≡ v'.left → Ok (Stop Spent v) (Stop Spent v') [] []
  stopped v v' o i n = record { run = record { world = v'; is = refl; alike = record { out = o; input = i; left = n } }; calls = tt }

  -- the worlds behind the call, and behind the sum
  abbrev world : Cells → List ℕ → List ℤ → ℕ → World
  world c o i n = record { cells = c; out = o; input = i; left = n }

  module _ (cells : Cells) where
    abbrev with_m : Cells
    with_m = put_cell m_at (Integer (pos 1)) cells

    -- END: all storage is the same again
    same_cells : (ch : Changes) (v : Value) → put_cell m_at v (changed ch with_m) ≡ put_cell m_at v (changed ch cells)
    same_cells ch v = fun_ext (λ l. go l (loc_eq m_at l))
      where
        go : (l : Loc) (b : Bool) → cond b (Some v) (over (ch l) (cond b (Some (Integer (pos 1))) (cells l))) ≡ cond b (Some v) (over (ch l) (cells l))
        go l true = refl
        go l false = refl

    stage3 : (ch : Changes) (v : Value) (t : Temporaries) (o : List ℕ) (inp : List ℤ) (fuel left : ℕ) → Ok (turns h unit_turn fuel (statement_at 3) (world (put_cell m_at v (changed ch with_m)) o inp left)) (turns h block_turn fuel (block_at 3 t) (world (put_cell m_at v (changed ch cells)) o inp left)) (turns_calls h unit_turn fuel (statement_at 3) (world (put_cell m_at v (changed ch with_m)) o inp left)) (turns_calls h block_turn fuel (block_at 3 t) (world (put_cell m_at v (changed ch cells)) o inp left))
    stage3 ch v t o inp zero left = stopped _ _ refl refl refl
    stage3 ch v t o inp (suc fuel) zero = stopped _ _ refl refl refl
    stage3 ch v t o inp (suc fuel) (suc left) = record { run = ap (λ c. Fine None (world c o inp left)) (sym (same_cells ch v)); calls = tt }

    -- M = K + N, where K's cell holds nothing but 5
    module _ (ch : Changes) (o : List ℕ) (inp : List ℤ) where
      abbrev theirs : ℕ → World
      theirs left = world (changed ch with_m) o inp left

      abbrev ours : ℕ → World
      ours left = world (changed ch cells) o inp left

      -- what the unit does behind its two reads, and the body behind its one
      abbrev unit_sum : Value → Value → Act (After Here)
      unit_sum x y = behind (behind (unit_turn (statement_at 2)) x) y

      abbrev body_sum : Temporaries → Value → Act (After body.Here)
      body_sum t y = behind (block_turn (block_at 2 t)) y

      at_n : (fuel left : ℕ) (t : Temporaries) (c : Option Value)
          → Ok (then_do (with_cell {A = After Here} c (theirs left) (λ y. play h (unit_sum (Integer (pos 5)) y) (theirs left))) (λ a v. follow a v (turns h unit_turn fuel)))
          (then_do (with_cell {A = After body.Here} c (ours left) (λ y. play h (body_sum t y) (ours left))) (λ a v. follow a v (turns h block_turn fuel)))
          (calls_cell c (λ y. calls h (unit_sum (Integer (pos 5)) y) (theirs left) (λ a v. calls_follow a v (turns_calls h unit_turn fuel))))
          (calls_cell c (λ y. calls h (body_sum t y) (ours left) (λ a v. calls_follow a v (turns_calls h block_turn fuel))))
      at_n fuel left t None = record { run = tt; calls = tt }
      at_n fuel left t (Some (Logical b)) = record { run = tt; calls = tt }
      at_n fuel left t (Some (Integer y)) = stage3 ch _ _ o inp fuel left

      stage2 : (t : Temporaries) (fuel left : ℕ) → ((x : Value) → changed ch with_m k_at ≡ Some x → x ≡ Integer (pos 5)) → Ok (turns h unit_turn fuel (statement_at 2) (theirs left)) (turns h block_turn fuel (block_at 2 t) (ours left)) (turns_calls h unit_turn fuel (statement_at 2) (theirs left)) (turns_calls h block_turn fuel (block_at 2 t) (ours left))
      stage2 t zero left five = stopped _ _ refl refl refl
      stage2 t (suc fuel) zero five = stopped _ _ refl refl refl
      stage2 t (suc fuel) (suc left) five = at_k (changed ch with_m k_at) five
        where
          at_k : (c : Option Value) → ((x : Value) → c ≡ Some x → x ≡ Integer (pos 5))
              → Ok (then_do (with_cell {A = After Here} c (theirs left) (λ x. play h (behind (unit_turn (statement_at 2)) x) (theirs left))) (λ a v. follow a v (turns h unit_turn fuel)))
              (then_do (play h (block_turn (block_at 2 t)) (ours left)) (λ a v. follow a v (turns h block_turn fuel)))
              (calls_cell c (λ x. calls h (behind (unit_turn (statement_at 2)) x) (theirs left) (λ a v. calls_follow a v (turns_calls h unit_turn fuel))))
              (calls h (block_turn (block_at 2 t)) (ours left) (λ a v. calls_follow a v (turns_calls h block_turn fuel)))
          at_k None five = record { run = tt; calls = tt }
          at_k (Some x) five = subst (λ x. Ok (then_do (with_cell {A = After Here} (Some x) (theirs left) (λ x. play h (behind (unit_turn (statement_at 2)) x) (theirs left))) (λ a v. follow a v (turns h unit_turn fuel)))
              (then_do (play h (block_turn (block_at 2 t)) (ours left)) (λ a v. follow a v (turns h block_turn fuel)))
              (calls_cell (Some x) (λ x. calls h (behind (unit_turn (statement_at 2)) x) (theirs left) (λ a v. calls_follow a v (turns_calls h unit_turn fuel))))
              (calls h (block_turn (block_at 2 t)) (ours left) (λ a v. calls_follow a v (turns_calls h block_turn fuel)))) (sym (five x refl)) (at_n fuel left t (over (ch n_at) (cells n_at)))

    -- CALL Q(K), from worlds that differ in M
    module _ (out : List ℕ) (input : List ℤ) (left : ℕ) (t : Temporaries) where
      abbrev from : World
      from = world with_m out input left

      abbrev from_other : World
      from_other = world cells out input left

      abbrev call : World → Call
      call v = record { site = 1; actuals = only_first d ∷ []; world = v }

      stands : StandsIn record_p (places_p (d ∷ ds)) 1 from from_other
      stands = record { out = refl; input = refl; left = refl; cells = λ l read. go l read (loc_eq m_at l) refl }
        where
          go : (l : Loc) → IsReadThrough record_p (places_p (d ∷ ds)) 1 l → (b : Bool) → loc_eq m_at l ≡ b → cond b (Some (Integer (pos 1))) (cells l) ≡ cells l
          go l read true e = absurd (false≢true (read (item.Common block 1) (own_m l (is_m l e))))
          go l read false e = refl

      same_call : SameCall record_p (places_p (d ∷ ds)) (call from) (call from_other)
      same_call = record { site = refl; actuals = refl; world = stands }

      abbrev behind_call : Temporaries
      behind_call = body.put 0 (body.Address (only_first d)) t

      -- what follows the call's answers
      abbrev Follows : ℕ → Outcome Answer → Outcome Answer → Type 0
      Follows fuel a b = Ok
          (then_do (then_do a (λ r v. play h (answered (unit_turn (statement_at 1)) r) v)) (λ x v. follow x v (turns h unit_turn fuel)))
          (then_do (then_do b (λ r v. play h (answered (block_turn (block_at 1 t)) r) v)) (λ x v. follow x v (turns h block_turn fuel)))
          (call from ∷ calls_then a (λ r v. calls h (answered (unit_turn (statement_at 1)) r) v (λ x v. calls_follow x v (turns_calls h unit_turn fuel))))
          (call from_other ∷ calls_then b (λ r v. calls h (answered (block_turn (block_at 1 t)) r) v (λ x v. calls_follow x v (turns_calls h block_turn fuel))))

      joined : (fuel : ℕ) (a b a' b' : Outcome Answer) → a ≡ a' → b ≡ b' → Follows fuel a' b' → Follows fuel a b
      joined fuel a b a' b' p q f = subst (λ a. Follows fuel a b) (sym p) (subst (λ b. Follows fuel a' b) (sym q) f)

      -- K isn't changed by the call
      still_five : (ch : Changes) → AllChanges (IsChanged record_p (places_p (d ∷ ds)) 1) ch → ((x : Value) → with_m k_at ≡ Some x → x ≡ Integer (pos 5)) → (x : Value) → changed ch with_m k_at ≡ Some x → x ≡ Integer (pos 5)
      still_five ch bound five x = go (ch k_at) refl
        where
          go : (c : Option (Option Value)) → ch k_at ≡ c → over c (with_m k_at) ≡ Some x → x ≡ Integer (pos 5)
          go None e = five x
          go (Some c) e = absurd (false≢true (bound k_at c e (item.Dummy 0) own_k))

      answers : (fuel : ℕ) (row : Row) → IsBound (IsChanged record_p (places_p (d ∷ ds)) 1) row → ((x : Value) → with_m k_at ≡ Some x → x ≡ Integer (pos 5)) → (a b : Outcome Answer) → IsRow row from a → IsRow row from_other b → Follows fuel a b
      answers fuel (Results r ch printed rest n) bound five a b p q = joined fuel a b _ _ p q (then_sum (stage2 ch (out ++ printed) rest behind_call fuel n (still_five ch bound five)))
        where
          then_sum : Ok (turns h unit_turn fuel (statement_at 2) (world (changed ch with_m) (out ++ printed) rest n)) (turns h block_turn fuel (block_at 2 behind_call) (world (changed ch cells) (out ++ printed) rest n)) (turns_calls h unit_turn fuel (statement_at 2) (world (changed ch with_m) (out ++ printed) rest n)) (turns_calls h block_turn fuel (block_at 2 behind_call) (world (changed ch cells) (out ++ printed) rest n)) → Follows fuel (Fine r (world (changed ch with_m) (out ++ printed) rest n)) (Fine r (world (changed ch cells) (out ++ printed) rest n))
          then_sum s = record { run = s.run; calls = if_map (turns h unit_turn fuel (statement_at 2) (world (changed ch with_m) (out ++ printed) rest n)) _ _ (λ c. (same_call, c)) s.calls }
      answers fuel (Ends k printed rest n) bound five a b p q = joined fuel a b _ _ p.is q.is (record { run = record { world = q.world; is = refl; alike = record { out = p.printed ∙ sym q.printed; input = p.unread ∙ sym q.unread; left = p.steps ∙ sym q.steps } }; calls = (same_call, tt) })
      answers fuel (GoesOn printed rest n) bound five a b p q = joined fuel a b _ _ p.is q.is (record { run = record { world = q.world; is = refl; alike = record { out = p.printed ∙ sym q.printed; input = p.unread ∙ sym q.unread; left = p.steps ∙ sym q.steps } }; calls = (same_call, tt) })
      answers fuel (Fails c printed) bound five a b p q = joined fuel a b _ _ p.is q.is (record { run = tt; calls = tt })

    stage1 : (out : List ℕ) (input : List ℤ) (t : Temporaries) (fuel left : ℕ) → ((x : Value) → with_m k_at ≡ Some x → x ≡ Integer (pos 5)) → Each (Respects record_p (places_p (d ∷ ds)) h) (turns_calls h unit_turn fuel (statement_at 1) (world with_m out input left)) → Ok (turns h unit_turn fuel (statement_at 1) (world with_m out input left)) (turns h block_turn fuel (block_at 1 t) (world cells out input left)) (turns_calls h unit_turn fuel (statement_at 1) (world with_m out input left)) (turns_calls h block_turn fuel (block_at 1 t) (world cells out input left))
    stage1 out input t zero left five e = stopped _ _ refl refl refl
    stage1 out input t (suc fuel) zero five e = stopped _ _ refl refl refl
    stage1 out input t (suc fuel) (suc left) five e =
        answers out input left t fuel e.0.row e.0.bound five (h 1 (only_first d ∷ []) (world with_m out input left)) (h 1 (only_first d ∷ []) (world cells out input left))
        (e.0.same (world with_m out input left) (stands_itself record_p (places_p (d ∷ ds)) 1 (world with_m out input left)))
        (e.0.same (world cells out input left) (stands out input left t))

    stage0 : (out : List ℕ) (input : List ℤ) (t : Temporaries) (fuel left : ℕ) → ((x : Value) → with_m k_at ≡ Some x → x ≡ Integer (pos 5)) → Each (Respects record_p (places_p (d ∷ ds)) h) (turns_calls h unit_turn fuel (statement_at 0) (world cells out input left)) → Ok (turns h unit_turn fuel (statement_at 0) (world cells out input left)) (turns h block_turn fuel (block_at 0 t) (world cells out input left)) (turns_calls h unit_turn fuel (statement_at 0) (world cells out input left)) (turns_calls h block_turn fuel (block_at 0 t) (world cells out input left))
    stage0 out input t zero left five e = stopped _ _ refl refl refl
    stage0 out input t (suc fuel) zero five e = stopped _ _ refl refl refl
    stage0 out input t (suc fuel) (suc left) five e = stage1 out input t fuel left five e

  -- At the entry K's cell holds nothing but 5, also behind the store to M.
  entry_five : (w : World) → IsEntry record_p (places_p (d ∷ ds)) w → (x : Value) → with_m w.cells k_at ≡ Some x → x ≡ Integer (pos 5)
  entry_five w en x = go (loc_eq m_at k_at) refl
    where
      go : (b : Bool) → loc_eq m_at k_at ≡ b → cond b (Some (Integer (pos 1))) (w.cells k_at) ≡ Some x → x ≡ Integer (pos 5)
      go true e = ⊎_elim (λ same. absurd (cc)) (λ paired. absurd (false≢true paired)) (en.apart (item.Dummy 0) (item.Common block 1) k_at own_k (own_m k_at (is_m k_at e)))
      go false e = λ c. en.constants (item.Dummy 0) (Integer (pos 5)) refl k_at own_k x c

  runs_so : (w : World) → IsEntry record_p (places_p (d ∷ ds)) w → Each (Respects record_p (places_p (d ∷ ds)) h) ((unit_behaviour unit_p).calls h (d ∷ ds) w) → Ok ((unit_behaviour unit_p).run h (d ∷ ds) w) ((body_behaviour unit_p body_p).run h (d ∷ ds) w) ((unit_behaviour unit_p).calls h (d ∷ ds) w) ((body_behaviour unit_p body_p).calls h (d ∷ ds) w)
  runs_so w en re = stage0 w.cells w.out w.input (λ t. None) (suc w.left) w.left (entry_five w en) re

-- without an actual argument it is no entry
no_entry : (w : World) → IsEntry record_p (places_p []) w → ⊥
no_entry w en = let s = en.associated (item.Dummy 0) refl in none s.interval s.is
  where
    none : (i : Interval) → None ≡ Some i → ⊥
    none i e = absurd (cc)

pub example_serves : ExampleServes
example_serves = record {
  same_run = λ h ds w en re. run h ds w en re;
  same_calls = λ h ds w en re. calls_ h ds w en re;
}
  where
    run : (h : Handler) (ds : List Interval) (w : World) → IsEntry record_p (places_p ds) w → Each (Respects record_p (places_p ds) h) ((unit_behaviour unit_p).calls h ds w) → SameRun ((unit_behaviour unit_p).run h ds w) ((body_behaviour unit_p body_p).run h ds w)
    run h [] w en re = absurd (no_entry w en)
    run h (d ∷ ds) w en re = (runs_so h d ds w en re).run

    calls_ : (h : Handler) (ds : List Interval) (w : World) → IsEntry record_p (places_p ds) w → Each (Respects record_p (places_p ds) h) ((unit_behaviour unit_p).calls h ds w) → IfDefined ((unit_behaviour unit_p).run h ds w) (SameCalls record_p (places_p ds) ((unit_behaviour unit_p).calls h ds w) ((body_behaviour unit_p body_p).calls h ds w))
    calls_ h [] w en re = absurd (no_entry w en)
    calls_ h (d ∷ ds) w en re = (runs_so h d ds w en re).calls
