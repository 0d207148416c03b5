-- A turn that goes on goes to a point that may follow where it began.
use Rattle.std.proofs.Common.{◌≡◌, ℕ, zero, suc, ◌+◌, ◌-◌, List, [], ◌∷◌, ◌++◌, Option, None, Some, Bool, true, false, ℤ, pos, negsuc, refl, subst, arith, slice_get, map, if◌then◌else◌}
use Rattle.std.specs.Prelude.{IsTrue}
use Rattle.std.specs.Ordering.{int_eq}
use Rattle.run_model.specs.Acts.{Undefined, Act, Done, Get, Put, Say, Take, Ask, Fail, and_then, ◌>>◌}
use Rattle.run_model.specs.Turns.{After, Again}
use Rattle.f77_tree.specs.declared.form.Form.{Form, out-Form}
use Rattle.f77_tree.specs.declared.form.Form.TheOpen.{Form-F}
use Rattle.f77_tree.specs.declared.unit.Stmt.{Stmt}
use Rattle.f77_tree.specs.declared.unit.Ty.{Ty}
use Rattle.f77_tree.specs.declared.unit.Ty.TheVariants as types
use Rattle.f77_tree.specs.declared.unit.Unit.{Unit as ProgramUnit}
use Rattle.f77_tree.specs.declared.unit.Value.TheVariants.{Integer}
use Rattle.f77_values.specs.Tables.{Name}
use Rattle.f77_names.specs.Roles.{facts}
use Rattle.f77_store.specs.Layouts.{layout_of}
use Rattle.f77_flow.specs.Labels.{target, has_range}
use Rattle.f77_flow.specs.Blocks.{below, otherwise}
use Rattle.f77_flow.specs.Graph.{Point, At, Inside, Test, Advance, after, leaving, simple_ways, ways, inner_ways, follow}
use Rattle.f77_semantics.specs.Program.{Base, Term, Statement, Do, Stop, Return, NoStatement, Routine}
use Rattle.f77_semantics.specs.Expressions.{Frame, value, actuals, scalar, fetch, store}
use Rattle.f77_semantics.specs.Statements.{Here, as_number, number, condition, target as target_of, items, say_record, read_all, by_sign, chosen, step_of, to, to_chosen, return, tested, trips, set_loop, perform, inner, advance, statement, turn_at}
use Rattle.f77_semantics.specs.Terms.{Meant, Variable}
use Rattle.f77_semantics.specs.Resolve.{loop, term, terms, sites, optional, simple, statement_of, statements_from}
use Rattle.f77_semantics.specs.Source.{meant_in, is_main, routine}
use Rattle.f77_semantics.specs.Goes.{Gives, IsOne, GoesTo, HasRange, GoesByTheFlow}

-- what acts end with is what the acts behind them end with
gives_then : {A B : Type 0} → (Q : B → Type 0) (a : Act A) (g : A → Act B) → ((x : A) → Gives Q (g x)) → Gives Q (and_then a g)
gives_then Q (Done x) g h = h x
gives_then Q (Get l k) g h = λ v. gives_then Q (k v) g h
gives_then Q (Put l v a) g h = gives_then Q a g h
gives_then Q (Say bs a) g h = gives_then Q a g h
gives_then Q (Take k) g h = λ x. gives_then Q (k x) g h
gives_then Q (Ask s ds k) g h = λ r. gives_then Q (k r) g h
gives_then Q (Fail e) g h = tt

-- a label that a computed GO TO has is one of its ways, and the last way goes on
labelled : (goes : ℕ → ℕ) (labels : List ℕ) (p : Point) (j l : ℕ) → slice_get (map goes labels) j ≡ Some l → IsOne (map (λ label. At (goes label)) labels ++ p ∷ []) (At l)
labelled goes [] p j l e = cc
labelled goes (x ∷ labels) p zero l e = record { way = 0; is = first (goes x) l e }
  where
    first : (a b : ℕ) → Some a ≡ Some b → Some (At a) ≡ Some (At b)
    first a b e = cc
labelled goes (x ∷ labels) p (suc j) l e = let r = labelled goes labels p j l e in record { way = suc r.way; is = r.is }

last_way : (goes : ℕ → ℕ) (labels : List ℕ) (p : Point) → IsOne (map (λ label. At (goes label)) labels ++ p ∷ []) p
last_way goes [] p = record { way = 0; is = refl }
last_way goes (x ∷ labels) p = let r = last_way goes labels p in record { way = suc r.way; is = r.is }

module _ (u : ProgramUnit) (f : Frame) where
  abbrev ss : List Stmt
  ss = u.statements

  abbrev R : Routine
  R = routine u

  abbrev meant : Name → Meant
  meant = meant_in (facts u) (layout_of u).slots

  abbrev main : Bool
  main = is_main u.kind

  abbrev Below : ℕ → After Here → Type 0
  Below k = GoesTo (after ss k ∷ [])

  returns : (points : List Point) (r : Option (Ty × Base)) → Gives (GoesTo points) (return f r)
  returns points None = tt
  returns points (Some r) = gives_then (GoesTo points) (fetch r.0 (scalar f r.1)) _ (λ v. tt)

  simple_goes : (s : Here) (k site : ℕ) (form : Form-F Form) → Gives (GoesTo (simple_ways ss k form)) (perform R f s k (simple meant main (target ss) site form))
  simple_goes s k site (Form-F.Assign t e) = gives_then (Below k) (target_of f (term meant t site)) _ (λ l. gives_then (Below k) (value f (term meant e (site + sites meant t))) _ (λ x. record { way = 0; is = refl }))
  simple_goes s k site (Form-F.ArithmeticIf e a b c) = gives_then (GoesTo (At (target ss a) ∷ At (target ss b) ∷ At (target ss c) ∷ [])) (number f (term meant e site)) _ go
    where
      go : (x : ℤ) → IsOne (At (target ss a) ∷ At (target ss b) ∷ At (target ss c) ∷ []) (At (by_sign x (target ss a) (target ss b) (target ss c)))
      go (negsuc n) = record { way = 0; is = refl }
      go (pos zero) = record { way = 1; is = refl }
      go (pos (suc n)) = record { way = 2; is = refl }
  simple_goes s k site (Form-F.GoTo label) = record { way = 0; is = refl }
  simple_goes s k site (Form-F.ComputedGoTo labels e) = gives_then (GoesTo all) (number f (term meant e site)) _ go
    where
      all : List Point
      all = map (λ label. At (target ss label)) labels ++ after ss k ∷ []

      here : (o : Option ℕ) → ((l : ℕ) → o ≡ Some l → IsOne all (At l)) → Gives (GoesTo all) (to_chosen o (after ss k) s)
      here None g = last_way (target ss) labels (after ss k)
      here (Some l) g = g l refl

      go : (x : ℤ) → Gives (GoesTo all) (to_chosen (chosen (map (target ss) labels) x) (after ss k) s)
      go (negsuc n) = last_way (target ss) labels (after ss k)
      go (pos zero) = last_way (target ss) labels (after ss k)
      go (pos (suc n)) = here (slice_get (map (target ss) labels) n) (λ l e. labelled (target ss) labels (after ss k) n l e)
  simple_goes s k site Form-F.Continue = record { way = 0; is = refl }
  simple_goes s k site (Form-F.Call name es) = gives_then (Below k) (actuals f site 0 (terms meant es (suc site))) _ (λ ds r. record { way = 0; is = refl })
  simple_goes s k site Form-F.Return = returns [] R.result
  simple_goes s k site Form-F.End = go main
    where
      go : (b : Bool) → Gives (GoesTo []) (perform R f s k (if b then Stop else Return))
      go true = tt
      go false = returns [] R.result
  simple_goes s k site (Form-F.Print es) = gives_then (Below k) (items f (terms meant es site)) _ (λ ps. gives_then (Below k) (say_record ps) _ (λ x. record { way = 0; is = refl }))
  simple_goes s k site (Form-F.Read es) = gives_then (Below k) (read_all f (terms meant es site)) _ (λ x. record { way = 0; is = refl })
  simple_goes s k site form = tt

  do_goes : (s : Here) (k : ℕ) (m : Meant) (e1 e2 : Term) (e3 : Option Term) → Gives (GoesTo (Test k ∷ [])) (perform R f s k (loop m e1 e2 e3))
  do_goes s k (Variable ty b) e1 e2 e3 = gives_then (GoesTo (Test k ∷ [])) (number f e1) _ (λ m1. gives_then (GoesTo (Test k ∷ [])) (number f e2) _ (λ m2. gives_then (GoesTo (Test k ∷ [])) (step_of f e3) _ (λ m3. go m1 m2 m3 (int_eq m3 (pos 0)))))
    where
      go : (m1 m2 m3 : ℤ) (z : Bool) → Gives (GoesTo (Test k ∷ [])) (if z then Fail (Undefined 6) else (store (scalar f b) (Integer m1) >> Done (Again (record { point = Test k; loops = set_loop k (record { count = trips m1 m2 m3; step = m3 }) s.loops }))))
      go m1 m2 m3 true = tt
      go m1 m2 m3 false = record { way = 0; is = refl }
  do_goes s k m e1 e2 e3 = tt

  statement_goes : (s : Here) (k site : ℕ) (form : Form-F Form) → Gives (GoesTo (ways ss k form)) (perform R f s k (statement_of meant main ss k site form))
  statement_goes s k site (Form-F.BlockIf e) = gives_then (GoesTo (At (below ss k) ∷ At (otherwise ss k) ∷ [])) (condition f (term meant e site)) _ (elim [ true ↦ record { way = 0; is = refl } | false ↦ record { way = 1; is = refl } ])
  statement_goes s k site (Form-F.ElseIf e) = gives_then (GoesTo (At (below ss k) ∷ At (otherwise ss k) ∷ [])) (condition f (term meant e site)) _ (elim [ true ↦ record { way = 0; is = refl } | false ↦ record { way = 1; is = refl } ])
  statement_goes s k site (Form-F.LogicalIf e i) = gives_then (GoesTo (Inside k ∷ after ss k ∷ [])) (condition f (term meant e site)) _ (elim [ true ↦ record { way = 0; is = refl } | false ↦ record { way = 1; is = refl } ])
  statement_goes s k site (Form-F.Do label name a b c) = do_goes s k (meant name) (term meant a site) (term meant b (site + sites meant a)) (optional meant c (site + (sites meant a + sites meant b)))
  statement_goes s k site Form-F.EndIf = record { way = 0; is = refl }
  statement_goes s k site form = simple_goes s k site form

  inner_goes : (s : Here) (k site : ℕ) (form : Form-F Form) → Gives (GoesTo (inner_ways ss k form)) (perform R f s k (inner (statement_of meant main ss k site form)))
  inner_goes s k site (Form-F.LogicalIf e i) = simple_goes s k _ (out-Form i)
  inner_goes s k site (Form-F.Do label name a b c) = go (meant name)
    where
      go : (m : Meant) → Gives (GoesTo []) (perform R f s k (inner (loop m (term meant a site) (term meant b (site + sites meant a)) (optional meant c (site + (sites meant a + sites meant b))))))
      go (Variable ty b) = tt
      go m = tt
  inner_goes s k site Form-F.End = go main
    where
      go : (b : Bool) → Gives (GoesTo []) (perform R f s k (inner (if b then Stop else Return)))
      go true = tt
      go false = tt
  inner_goes s k site form = tt

  tested_goes : (s : Here) (d : ℕ) → IsTrue (has_range ss d) → Gives (GoesTo (follow ss (Test d))) (tested R d s)
  tested_goes s d h = range (has_range ss d) h
    where
      count : (n : ℕ) → Gives (GoesTo (At (below ss d) ∷ leaving ss d ∷ [])) (elim n [ zero ↦ to (leaving ss d) s | suc m ↦ to (At (below ss d)) s ])
      count zero = record { way = 1; is = refl }
      count (suc m) = record { way = 0; is = refl }

      range : (b : Bool) → IsTrue b → Gives (GoesTo (if b then At (below ss d) ∷ leaving ss d ∷ [] else [])) (tested R d s)
      range true h = count (s.loops d).count
      range false h = cc

  advance_goes : (s : Here) (d : ℕ) (t : Statement) → IsTrue (has_range ss d) → Gives (GoesTo (follow ss (Test d))) (advance R f s d t)
  advance_goes s d (Do b e1 e2 e3) h = gives_then (GoesTo (follow ss (Test d))) (fetch types.Integer (scalar f b)) _ (λ x. gives_then (GoesTo (follow ss (Test d))) (as_number x) _ (λ n. tested_goes (record s { loops = set_loop d (record { count = (s.loops d).count - 1; step = (s.loops d).step }) s.loops }) d h))
  advance_goes s d t h = tt

  -- what a statement of the routine is, by the statement of the unit
  pub looked_up : (sts : List Stmt) (j site k : ℕ) (P : Option Stmt → Statement → Type 0) → P None NoStatement → ((st : Stmt) (site : ℕ) → P (Some st) (statement_of meant main ss (j + k) site (out-Form st.form)))
      → P (slice_get sts k) (elim (slice_get (statements_from meant (facts u) main ss j site sts) k) [ None ↦ NoStatement | Some t ↦ t ])
  looked_up [] j site k P n h = n
  looked_up (st ∷ sts) j site zero P n h = let e : j + 0 ≡ j = omega arith in subst (λ i. P (Some st) (statement_of meant main ss i site (out-Form st.form))) e (h st site)
  looked_up (st ∷ sts) j site (suc k) P n h = let e : j + suc k ≡ suc j + k = omega arith in looked_up sts (suc j) _ k P n (λ st site. subst (λ i. P (Some st) (statement_of meant main ss i site (out-Form st.form))) e (h st site))

  at_goes : (s : Here) (k : ℕ) → Gives (GoesTo (follow ss (At k))) (perform R f s k (statement R k))
  at_goes s k = looked_up ss 0 1 k (λ o t. Gives (GoesTo (elim o [ None ↦ [] | Some st ↦ ways ss k (out-Form st.form) ])) (perform R f s k t)) tt
      (λ st site. let e : k ≡ 0 + k = omega arith in subst (λ i. Gives (GoesTo (ways ss k (out-Form st.form))) (perform R f s k (statement_of meant main ss i site (out-Form st.form)))) e (statement_goes s k site (out-Form st.form)))

  inside_goes : (s : Here) (k : ℕ) → Gives (GoesTo (follow ss (Inside k))) (perform R f s k (inner (statement R k)))
  inside_goes s k = looked_up ss 0 1 k (λ o t. Gives (GoesTo (elim o [ None ↦ [] | Some st ↦ inner_ways ss k (out-Form st.form) ])) (perform R f s k (inner t))) tt
      (λ st site. let e : k ≡ 0 + k = omega arith in subst (λ i. Gives (GoesTo (inner_ways ss k (out-Form st.form))) (perform R f s k (inner (statement_of meant main ss i site (out-Form st.form))))) e (inner_goes s k site (out-Form st.form)))

pub goes : GoesByTheFlow
goes u f s h = go s.point h
  where
    go : (p : Point) → HasRange u.statements p → Gives (GoesTo (follow u.statements p)) (turn_at (routine u) f s p)
    go (At k) h = at_goes u f s k
    go (Inside k) h = inside_goes u f s k
    go (Test d) h = tested_goes u f s d h
    go (Advance d) h = advance_goes u f s d (statement (routine u) d) h
