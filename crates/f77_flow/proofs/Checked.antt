-- What follows a statement of a unit that passed its checks is a statement with which a step may begin.
use Rattle.std.proofs.Common.{◌≡◌, ℕ, zero, suc, ◌-◌, ◌<◌, ◌≤◌, ◌&&◌, ◌⊎◌, max, Bool, true, false, cond, nat_lt, Option, None, Some, List, [], ◌∷◌, ◌++◌, length, map, drop, slice_get, get_or, refl, sym, ◌∙◌, ap, subst, arith, inl, inr, ⊎_elim}
use Rattle.std.proofs.lemmas.Bool.{cases_lt}
use Rattle.std.proofs.lemmas.Bool.Decides.{nat_tests}
use Rattle.std.proofs.lemmas.Option.{slice_get_within, slice_get_cases}
use Rattle.f77_tree.specs.declared.form.Form.{Form, out-Form}
use Rattle.f77_tree.specs.declared.form.Form.TheOpen.{Form-F}
use Rattle.f77_tree.specs.declared.unit.Stmt.{Stmt}
use Rattle.f77_flow.specs.declared.kinds.Kind.{Kind}
use Rattle.f77_flow.specs.declared.kinds.Kind.TheVariants.{Declaration, BlockIf, Do, Plain}
use Rattle.f77_flow.specs.Kinds.{kind, kind_of, kind_at, is_executable}
use Rattle.f77_flow.specs.Labels.{has_label, is_target, first_with, target, last_of, has_range}
use Rattle.f77_flow.specs.Blocks.{end_if, otherwise, below, first}
use Rattle.f77_flow.specs.Spans.{IsElse}
use Rattle.f77_flow.specs.Graph.{Point, At, Inside, Test, Advance, ending, around, advance_or, after, leaving, simple_ways, ways, inner_ways, follow}
use Rattle.f77_flow.specs.Next as n
use Rattle.f77_flow.specs.Next.{IsBetween, Leads, MayFollow}
use Rattle.f77_flow.specs.Checks as c
use Rattle.f77_flow.specs.Checks.{PassedChecks, IsNode, JumpsTo, simple_labels, jump_labels, EndsNoLoop}
use Rattle.f77_flow.proofs.Nodes.{Parts, kind_here, front_at, rest_at, nothing_left, coming_node, test_node}

some_is : {s t : Stmt} → Some s ≡ Some t → s ≡ t
some_is e = cc

parts_end : (u : List Stmt) → PassedChecks u → Parts u
parts_end u checks i is = ⊎_elim (λ (small : end_if u i < length u). small)
    (λ (large : length u ≤ end_if u i). absurd (checks.nests i (c.no_block is (λ b part. omega (arith, part.same, part.block.ends, large)))))
    (cases_lt (end_if u i) (length u))

block_ends : (u : List Stmt) → PassedChecks u → (i : ℕ) → kind_at u i ≡ BlockIf → end_if u i < length u
block_ends u checks i is = ⊎_elim (λ (small : end_if u i < length u). small)
    (λ (large : length u ≤ end_if u i). absurd (checks.nests i (c.no_end is (λ block. omega (arith, block.ends, large)))))
    (cases_lt (end_if u i) (length u))

and_right : (a b : Bool) → (a && b) ≡ true → b ≡ true
and_right true b h = h
and_right false b h = let no : false ≡ true = h in cc

-- what the first statement is that meets a test
first_meets : (test : Stmt → Bool) (u : List Stmt) (k : ℕ) (ss : List Stmt) → drop k u ≡ ss → first_with test k ss < length u → (s : Stmt) × (slice_get u (first_with test k ss) ≡ Some s) × (test s ≡ true)
first_meets test u k [] left = λ within. absurd (omega (arith, nothing_left u k left))
first_meets test u k (s ∷ ss) left = elim (test s) as (λ b. test s ≡ b → cond b k (first_with test (suc k) ss) < length u → (t : Stmt) × (slice_get u (cond b k (first_with test (suc k) ss)) ≡ Some t) × (test t ≡ true)) [
  | true ↦ λ is within. (s, front_at u k s ss left, is)
  | false ↦ λ is within. first_meets test u (suc k) ss (rest_at u k s ss left) within
] refl

target_node : (u : List Stmt) → PassedChecks u → (k label : ℕ) → JumpsTo u k label → IsNode u (target u label)
target_node u checks k label jumps =
    let within : target u label < length u = ⊎_elim (λ (small : target u label < length u). small)
    (λ (large : length u ≤ target u label). absurd (checks.jumps k (record { label = label; jumps = jumps; nowhere = large })))
    (cases_lt (target u label) (length u)) in
    let met = first_meets (is_target label) u 0 u refl within in
    record {
      within = within;
      executable = ap is_executable (kind_here u (target u label) met.0 met.1) ∙ and_right (has_label label met.0) (is_executable (kind met.0)) met.2;
      no_else = λ e. checks.targets (max k (target u label)) (record { jump = k; label = label; jumps = jumps; stands = within; later = refl; astray = inl (subst IsElse (sym e) tt) });
    }

-- a statement that isn't END has one below it
below_node : (u : List Stmt) → PassedChecks u → (k : ℕ) (s : Stmt) → slice_get u k ≡ Some s → (out-Form s.form ≡ Form-F.End → ⊥) → IsNode u (below u k)
below_node u checks k s stands no_end =
    let within : k < length u = slice_get_within u k s stands in
    let apart : k ≡ length u - 1 → ⊥ = λ e. no_end (ap (λ (t : Stmt). out-Form t.form) (some_is (sym stands ∙ (ap (slice_get u) e ∙ checks.stands))) ∙ checks.end) in
    let executable : is_executable (kind_at u (length u - 1)) ≡ true = ap is_executable (kind_here u (length u - 1) checks.last checks.stands ∙ ap kind_of checks.end) in
    coming_node u (suc k) (drop (suc k) u) refl (parts_end u checks) (length u - 1) (omega arith) (omega arith) executable

otherwise_node : (u : List Stmt) → PassedChecks u → (k : ℕ) → end_if u k < length u → IsNode u (otherwise u k)
otherwise_node u checks k ends = test_node u 0 (suc k) (drop (suc k) u) refl (parts_end u checks) ends

-- a point at which a step of a checked unit may begin
abbrev Fits : List Stmt → Point → Type 0
Fits u (At k) = IsNode u k
Fits u _ = Unit {0}

record AllFit (u : List Stmt) (ps : List Point) : Type 0 where
  each : (way : ℕ) (q : Point) → slice_get ps way ≡ Some q → Fits u q

point_is : {p q : Point} → Some p ≡ Some q → p ≡ q
point_is e = cc

fit_none : (u : List Stmt) → AllFit u []
fit_none u = record { each = λ way q e. let no : None ≡ Some q = e in cc }

fit_at : (u : List Stmt) (p : Point) (ps : List Point) → Fits u p → AllFit u ps → (way : ℕ) (q : Point) → slice_get (p ∷ ps) way ≡ Some q → Fits u q
fit_at u p ps first others zero q e = subst (Fits u) (point_is e) first
fit_at u p ps first others (suc way) q e = others.each way q e

fit_more : (u : List Stmt) (p : Point) (ps : List Point) → Fits u p → AllFit u ps → AllFit u (p ∷ ps)
fit_more u p ps first others = record { each = fit_at u p ps first others }

fit_one : (u : List Stmt) (p : Point) → Fits u p → AllFit u (p ∷ [])
fit_one u p first = fit_more u p [] first (fit_none u)

fit_targets : (u : List Stmt) (labels : List ℕ) (ps : List Point) → ((place label : ℕ) → slice_get labels place ≡ Some label → IsNode u (target u label)) → AllFit u ps → AllFit u (map (λ label. At (target u label)) labels ++ ps)
fit_targets u [] ps node others = others
fit_targets u (label ∷ labels) ps node others = fit_more u (At (target u label)) (map (λ l. At (target u l)) labels ++ ps) (node 0 label refl) (fit_targets u labels ps (λ place l e. node (suc place) l e) others)

advance_fits : (u : List Stmt) (ds : List ℕ) (k : ℕ) → IsNode u (below u k) → Fits u (advance_or u ds k)
advance_fits u [] k node = node
advance_fits u (d ∷ ds) k node = tt

is_below : (a n : ℕ) → nat_lt a n ≡ true → a < n
is_below a n h = grind (arith, nat_tests)

-- what is no DO has no last statement
no_last : (u : List Stmt) (d : ℕ) (v : Kind) → kind_at u d ≡ v → (v ≡ Declaration) ⊎ (v ≡ Plain) → last_of u d ≡ length u
no_last u d v is which =
    let find : ℕ → ℕ = λ label. first_with (has_label label) (suc d) (drop (suc d) u) in
    let last : Kind → ℕ = λ w. elim w [ Do label ↦ find label | _ ↦ length u ] in
    ap last is ∙ ⊎_elim (λ (e : v ≡ Declaration). ap last e) (λ (e : v ≡ Plain). ap last e) which

-- a statement that isn't END
record Stands (u : List Stmt) (k : ℕ) : Type 0 where
  statement : Stmt
  here : slice_get u k ≡ Some statement
  no_end : out-Form statement.form ≡ Form-F.End → ⊥

do_stands : (u : List Stmt) (d : ℕ) → last_of u d < length u → Stands u d
do_stands u d small = ⊎_elim
    (λ (found : (x : Stmt) × (d < length u) × (slice_get u d ≡ Some x) × (get_or u d x ≡ x)). record { statement = found.0; here = found.2; no_end = λ e. omega (arith, small, no_last u d Plain (kind_here u d found.0 found.2 ∙ ap kind_of e) (inr refl)) })
    (λ (past : (length u ≤ d) × (slice_get u d ≡ None)). absurd (omega (arith, small, no_last u d Declaration (ap (λ o. elim o [ None ↦ Declaration | Some t ↦ kind t ]) past.1) (inl refl))))
    (slice_get_cases u d).1

last_stands : (u : List Stmt) → PassedChecks u → (d : ℕ) → last_of u d < length u → Stands u (last_of u d)
last_stands u checks d small = ⊎_elim
    (λ (found : (x : Stmt) × (last_of u d < length u) × (slice_get u (last_of u d) ≡ Some x) × (get_or u (last_of u d) x ≡ x)). record {
      statement = found.0;
      here = found.2;
      no_end = λ e. checks.lasts (last_of u d) (record { loop = d; statement = found.0; stands = found.2; last = refl; bad = subst (λ f. EndsNoLoop f (kind_at u (last_of u d))) (sym e) tt });
    })
    (λ (past : (length u ≤ last_of u d) × (slice_get u (last_of u d) ≡ None)). absurd (omega (arith, small, past.0)))
    (slice_get_cases u (last_of u d)).1

after_fits : (u : List Stmt) → PassedChecks u → (k : ℕ) (s : Stmt) → slice_get u k ≡ Some s → (out-Form s.form ≡ Form-F.End → ⊥) → Fits u (after u k)
after_fits u checks k s stands no_end = advance_fits u (ending u k) k (below_node u checks k s stands no_end)

tested_by : (u : List Stmt) → PassedChecks u → (d : ℕ) (b : Bool) → has_range u d ≡ b → AllFit u (cond b (At (below u d) ∷ leaving u d ∷ []) [])
tested_by u checks d true e =
    let small : last_of u d < length u = is_below (last_of u d) (length u) e in
    let head = do_stands u d small in
    let last = last_stands u checks d small in
    fit_more u (At (below u d)) (leaving u d ∷ []) (below_node u checks d head.statement head.here head.no_end)
    (fit_one u (leaving u d) (advance_fits u (around u d) (last_of u d) (below_node u checks (last_of u d) last.statement last.here last.no_end)))
tested_by u checks d false e = fit_none u

simple_fits : (u : List Stmt) → PassedChecks u → (k : ℕ) (form : Form-F Form) → ((form ≡ Form-F.End → ⊥) → Fits u (after u k)) → ((place label : ℕ) → slice_get (simple_labels form) place ≡ Some label → JumpsTo u k label) → AllFit u (simple_ways u k form)
simple_fits u checks k (Form-F.Assign to value) here jumps = fit_one u (after u k) (here (λ x. cc))
simple_fits u checks k (Form-F.ArithmeticIf value minus null plus) here jumps =
    fit_more u (At (target u minus)) (At (target u null) ∷ At (target u plus) ∷ []) (target_node u checks k minus (jumps 0 minus refl))
    (fit_more u (At (target u null)) (At (target u plus) ∷ []) (target_node u checks k null (jumps 1 null refl))
    (fit_one u (At (target u plus)) (target_node u checks k plus (jumps 2 plus refl))))
simple_fits u checks k (Form-F.GoTo label) here jumps = fit_one u (At (target u label)) (target_node u checks k label (jumps 0 label refl))
simple_fits u checks k (Form-F.ComputedGoTo labels index) here jumps = fit_targets u labels (after u k ∷ []) (λ place label e. target_node u checks k label (jumps place label e)) (fit_one u (after u k) (here (λ x. cc)))
simple_fits u checks k Form-F.Continue here jumps = fit_one u (after u k) (here (λ x. cc))
simple_fits u checks k (Form-F.Call name actuals) here jumps = fit_one u (after u k) (here (λ x. cc))
simple_fits u checks k (Form-F.Print items) here jumps = fit_one u (after u k) (here (λ x. cc))
simple_fits u checks k (Form-F.Read targets) here jumps = fit_one u (after u k) (here (λ x. cc))
simple_fits u checks k _ here jumps = fit_none u

ways_fit : (u : List Stmt) → PassedChecks u → (k : ℕ) (s : Stmt) → slice_get u k ≡ Some s → (form : Form-F Form) → out-Form s.form ≡ form → AllFit u (ways u k form)
ways_fit u checks k s stands (Form-F.BlockIf test) e =
    fit_more u (At (below u k)) (At (otherwise u k) ∷ []) (below_node u checks k s stands (λ x. let no : Form-F.BlockIf test ≡ Form-F.End = sym e ∙ x in cc))
    (fit_one u (At (otherwise u k)) (otherwise_node u checks k (block_ends u checks k (kind_here u k s stands ∙ ap kind_of e))))
ways_fit u checks k s stands (Form-F.ElseIf test) e =
    fit_more u (At (below u k)) (At (otherwise u k) ∷ []) (below_node u checks k s stands (λ x. let no : Form-F.ElseIf test ≡ Form-F.End = sym e ∙ x in cc))
    (fit_one u (At (otherwise u k)) (otherwise_node u checks k (parts_end u checks k (subst IsElse (sym (kind_here u k s stands ∙ ap kind_of e)) tt))))
ways_fit u checks k s stands Form-F.EndIf e = fit_one u (after u k) (after_fits u checks k s stands (λ x. let no : Form-F.EndIf ≡ Form-F.End = sym e ∙ x in cc))
ways_fit u checks k s stands (Form-F.LogicalIf test inner) e =
    fit_more u (Inside k) (after u k ∷ []) tt (fit_one u (after u k) (after_fits u checks k s stands (λ x. let no : Form-F.LogicalIf test inner ≡ Form-F.End = sym e ∙ x in cc)))
ways_fit u checks k s stands (Form-F.Do label name from to step) e = fit_one u (Test k) tt
ways_fit u checks k s stands form e = simple_fits u checks k form
    (λ no_end. after_fits u checks k s stands (λ x. no_end (sym e ∙ x)))
    (λ place label among. record { statement = s; stands = stands; place = place; among = ap (λ f. slice_get (jump_labels f) place) e ∙ among })

inner_fits : (u : List Stmt) → PassedChecks u → (k : ℕ) (s : Stmt) → slice_get u k ≡ Some s → (form : Form-F Form) → out-Form s.form ≡ form → AllFit u (inner_ways u k form)
inner_fits u checks k s stands (Form-F.LogicalIf test inner) e = simple_fits u checks k (out-Form inner)
    (λ _. after_fits u checks k s stands (λ x. let no : Form-F.LogicalIf test inner ≡ Form-F.End = sym e ∙ x in cc))
    (λ place label among. record { statement = s; stands = stands; place = place; among = ap (λ f. slice_get (jump_labels f) place) e ∙ among })
inner_fits u checks k s stands _ e = fit_none u

at_fits : (u : List Stmt) → PassedChecks u → (k : ℕ) (o : Option Stmt) → slice_get u k ≡ o → AllFit u (elim o [ None ↦ [] | Some s ↦ ways u k (out-Form s.form) ])
at_fits u checks k None e = fit_none u
at_fits u checks k (Some s) e = ways_fit u checks k s e (out-Form s.form) refl

inside_fits : (u : List Stmt) → PassedChecks u → (k : ℕ) (o : Option Stmt) → slice_get u k ≡ o → AllFit u (elim o [ None ↦ [] | Some s ↦ inner_ways u k (out-Form s.form) ])
inside_fits u checks k None e = fit_none u
inside_fits u checks k (Some s) e = inner_fits u checks k s e (out-Form s.form) refl

follow_fits : (u : List Stmt) → PassedChecks u → (p : Point) → AllFit u (follow u p)
follow_fits u checks (At k) = at_fits u checks k (slice_get u k) refl
follow_fits u checks (Inside k) = inside_fits u checks k (slice_get u k) refl
follow_fits u checks (Test d) = tested_by u checks d (has_range u d) refl
follow_fits u checks (Advance d) = tested_by u checks d (has_range u d) refl

leads_fits : (u : List Stmt) → PassedChecks u → (j : ℕ) (p : Point) → Leads u j p → Fits u p → IsNode u j
leads_fits u checks j p (n.begins at) fits = subst (Fits u) at fits
leads_fits u checks j p (n.goes {q = q} way between among leads) fits = leads_fits u checks j q leads ((follow_fits u checks p).each way q among)

pub followers_are_nodes : (u : List Stmt) → PassedChecks u → (k j : ℕ) → MayFollow u k j → IsNode u j
followers_are_nodes u checks k j may = leads_fits u checks j may.point may.leads ((follow_fits u checks (At k)).each may.way may.point may.follows)

pub leads_to_nodes : (u : List Stmt) (next : List (List ℕ)) → n.IsNextOfEach u next → PassedChecks u → c.LeadToNodes u next
leads_to_nodes u next is checks k js stands j among = followers_are_nodes u checks k j ((is.followers k js stands j).0 among)

pub follow_nodes : (u : List Stmt) → PassedChecks u → (p : Point) (way j : ℕ) → slice_get (follow u p) way ≡ Some (At j) → IsNode u j
follow_nodes u checks p way j among = (follow_fits u checks p).each way (At j) among

pub first_node : (u : List Stmt) → PassedChecks u → IsNode u (first u)
first_node u checks =
    let within : length u - 1 < length u = slice_get_within u (length u - 1) checks.last checks.stands in
    let executable : is_executable (kind_at u (length u - 1)) ≡ true = ap is_executable (kind_here u (length u - 1) checks.last checks.stands ∙ ap kind_of checks.end) in
    coming_node u 0 u refl (parts_end u checks) (length u - 1) (omega arith) within executable
