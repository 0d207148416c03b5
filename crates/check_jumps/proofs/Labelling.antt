-- Labels that stand nowhere or twice, and last statements that end no DO.
use Rattle.std.proofs.Common.{◌≡◌, ℕ, zero, suc, ◌+◌, ◌<◌, ◌≤◌, ◌⊎◌, inl, inr, Bool, true, false, cond, ◌||◌, ◌&&◌, ◌==◌, nat_lt, List, ◌∷◌, Some, length, get_or, slice_get, refl, sym, ◌∙◌, ap, subst, arith, ⊎_elim}
use Rattle.std.proofs.lemmas.Bool.{cases_lt, cases_eq}
use Rattle.std.proofs.lemmas.Bool.Decides.{nat_tests}
use Rattle.std.proofs.lemmas.Option.{slice_get_within, slice_get-get_or}
use Rattle.f77_tree.specs.declared.form.Form.{out-Form}
use Rattle.f77_tree.specs.declared.unit.Stmt.{Stmt}
use Rattle.f77_flow.specs.Kinds.{kind_of, kind_at}
use Rattle.f77_flow.specs.Labels.{target, last_of}
use Rattle.f77_flow.specs.Graph.{ends_at, ending_in}
use Rattle.f77_flow.specs.Tables.{innermost}
use Rattle.f77_flow.specs.Checks.{jump_labels, JumpsNowhere, RepeatsLabel, EndsNoLoop, EndsLoopBadly}
use Rattle.f77_flow.proofs.Nodes.{kind_here}
use Rattle.f77_flow.proofs.Ending.{ends_here, ends_elsewhere}
use Rattle.check_jumps.specs.Telling.{Tells}
use Rattle.check_jumps.specs.Labels.{LeadsNowhere, Stands}
use Rattle.check_jumps.proofs.Chains.{tells_less, tells_same, tells_either}
use Rattle.check_jumps.proofs.Spanning.{range_within}
use Rattle.check_jumps.proofs.Crossing.{less_range}

same_number : (a b : ℕ) → Some a ≡ Some b → a ≡ b
same_number a b e = cc

same_statement : (a b : Stmt) → Some a ≡ Some b → a ≡ b
same_statement a b e = cc

-- ---- labels of a jump

pub nowhere_none : (u : List Stmt) (labels : List ℕ) → LeadsNowhere u labels 0 → ⊥
nowhere_none u labels leads = omega (arith, leads.early)

pub nowhere_here : (u : List Stmt) (labels : List ℕ) (i : ℕ) → i < length labels → length u ≤ target u (get_or labels i 0) → LeadsNowhere u labels (length labels)
nowhere_here u labels i small far = record { place = i; label = get_or labels i 0; early = small; among = slice_get-get_or labels i 0 small; nowhere = far }

pub nowhere_more : (u : List Stmt) (labels : List ℕ) (i : ℕ) → i < length labels → target u (get_or labels i 0) < length u → (LeadsNowhere u labels i → ⊥) → LeadsNowhere u labels (i + 1) → ⊥
nowhere_more u labels i small near before leads = ⊎_elim
    (λ (e : leads.place ≡ i).
    let label : leads.label ≡ get_or labels i 0 = same_number leads.label (get_or labels i 0) (sym leads.among ∙ (ap (slice_get labels) e ∙ slice_get-get_or labels i 0 small)) in
    omega (arith, near, leads.nowhere, ap (target u) label))
    (λ (ne : leads.place ≡ i → ⊥). before (record { place = leads.place; label = leads.label; early = omega (arith, leads.early); among = leads.among; nowhere = leads.nowhere }))
    (cases_eq leads.place i)

pub nowhere_by : (u : List Stmt) (k : ℕ) (s : Stmt) (labels : List ℕ) (b : Bool) → slice_get u k ≡ Some s → labels ≡ jump_labels (out-Form s.form) → Tells b (LeadsNowhere u labels (length labels)) → Tells b (JumpsNowhere u k)
nowhere_by u k s labels b stands same tells = tells_same b (LeadsNowhere u labels (length labels)) (JumpsNowhere u k) to from tells
  where
    to : LeadsNowhere u labels (length labels) → JumpsNowhere u k
    to leads = record { label = leads.label; jumps = record { statement = s; stands = stands; place = leads.place; among = subst (λ ls. slice_get ls leads.place ≡ Some leads.label) same leads.among }; nowhere = leads.nowhere }

    from : JumpsNowhere u k → LeadsNowhere u labels (length labels)
    from jumps =
        let one : jumps.jumps.statement ≡ s = same_statement jumps.jumps.statement s (sym jumps.jumps.stands ∙ stands) in
        let among : slice_get labels jumps.jumps.place ≡ Some jumps.label = ap (λ ls. slice_get ls jumps.jumps.place) same ∙ (ap (λ (t : Stmt). slice_get (jump_labels (out-Form t.form)) jumps.jumps.place) (sym one) ∙ jumps.jumps.among) in
        record { place = jumps.jumps.place; label = jumps.label; early = slice_get_within labels jumps.jumps.place jumps.label among; among = among; nowhere = jumps.nowhere }

-- ---- labels that stood before

pub stands_none : (u : List Stmt) (label : ℕ) (b : Bool) → b ≡ false → Tells b (Stands u 0 label)
stands_none u label b e = subst (λ x. Tells x (Stands u 0 label)) (sym e) (λ stood. omega (arith, stood.early))

tells_and : (b d : Bool) (P Q : Type 0) → Tells b P → Tells d Q → Tells (b && d) (P × Q)
tells_and true true P Q h g = (h, g)
tells_and true false P Q h g = λ x. g x.1
tells_and false d P Q h g = λ x. h x.0

told_equal : (b : Bool) (a c : ℕ) → (a == c) ≡ b → Tells b (a ≡ c)
told_equal true a c e = grind (arith, nat_tests)
told_equal false a c e = λ same. grind (arith, nat_tests)

tells_equal : (a c : ℕ) → Tells (a == c) (a ≡ c)
tells_equal a c = told_equal (a == c) a c refl

pub stands_more : (u : List Stmt) (k q : ℕ) (s : Stmt) (old new : Bool) → slice_get u k ≡ Some s → new ≡ ((nat_lt 0 s.label && q == s.label) || old) → Tells old (Stands u k q) → Tells new (Stands u (k + 1) q)
stands_more u k q s old new stands e tells = subst (λ b. Tells b (Stands u (k + 1) q)) (sym e)
    (tells_same ((nat_lt 0 s.label && q == s.label) || old) (((0 < s.label) × (q ≡ s.label)) ⊎ Stands u k q) (Stands u (k + 1) q) to from
    (tells_either (nat_lt 0 s.label && q == s.label) old ((0 < s.label) × (q ≡ s.label)) (Stands u k q)
    (tells_and (nat_lt 0 s.label) (q == s.label) (0 < s.label) (q ≡ s.label) (tells_less 0 s.label) (tells_equal q s.label)) tells))
  where
    to : ((0 < s.label) × (q ≡ s.label)) ⊎ Stands u k q → Stands u (k + 1) q
    to (inl here) = record { place = k; statement = s; early = omega arith; stands = stands; same = sym here.1; labelled = λ z. omega (arith, here.0, here.1, z) }
    to (inr stood) = record { place = stood.place; statement = stood.statement; early = omega (arith, stood.early); stands = stood.stands; same = stood.same; labelled = stood.labelled }

    from : Stands u (k + 1) q → ((0 < s.label) × (q ≡ s.label)) ⊎ Stands u k q
    from stood = ⊎_elim
        (λ (e : stood.place ≡ k).
        let one : stood.statement ≡ s = same_statement stood.statement s (sym stood.stands ∙ (ap (slice_get u) e ∙ stands)) in
        let label : q ≡ s.label = sym stood.same ∙ ap (λ (t : Stmt). t.label) one in
        inl (⊎_elim (λ (above : 0 < s.label). above) (λ (zero_is : s.label ≤ 0). absurd (stood.labelled (omega arith))) (cases_lt 0 s.label), label))
        (λ (ne : stood.place ≡ k → ⊥). inr (record { place = stood.place; statement = stood.statement; early = omega (arith, stood.early); stands = stood.stands; same = stood.same; labelled = stood.labelled }))
        (cases_eq stood.place k)

pub repeats_by : (u : List Stmt) (k : ℕ) (s : Stmt) (old b : Bool) → slice_get u k ≡ Some s → b ≡ (nat_lt 0 s.label && old) → Tells old (Stands u k s.label) → Tells b (RepeatsLabel u k)
repeats_by u k s old b stands e tells = subst (λ x. Tells x (RepeatsLabel u k)) (sym e)
    (tells_same (nat_lt 0 s.label && old) ((0 < s.label) × Stands u k s.label) (RepeatsLabel u k) to from
    (tells_and (nat_lt 0 s.label) old (0 < s.label) (Stands u k s.label) (tells_less 0 s.label) tells))
  where
    to : (0 < s.label) × Stands u k s.label → RepeatsLabel u k
    to h = record { before = h.1.place; earlier = h.1.early; one = h.1.statement; other = s; stands = h.1.stands; again = stands; same = h.1.same; labelled = λ z. omega (arith, h.0, z) }

    from : RepeatsLabel u k → (0 < s.label) × Stands u k s.label
    from r =
        let one : r.other ≡ s = same_statement r.other s (sym r.again ∙ stands) in
        let label : r.other.label ≡ s.label = ap (λ (t : Stmt). t.label) one in (
          ⊎_elim (λ (above : 0 < s.label). above) (λ (zero_is : s.label ≤ 0). absurd (r.labelled (omega arith))) (cases_lt 0 s.label),
          record { place = r.before; statement = r.one; early = r.earlier; stands = r.stands; same = r.same ∙ label; labelled = λ z. r.labelled (label ∙ z) },
        )

-- ---- last statements

chosen : (b : Bool) (d n : ℕ) (ds : List ℕ) (P : Type 0) → (b ≡ true → P) → (b ≡ false → get_or ds 0 n < n → P) → get_or (cond b (d ∷ ds) ds) 0 n < n → P
chosen true d n ds P here there small = here refl
chosen false d n ds P here there small = there refl small

last_found : (u : List Stmt) (k m : ℕ) → k < length u → get_or (ending_in u k m) 0 (length u) < length u → (d : ℕ) × (last_of u d ≡ k)
last_found u k zero within small = absurd (omega arith)
last_found u k (suc d) within small = chosen (ends_at u k d) d (length u) (ending_in u k d) ((e : ℕ) × (last_of u e ≡ k))
    (λ is. (d, ⊎_elim (λ (e : last_of u d ≡ k). e) (λ (ne : last_of u d ≡ k → ⊥). let isnt : true ≡ false = sym is ∙ ends_elsewhere u k d ne in cc) (cases_eq (last_of u d) k)))
    (λ isnt rest. last_found u k d within rest)
    small

first_small : (b : Bool) (d n : ℕ) (ds : List ℕ) → d < n → (b ≡ false → get_or ds 0 n < n) → get_or (cond b (d ∷ ds) ds) 0 n < n
first_small true d n ds small rest = small
first_small false d n ds small rest = rest refl

last_among : (u : List Stmt) (k m d : ℕ) → m ≤ length u → d < m → last_of u d ≡ k → k < length u → get_or (ending_in u k m) 0 (length u) < length u
last_among u k zero d most small e within = absurd (omega arith)
last_among u k (suc c) d most small e within = first_small (ends_at u k c) c (length u) (ending_in u k c) (omega arith)
    (λ isnt. ⊎_elim (λ (same : d ≡ c). let is : true ≡ false = sym (ends_here u k c (ap (last_of u) (sym same) ∙ e) within) ∙ isnt in cc) (λ (ne : d ≡ c → ⊥). last_among u k c d (omega arith) (omega arith) e within) (cases_eq d c))

pub no_last_here : (u : List Stmt) (k : ℕ) → length u ≤ innermost u k → EndsLoopBadly u k → ⊥
no_last_here u k far bad =
    let within : k < length u = slice_get_within u k bad.statement bad.stands in
    omega (arith, far, last_among u k (length u) bad.loop (omega arith) (range_within u bad.loop (less_range u bad.loop (omega (arith, bad.last)))) bad.last within)

pub bad_by : (u : List Stmt) (k : ℕ) (s : Stmt) (b : Bool) → slice_get u k ≡ Some s → innermost u k < length u → Tells b (EndsNoLoop (out-Form s.form) (kind_of (out-Form s.form))) → Tells b (EndsLoopBadly u k)
bad_by u k s b stands small tells = tells_same b (EndsNoLoop (out-Form s.form) (kind_of (out-Form s.form))) (EndsLoopBadly u k) to from tells
  where
    to : EndsNoLoop (out-Form s.form) (kind_of (out-Form s.form)) → EndsLoopBadly u k
    to bad =
        let found = last_found u k (length u) (slice_get_within u k s stands) small in
        record { loop = found.0; statement = s; stands = stands; last = found.1; bad = subst (EndsNoLoop (out-Form s.form)) (sym (kind_here u k s stands)) bad }

    from : EndsLoopBadly u k → EndsNoLoop (out-Form s.form) (kind_of (out-Form s.form))
    from ends =
        let one : ends.statement ≡ s = same_statement ends.statement s (sym ends.stands ∙ stands) in
        subst (EndsNoLoop (out-Form s.form)) (kind_here u k s stands) (subst (λ (t : Stmt). EndsNoLoop (out-Form t.form) (kind_at u k)) one ends.bad)
