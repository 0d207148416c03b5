-- How lists of what begins grow, and what the DOs that end at a statement add.
use Rattle.std.proofs.Common.{◌≡◌, ℕ, zero, suc, ◌+◌, ◌<◌, ◌≤◌, ◌==◌, ◌&&◌, ◌⊎◌, inl, inr, ⊎_elim, Bool, true, false, cond, nat_lt, Option, None, Some, List, [], ◌∷◌, ◌++◌, length, slice_get, map, take, drop, get_or, refl, sym, ◌∙◌, ap, subst, arith, append_assoc, append-nil}
use Rattle.std.proofs.lemmas.List.Elements.{All-append, All-nil}
use Rattle.std.proofs.lemmas.List.{map-append, take_more}
use Rattle.std.proofs.lemmas.Option.{slice_get_past}
use Rattle.std.proofs.lemmas.Bool.{cases_lt}
use Rattle.std.proofs.lemmas.Bool.Decides.{nat_tests}
use Rattle.f77_tree.specs.declared.expr.Expr.{Expr}
use Rattle.f77_tree.specs.declared.form.Form.{Form, out-Form}
use Rattle.f77_tree.specs.declared.form.Form.TheOpen.{Form-F}
use Rattle.f77_tree.specs.declared.unit.Stmt.{Stmt}
use Rattle.f77_flow.specs.declared.kinds.Kind.{Kind}
use Rattle.f77_flow.specs.declared.kinds.Kind.TheVariants.{Declaration, Do}
use Rattle.f77_flow.specs.Kinds.{kind}
use Rattle.f77_flow.specs.Labels.{first_with, has_label, target, last_of, has_range}
use Rattle.f77_flow.specs.Blocks.{below}
use Rattle.f77_flow.specs.Graph.{Point, At, Inside, Advance, ends_at, ending_in, advance_or, leaving, tested, simple_ways, inner_ways, follow}
use Rattle.f77_flow.specs.Next as n
use Rattle.f77_flow.specs.Next.{Begin, EachBegins, IsBetween}
use Rattle.f77_flow.specs.Tables.{inner_in, outer}
use Rattle.f77_flow.specs.Adding.{Adds}

each_append : {u : List Stmt} {ps qs : List Point} {js ks : List ℕ} → EachBegins u ps js → EachBegins u qs ks → EachBegins u (ps ++ qs) (js ++ ks)
each_append {u} {ps} {qs} {js} {ks} (n.done p j) rest = rw (p, j) rest
each_append {u} {ps} {qs} {js} {ks} (n.more {is = is} {ks = ks'} p one others j) rest =
    n.more (ap (λ xs. xs ++ qs) p) one (each_append others rest) (ap (λ xs. xs ++ ks) j ∙ append_assoc is ks' ks)

pub adds_none : (u : List Stmt) (old : List ℕ) → Adds u [] old old
adds_none u old = record { added = []; begin = n.done refl refl; within = All-nil _; is = sym (append-nil old) }

pub adds_append : (u : List Stmt) (ps qs : List Point) (old mid new : List ℕ) → Adds u ps old mid → Adds u qs mid new → Adds u (ps ++ qs) old new
adds_append u ps qs old mid new a b = record {
  added = a.added ++ b.added;
  begin = each_append a.begin b.begin;
  within = All-append (λ j. j ≤ length u) a.added b.added a.within b.within;
  is = b.is ∙ (ap (λ xs. xs ++ b.added) a.is ∙ append_assoc old a.added b.added);
}

pub adds_at : (u : List Stmt) (j : ℕ) (old : List ℕ) → j ≤ length u → Adds u (At j ∷ []) old (old ++ j ∷ [])
adds_at u j old h = record {
  added = j ∷ [];
  begin = n.more refl (n.at j refl refl) (n.done refl refl) refl;
  within = λ i d small. let e : i ≡ 0 = omega arith in subst (λ x. get_or (j ∷ []) x d ≤ length u) (sym e) h;
  is = refl;
}

pub adds_push : (u : List Stmt) (j i : ℕ) (old new : List ℕ) → i ≡ j → i ≤ length u → new ≡ old ++ i ∷ [] → Adds u (At j ∷ []) old new
adds_push u j i old new e h is = rw is (subst (λ x. Adds u (At x ∷ []) old (old ++ i ∷ [])) e (adds_at u i old h))

pub adds_then : (u : List Stmt) (p : Point) (qs : List Point) (old mid new : List ℕ) → Adds u (p ∷ []) old mid → Adds u qs mid new → Adds u (p ∷ qs) old new
adds_then u p qs old mid new a b = adds_append u (p ∷ []) qs old mid new a b

-- what lies between is passed through
pub adds_between : (u : List Stmt) (p : Point) (old new : List ℕ) → IsBetween p → Adds u (follow u p) old new → Adds u (p ∷ []) old new
adds_between u p old new between a = record {
  added = a.added;
  begin = n.more refl (n.between between a.begin) (n.done refl refl) (sym (append-nil a.added));
  within = a.within;
  is = a.is;
}

-- the statement of a logical IF
pub adds_inside : (u : List Stmt) (k : ℕ) (s : Stmt) (test : Expr) (inner : Form) (old new : List ℕ) → slice_get u k ≡ Some s → out-Form s.form ≡ Form-F.LogicalIf test inner → Adds u (simple_ways u k (out-Form inner)) old new → Adds u (Inside k ∷ []) old new
adds_inside u k s test inner old new stands e a = adds_between u (Inside k) old new tt
    (subst (λ ps. Adds u ps old new) (sym (ap (λ o. elim o [ None ↦ [] | Some t ↦ inner_ways u k (out-Form t.form) ]) stands ∙ ap (inner_ways u k) e)) a)

-- the first DO of those that end at k
pub data Ending (u : List Stmt) (k m : ℕ) : Type 0 where
  none : ending_in u k m ≡ [] → Ending u k m
  some : (d : ℕ) → ending_in u k m ≡ d ∷ ending_in u k d → last_of u d ≡ k → d < m → Ending u k m

end_is : (a k n : ℕ) → (a == k && nat_lt k n) ≡ true → a ≡ k
end_is a k n h = grind (arith, nat_tests)

is_within : (a n : ℕ) → a < n → nat_lt a n ≡ true
is_within a n h = grind (arith, nat_tests)

is_without : (a n : ℕ) → n ≤ a → nat_lt a n ≡ false
is_without a n h = grind (arith, nat_tests)

ending_later : (u : List Stmt) (k d : ℕ) → ending_in u k (suc d) ≡ ending_in u k d → Ending u k d → Ending u k (suc d)
ending_later u k d e (none p) = none (e ∙ p)
ending_later u k d e (some x p q r) = some x (e ∙ p) q (omega (arith, r))

ending_more : (u : List Stmt) (k d : ℕ) (b : Bool) → ends_at u k d ≡ b → Ending u k d → Ending u k (suc d)
ending_more u k d true e rest = some d (ap (λ b. cond b (d ∷ ending_in u k d) (ending_in u k d)) e) (end_is (last_of u d) k (length u) e) (omega arith)
ending_more u k d false e rest = ending_later u k d (ap (λ b. cond b (d ∷ ending_in u k d) (ending_in u k d)) e) rest

pub ending : (u : List Stmt) (k m : ℕ) → Ending u k m
ending u k zero = none refl
ending u k (suc d) = ending_more u k d (ends_at u k d) refl (ending u k d)

-- no DO stands behind the last statement
nothing_behind : (u : List Stmt) (d : ℕ) → length u ≤ d → last_of u d ≡ length u
nothing_behind u d h =
    let find : ℕ → ℕ = λ label. first_with (has_label label) (suc d) (drop (suc d) u) in
    let last : Kind → ℕ = λ v. elim v [ Do label ↦ find label | _ ↦ length u ] in
    let at : Option Stmt → Kind = λ o. elim o [ None ↦ Declaration | Some s ↦ kind s ] in
    ap (λ o. last (at o)) (slice_get_past u d h)

pub stands_within : (u : List Stmt) (d k : ℕ) → last_of u d ≡ k → k < length u → d < length u
stands_within u d k e h = ⊎_elim (λ (yes : d < length u). yes) (λ (no : length u ≤ d). absurd (omega (arith, nothing_behind u d no))) (cases_lt d (length u))

-- the test of a DO that ends at `last`
pub adds_tested : (u : List Stmt) (d last : ℕ) (old new : List ℕ) → last_of u d ≡ last → last < length u → below u d ≤ length u → Adds u (advance_or u (ending_in u last d) last ∷ []) (old ++ below u d ∷ []) new → Adds u (tested u d) old new
adds_tested u d last old new e small h a =
    let yes : has_range u d ≡ true = is_within (last_of u d) (length u) (omega arith) in
    subst (λ ps. Adds u ps old new) (sym (ap (λ b. cond b (At (below u d) ∷ leaving u d ∷ []) []) yes))
    (adds_append u (At (below u d) ∷ []) (leaving u d ∷ []) old (old ++ below u d ∷ []) new (adds_at u (below u d) old h)
    (subst (λ k. Adds u (advance_or u (ending_in u k d) k ∷ []) (old ++ below u d ∷ []) new) (sym e) a))

pub adds_tested_by : (u : List Stmt) (d last i : ℕ) (old mid new : List ℕ) → last ≡ last_of u d → last < length u → i ≡ below u d → i ≤ length u → mid ≡ old ++ i ∷ []
    → (outer u d ≡ inner_in u last d → Adds u (advance_or u (ending_in u last d) last ∷ []) mid new) → Adds u (tested u d) old new
adds_tested_by u d last i old mid new e small b h is ended =
    adds_tested u d last old new (sym e) small (subst (λ x. x ≤ length u) b h)
    (subst (λ js. Adds u (advance_or u (ending_in u last d) last ∷ []) js new) (is ∙ ap (λ x. old ++ x ∷ []) b) (ended (ap (λ k. inner_in u k d) (sym e))))

pub adds_nowhere : (u : List Stmt) (d : ℕ) (old : List ℕ) → length u ≤ last_of u d → Adds u (tested u d) old old
adds_nowhere u d old h =
    let not : has_range u d ≡ false = is_without (last_of u d) (length u) h in
    subst (λ ps. Adds u ps old old) (sym (ap (λ b. cond b (At (below u d) ∷ leaving u d ∷ []) []) not)) (adds_none u old)

-- what is left to add, from the DO at d on, of what begins behind `last`
pub record Comes (u : List Stmt) (last m d : ℕ) (old now : List ℕ) : Type 0 where
  pub place : ℕ
  pub is : d ≡ inner_in u last place
  pub rest : (new : List ℕ) → Adds u (advance_or u (ending_in u last place) last ∷ []) now new → Adds u (advance_or u (ending_in u last m) last ∷ []) old new

pub comes_start : (u : List Stmt) (last m d : ℕ) (old : List ℕ) → d ≡ inner_in u last m → Comes u last m d old old
comes_start u last m d old is = record { place = m; is = is; rest = λ new a. a }

next_of : (u : List Stmt) (last m d place : ℕ) (old now : List ℕ) → d ≡ inner_in u last place → d < length u → last < length u → below u d ≤ length u
    → ((new : List ℕ) → Adds u (advance_or u (ending_in u last place) last ∷ []) now new → Adds u (advance_or u (ending_in u last m) last ∷ []) old new)
    → Ending u last place → Comes u last m (outer u d) old (now ++ below u d ∷ [])
next_of u last m d place old now is small within h rest (none p) = absurd (omega (arith, is ∙ ap (λ ds. get_or ds 0 (length u)) p))
next_of u last m d place old now is small within h rest (some x p q r) =
    let at : d ≡ x = is ∙ ap (λ ds. get_or ds 0 (length u)) p in
    let ends : last_of u d ≡ last = ap (last_of u) at ∙ q in
    let first : ending_in u last place ≡ d ∷ ending_in u last d = subst (λ y. ending_in u last place ≡ y ∷ ending_in u last y) (sym at) p in
    record {
      place = d;
      is = ap (λ k. get_or (ending_in u k d) 0 (length u)) ends;
      rest = λ new a. rest new (subst (λ ds. Adds u (advance_or u ds last ∷ []) now new) (sym first)
          (adds_between u (Advance d) now new tt (adds_tested u d last now new ends within h a)));
    }

pub comes_next : (u : List Stmt) (last m d : ℕ) (old now : List ℕ) → Comes u last m d old now → d < length u → last < length u → below u d ≤ length u → Comes u last m (outer u d) old (now ++ below u d ∷ [])
comes_next u last m d old now c small within h = next_of u last m d c.place old now c.is small within h c.rest (ending u last c.place)

done_of : (u : List Stmt) (last m d place : ℕ) (old now : List ℕ) → d ≡ inner_in u last place → length u ≤ d → last < length u → below u last ≤ length u
    → ((new : List ℕ) → Adds u (advance_or u (ending_in u last place) last ∷ []) now new → Adds u (advance_or u (ending_in u last m) last ∷ []) old new)
    → Ending u last place → Adds u (advance_or u (ending_in u last m) last ∷ []) old (now ++ below u last ∷ [])
done_of u last m d place old now is large within h rest (none p) =
    rest (now ++ below u last ∷ []) (subst (λ ds. Adds u (advance_or u ds last ∷ []) now (now ++ below u last ∷ [])) (sym p) (adds_at u (below u last) now h))
done_of u last m d place old now is large within h rest (some x p q r) =
    absurd (omega (arith, is ∙ ap (λ ds. get_or ds 0 (length u)) p, stands_within u x last q within))

pub comes_done : (u : List Stmt) (last m d i : ℕ) (old now new : List ℕ) → Comes u last m d old now → length u ≤ d → last < length u → i ≡ below u last → i ≤ length u → new ≡ now ++ i ∷ [] → Adds u (advance_or u (ending_in u last m) last ∷ []) old new
comes_done u last m d i old now new c large within e h is = rw (is, e) (done_of u last m d c.place old now c.is large within (subst (λ x. x ≤ length u) e h) c.rest (ending u last c.place))

-- the next DO around one stands above it
inner_above : (u : List Stmt) (k m : ℕ) → Ending u k m → (inner_in u k m < m) ⊎ (inner_in u k m ≡ length u)
inner_above u k m (none p) = inr (ap (λ ds. get_or ds 0 (length u)) p)
inner_above u k m (some x p q r) = inl (subst (λ y. y < m) (sym (ap (λ ds. get_or ds 0 (length u)) p)) r)

pub outer_above : (u : List Stmt) (d : ℕ) → (outer u d < d) ⊎ (outer u d ≡ length u)
outer_above u d = inner_above u (last_of u d) d (ending u (last_of u d) d)

pub adds_target : (u : List Stmt) (labels old mid : List ℕ) (i label : ℕ) → i < length labels → label ≡ get_or labels i 0 → target u label ≤ length u → Adds u (map (λ l. At (target u l)) (take i labels)) old mid → Adds u (map (λ l. At (target u l)) (take (i + 1) labels)) old (mid ++ target u label ∷ [])
adds_target u labels old mid i label small e h a =
    let point : ℕ → Point = λ l. At (target u l) in
    let one = subst (λ l. Adds u (map point (take i labels) ++ At (target u l) ∷ []) old (mid ++ target u label ∷ [])) e (adds_append u (map point (take i labels)) (At (target u label) ∷ []) old mid (mid ++ target u label ∷ []) a (adds_at u (target u label) mid h)) in
    subst (λ ls. Adds u ls old (mid ++ target u label ∷ [])) (sym (ap (map point) (take_more labels i 0 small) ∙ map-append point (take i labels) (get_or labels i 0 ∷ []))) one

falls_above : (n d e : ℕ) → d < n → e < d → cond (nat_lt e n) (suc e) 0 < cond (nat_lt d n) (suc d) 0
falls_above n d e small h = grind (arith, nat_tests)

falls_off : (n d e : ℕ) → d < n → e ≡ n → cond (nat_lt e n) (suc e) 0 < cond (nat_lt d n) (suc d) 0
falls_off n d e small h = grind (arith, nat_tests)

-- the measure of a walk from a DO to those around it
pub falls : (u : List Stmt) (d e : ℕ) → d < length u → e ≡ outer u d → cond (nat_lt e (length u)) (suc e) 0 < cond (nat_lt d (length u)) (suc d) 0
falls u d e small is = ⊎_elim (λ (h : outer u d < d). falls_above (length u) d e small (omega (arith, is, h))) (λ (h : outer u d ≡ length u). falls_off (length u) d e small (is ∙ h)) (outer_above u d)
