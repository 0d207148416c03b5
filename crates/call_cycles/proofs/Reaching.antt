-- What a search finds is what chains lead to from its start.
use Rattle.std.proofs.Common.{◌≡◌, ℕ, zero, suc, ◌+◌, ◌<◌, ◌≤◌, List, [], ◌∷◌, ◌++◌, Bool, true, false, Some, None, length, map, fold, refl, sym, subst, ap, ◌∙◌, ◌⊎◌, inl, inr, arith, if◌then◌else◌}
use Rattle.std.specs.declared.option.Option.{Option}
use Rattle.std.specs.Prelude.{nat_lt, unwrap_or, slice_set, slice_index_or}
use Rattle.std.specs.List.{slice_get}
use Rattle.std.proofs.lemmas.Bool.Decides.{nat_tests}
use Rattle.std.proofs.lemmas.Option.{slice_get_within, slice_get-get_or}
use Rattle.call_cycles.specs.declared.cycles.Edge.{Edge}
use Rattle.call_cycles.specs.Cycles.{Rows, Targets, Calls, Leads, here, by}
use Rattle.call_cycles.specs.Searching.{Search, mark, mark_target, visit, row_at, step, explore, blank, led_to}

pub some_is : {A : Type 0} (x y : A) → Some x ≡ Some y → x ≡ y
some_is x y e = cc

pub none_some : {A : Type 0} (x : A) → None ≡ Some x → ⊥
none_some x e = cc

-- ---- lists

abbrev unseen : List Bool → ℕ
unseen [] = 0
unseen (true ∷ s) = unseen s
unseen (false ∷ s) = suc (unseen s)

less_seen : (s : List Bool) (x : ℕ) → slice_get s x ≡ Some false → unseen s ≡ suc (unseen (slice_set s x true))
less_seen [] x e = absurd (none_some false e)
less_seen (true ∷ s) zero e = cc
less_seen (false ∷ s) zero e = refl
less_seen (true ∷ s) (suc x) e = less_seen s x e
less_seen (false ∷ s) (suc x) e = ap suc (less_seen s x e)

pub set_long : {A : Type 0} (s : List A) (x : ℕ) (a : A) → length (slice_set s x a) ≡ length s
set_long [] x a = refl
set_long (b ∷ s) zero a = refl
set_long (b ∷ s) (suc x) a = ap suc (set_long s x a)

set_here : (s : List Bool) (x : ℕ) (b : Bool) → slice_get s x ≡ Some b → slice_get (slice_set s x true) x ≡ Some true
set_here [] x b e = absurd (none_some b e)
set_here (a ∷ s) zero b e = refl
set_here (a ∷ s) (suc x) b e = set_here s x b e

set_kept : (s : List Bool) (x y : ℕ) → slice_get s y ≡ Some true → slice_get (slice_set s x true) y ≡ Some true
set_kept [] x y e = absurd (none_some true e)
set_kept (a ∷ s) zero zero e = refl
set_kept (a ∷ s) zero (suc y) e = e
set_kept (a ∷ s) (suc x) zero e = e
set_kept (a ∷ s) (suc x) (suc y) e = set_kept s x y e

set_new : (s : List Bool) (x y : ℕ) → slice_get (slice_set s x true) y ≡ Some true → (slice_get s y ≡ Some true) ⊎ (x ≡ y)
set_new [] x y e = absurd (none_some true e)
set_new (a ∷ s) zero zero e = inr refl
set_new (a ∷ s) zero (suc y) e = inl e
set_new (a ∷ s) (suc x) zero e = inl e
set_new (a ∷ s) (suc x) (suc y) e = elim (set_new s x y e) [ inl h ↦ inl h | inr h ↦ inr (ap suc h) ]

push_long : (q : List ℕ) (x : ℕ) → length (q ++ x ∷ []) ≡ suc (length q)
push_long [] x = refl
push_long (y ∷ q) x = ap suc (push_long q x)

pub push_kept : {A : Type 0} (q : List A) (x : A) (k : ℕ) (y : A) → slice_get q k ≡ Some y → slice_get (q ++ x ∷ []) k ≡ Some y
push_kept [] x k y e = absurd (none_some y e)
push_kept (z ∷ q) x zero y e = e
push_kept (z ∷ q) x (suc k) y e = push_kept q x k y e

pub push_last : {A : Type 0} (q : List A) (x : A) → slice_get (q ++ x ∷ []) (length q) ≡ Some x
push_last [] x = refl
push_last (z ∷ q) x = push_last q x

pub push_new : {A : Type 0} (q : List A) (x : A) (k : ℕ) (y : A) → slice_get (q ++ x ∷ []) k ≡ Some y → (slice_get q k ≡ Some y) ⊎ ((k ≡ length q) × (x ≡ y))
push_new [] x zero y e = inr (refl, some_is x y e)
push_new [] x (suc k) y e = absurd (none_some y e)
push_new (z ∷ q) x zero y e = inl e
push_new (z ∷ q) x (suc k) y e = elim (push_new q x k y e) [ inl h ↦ inl h | inr h ↦ inr (ap suc h.0, h.1) ]

all_unseen : (rows : Rows) → unseen (map (λ _. false) rows) ≡ length rows
all_unseen [] = refl
all_unseen (row ∷ rows) = ap suc (all_unseen rows)

blank_long : (rows : Rows) → length (map (λ _. false) rows) ≡ length rows
blank_long [] = refl
blank_long (row ∷ rows) = ap suc (blank_long rows)

none_seen : (rows : Rows) (x : ℕ) → slice_get (map (λ _. false) rows) x ≡ Some true → ⊥
none_seen [] x e = none_some true e
none_seen (row ∷ rows) zero e = not_true (some_is false true e)
  where
    not_true : false ≡ true → ⊥
    not_true h = cc
none_seen (row ∷ rows) (suc x) e = none_seen rows x e

-- ---- chains

pub one_more : (all : Rows) (x y m : ℕ) → Leads all x m → Calls all x y → Leads all y m
one_more all x y _ here c = by x y c here
one_more all x y _ (by m next d l) c = by m next d (one_more all x y next l c)

caller_inside : (all : Rows) (x y : ℕ) → Calls all x y → x < length all
caller_inside all x y c = slice_get_within all x c.row c.stands

pub chain_inside : (all : Rows) (x m : ℕ) → Leads all x m → x < length all → m < length all
chain_inside all x _ here h = h
chain_inside all x _ (by m next c l) h = caller_inside all m next c

module _ (all : Rows) (start : ℕ) where
  abbrev Reached : ℕ → Type 0
  Reached x = Leads all x start

  abbrev Flagged : Search → ℕ → Type 0
  Flagged s x = slice_get s.seen x ≡ Some true

  record Found (s : Search) (x : ℕ) : Type 0 where
    at : ℕ
    is : slice_get s.queue at ≡ Some x

  record Holds (i : ℕ) (s : Search) : Type 0 where
    total : unseen s.seen + length s.queue ≡ length all
    long : length s.seen ≡ length all
    sound : (x : ℕ) → Found s x → Reached x
    queued : (x : ℕ) → Flagged s x → Found s x
    flags : (x : ℕ) → Found s x → Flagged s x
    done : (q x y : ℕ) → q < i → slice_get s.queue q ≡ Some x → Calls all x y → y < length all → Flagged s y

  record Keeps (s t : Search) : Type 0 where
    flagged : (x : ℕ) → Flagged s x → Flagged t x
    queue : (q x : ℕ) → slice_get s.queue q ≡ Some x → slice_get t.queue q ≡ Some x
    longer : length s.queue ≤ length t.queue

  keeps_itself : (s : Search) → Keeps s s
  keeps_itself s = record { flagged = λ x h. h; queue = λ q x h. h; longer = omega arith }

  keeps_then : (s t u : Search) → Keeps s t → Keeps t u → Keeps s u
  keeps_then s t u h k = record { flagged = λ x f. k.flagged x (h.flagged x f); queue = λ q x f. k.queue q x (h.queue q x f); longer = omega (arith, h.longer, k.longer) }

  record Marked (i : ℕ) (s : Search) (x : ℕ) (t : Search) : Type 0 where
    holds : Holds i t
    keeps : Keeps s t
    flagged : x < length all → Flagged t x

  put : Search → ℕ → Search
  put s x = record { seen = slice_set s.seen x true; queue = s.queue ++ x ∷ [] }

  put_marks : (i : ℕ) (s : Search) (x : ℕ) → i ≤ length s.queue → Holds i s → Reached x → slice_get s.seen x ≡ Some false → Marked i s x (record { seen = slice_set s.seen x true; queue = s.queue ++ x ∷ [] })
  put_marks i s x w h r e = record {
    holds = record {
      total = omega (arith, h.total, less_seen s.seen x e, push_long s.queue x);
      long = set_long s.seen x true ∙ h.long;
      sound = λ y f. sound y f.at f.is;
      queued = queued;
      flags = λ y f. flags y f.at f.is;
      done = done;
    };
    keeps = record { flagged = λ y f. set_kept s.seen x y f; queue = λ q y f. push_kept s.queue x q y f; longer = omega (arith, push_long s.queue x) };
    flagged = λ _. set_here s.seen x false e;
  }
    where
      sound : (y k : ℕ) → slice_get (s.queue ++ x ∷ []) k ≡ Some y → Reached y
      sound y k f = elim (push_new s.queue x k y f) [ inl g ↦ h.sound y (record { at = k; is = g }) | inr g ↦ subst Reached g.1 r ]

      queued : (y : ℕ) → slice_get (slice_set s.seen x true) y ≡ Some true → Found (record { seen = slice_set s.seen x true; queue = s.queue ++ x ∷ [] }) y
      queued y f = elim (set_new s.seen x y f) [
        | inl g ↦ (let old = h.queued y g in record { at = old.at; is = push_kept s.queue x old.at y old.is })
        | inr g ↦ record { at = length s.queue; is = push_last s.queue x ∙ ap Some g }
      ]

      flags : (y k : ℕ) → slice_get (s.queue ++ x ∷ []) k ≡ Some y → slice_get (slice_set s.seen x true) y ≡ Some true
      flags y k f = elim (push_new s.queue x k y f) [
        | inl g ↦ set_kept s.seen x y (h.flags y (record { at = k; is = g }))
        | inr g ↦ subst (λ z. slice_get (slice_set s.seen x true) z ≡ Some true) g.1 (set_here s.seen x false e)
      ]

      done : (q y z : ℕ) → q < i → slice_get (s.queue ++ x ∷ []) q ≡ Some y → Calls all y z → z < length all → slice_get (slice_set s.seen x true) z ≡ Some true
      done q y z l f c b = elim (push_new s.queue x q y f) [
        | inl g ↦ set_kept s.seen x z (h.done q y z l g c b)
        | inr g ↦ absurd (omega (arith, l, w, g.0))
      ]

  marks : (i : ℕ) (s : Search) (x : ℕ) → i ≤ length s.queue → Holds i s → Reached x → Marked i s x (mark s x)
  marks i s x w h r = go (nat_lt x (length s.seen)) refl (slice_index_or s.seen x true) refl
    where
      outside : nat_lt x (length s.seen) ≡ false → length s.seen ≤ x
      outside e = grind (arith, nat_tests)

      inside : nat_lt x (length s.seen) ≡ true → x < length s.seen
      inside e = grind (arith, nat_tests)

      go : (a : Bool) → nat_lt x (length s.seen) ≡ a → (b : Bool) → slice_index_or s.seen x true ≡ b → Marked i s x (if a then (if b then s else record { seen = slice_set s.seen x true; queue = s.queue ++ x ∷ [] }) else s)
      go false e b f = record { holds = h; keeps = keeps_itself s; flagged = λ l. absurd (omega (arith, l, outside e, h.long)) }
      go true e true f = record { holds = h; keeps = keeps_itself s; flagged = λ _. slice_get-get_or s.seen x true (inside e) ∙ ap Some f }
      go true e false f = put_marks i s x w h r (slice_get-get_or s.seen x true (inside e) ∙ ap Some f)

  record Visited (i : ℕ) (s : Search) (row : List Edge) (t : Search) : Type 0 where
    holds : Holds i t
    keeps : Keeps s t
    flagged : (y : ℕ) → Targets row y → y < length all → Flagged t y

  marks_target : (i : ℕ) (s : Search) (e : Edge) (o : Option ℕ) → e.target ≡ o → i ≤ length s.queue → Holds i s → ((y : ℕ) → e.target ≡ Some y → Reached y) → Visited i s (e ∷ []) (mark_target s o)
  marks_target i s e None t w h r = record { holds = h; keeps = keeps_itself s; flagged = λ y g l. nothing y g.at g.edge g.stands g.leads }
    where
      nothing : (y k : ℕ) (d : Edge) → slice_get (e ∷ []) k ≡ Some d → d.target ≡ Some y → Flagged s y
      nothing y zero d f g = absurd (none_some y (sym t ∙ (ap (λ d. d.target) (some_is e d f) ∙ g)))
      nothing y (suc k) d f g = absurd (none_some d f)
  marks_target i s e (Some x) t w h r =
      let m = marks i s x w h (r x t) in
      record { holds = m.holds; keeps = m.keeps; flagged = λ y g l. this m y g.at g.edge g.stands g.leads l }
    where
      this : Marked i s x (mark s x) → (y k : ℕ) (d : Edge) → slice_get (e ∷ []) k ≡ Some d → d.target ≡ Some y → y < length all → Flagged (mark s x) y
      this m y zero d f g l =
          let same : x ≡ y = some_is x y (sym t ∙ (ap (λ d. d.target) (some_is e d f) ∙ g)) in
          subst (λ z. Flagged (mark s x) z) same (m.flagged (subst (λ z. z < length all) (sym same) l))
      this m y (suc k) d f g l = absurd (none_some d f)

  visits : (i : ℕ) (s : Search) (row : List Edge) → i ≤ length s.queue → Holds i s → ((y : ℕ) → Targets row y → Reached y) → Visited i s row (fold visit s row)
  visits i s [] w h r = record { holds = h; keeps = keeps_itself s; flagged = λ y g l. absurd (none_some g.edge g.stands) }
  visits i s (e ∷ row) w h r =
      let one = marks_target i s e e.target refl w h (λ y t. r y (record { at = 0; edge = e; stands = refl; leads = t })) in
      let rest = visits i (visit s e) row (omega (arith, w, one.keeps.longer)) one.holds (λ y t. r y (record { at = suc t.at; edge = t.edge; stands = t.stands; leads = t.leads })) in
      record { holds = rest.holds; keeps = keeps_then s (visit s e) (fold visit (visit s e) row) one.keeps rest.keeps; flagged = λ y t l. at one rest y t.at t.edge t.stands t.leads l }
    where
      at : Visited i s (e ∷ []) (visit s e) → Visited i (visit s e) row (fold visit (visit s e) row) → (y k : ℕ) (d : Edge) → slice_get (e ∷ row) k ≡ Some d → d.target ≡ Some y → y < length all → Flagged (fold visit (visit s e) row) y
      at one rest y zero d f g l = rest.keeps.flagged y (one.flagged y (record { at = 0; edge = e; stands = refl; leads = ap (λ d. d.target) (some_is e d f) ∙ g }) l)
      at one rest y (suc k) d f g l = rest.flagged y (record { at = k; edge = d; stands = f; leads = g }) l

  row_calls : (x y : ℕ) (o : Option (List Edge)) → slice_get all x ≡ o → Targets (unwrap_or o []) y → Calls all x y
  row_calls x y None e t = absurd (none_some t.edge t.stands)
  row_calls x y (Some row) e t = record { row = row; stands = e; targets = t }

  calls_row : (x y : ℕ) (o : Option (List Edge)) → slice_get all x ≡ o → Calls all x y → Targets (unwrap_or o []) y
  calls_row x y None e c = absurd (none_some c.row (sym e ∙ c.stands))
  calls_row x y (Some row) e c = subst (λ r. Targets r y) (some_is c.row row (sym c.stands ∙ e)) c.targets

  record Stepped (i : ℕ) (s t : Search) : Type 0 where
    holds : Holds (suc i) t
    keeps : Keeps s t

  steps : (i : ℕ) (s : Search) → Holds i s → (o : Option ℕ) → slice_get s.queue i ≡ o → Stepped i s (step all s o)
  steps i s h None e = record {
    holds = record { total = h.total; long = h.long; sound = h.sound; queued = h.queued; flags = h.flags; done = λ q x y l f c b. past q x y l f c b };
    keeps = keeps_itself s;
  }
    where
      split : (q : ℕ) → q < suc i → (q < i) ⊎ (q ≡ i)
      split q l = at q i l
        where
          at : (q i : ℕ) → q < suc i → (q < i) ⊎ (q ≡ i)
          at zero zero l = inr refl
          at zero (suc i) l = inl (omega arith)
          at (suc q) zero l = absurd (omega arith)
          at (suc q) (suc i) l = elim (at q i (omega arith)) [ inl h ↦ inl (omega arith) | inr h ↦ inr (ap suc h) ]

      past : (q x y : ℕ) → q < suc i → slice_get s.queue q ≡ Some x → Calls all x y → y < length all → Flagged s y
      past q x y l f c b = elim (split q l) [ inl g ↦ h.done q x y g f c b | inr g ↦ absurd (none_some x (sym e ∙ (ap (slice_get s.queue) (sym g) ∙ f))) ]
  steps i s h (Some x) e =
      let inside : i < length s.queue = slice_get_within s.queue i x e in
      let reached = h.sound x (record { at = i; is = e }) in
      let v = visits i s (row_at all x) (omega (arith, inside)) h (λ y t. one_more all x y start reached (row_calls x y (slice_get all x) refl t)) in
      record {
        holds = record { total = v.holds.total; long = v.holds.long; sound = v.holds.sound; queued = v.holds.queued; flags = v.holds.flags; done = λ q z y l f c b. past v q z y l f c b };
        keeps = v.keeps;
      }
    where
      at : (q i : ℕ) → q < suc i → (q < i) ⊎ (q ≡ i)
      at zero zero l = inr refl
      at zero (suc i) l = inl (omega arith)
      at (suc q) zero l = absurd (omega arith)
      at (suc q) (suc i) l = elim (at q i (omega arith)) [ inl h ↦ inl (omega arith) | inr h ↦ inr (ap suc h) ]

      past : Visited i s (row_at all x) (fold visit s (row_at all x)) → (q z y : ℕ) → q < suc i → slice_get (fold visit s (row_at all x)).queue q ≡ Some z → Calls all z y → y < length all → Flagged (fold visit s (row_at all x)) y
      past v q z y l f c b = elim (at q i l) [
        | inl g ↦ v.holds.done q z y g f c b
        | inr g ↦
            (let same : x ≡ z = some_is x z (sym (v.keeps.queue i x e) ∙ (ap (slice_get (fold visit s (row_at all x)).queue) (sym g) ∙ f)) in
            v.flagged y (calls_row x y (slice_get all x) refl (subst (λ k. Calls all k y) (sym same) c)) b)
      ]

  record Explored (s t : Search) : Type 0 where
    holds : Holds (length all) t
    keeps : Keeps s t

  explores : (turns i : ℕ) (s : Search) → Holds i s → i + turns ≡ length all → Explored s (explore all turns i s)
  explores zero i s h e = record { holds = subst (λ n. Holds n s) (omega (arith, e)) h; keeps = keeps_itself s }
  explores (suc turns) i s h e =
      let one = steps i s h (slice_get s.queue i) refl in
      let rest = explores turns (suc i) (step all s (slice_get s.queue i)) one.holds (omega (arith, e)) in
      record { holds = rest.holds; keeps = keeps_then s (step all s (slice_get s.queue i)) (explore all turns (suc i) (step all s (slice_get s.queue i))) one.keeps rest.keeps }

  starts : Holds 0 (blank all)
  starts = record {
    total = omega (arith, all_unseen all);
    long = blank_long all;
    sound = λ x f. absurd (none_some x f.is);
    queued = λ x f. absurd (none_seen all x f);
    flags = λ x f. absurd (none_some x f.is);
    done = λ q x y l f c b. absurd (none_some x f);
  }

  closed : (s : Search) → Holds (length all) s → (x m : ℕ) → Leads all x m → x < length all → Flagged s m → Flagged s x
  closed s h x _ here l f = f
  closed s h x _ (by m next c d) l f =
      let at = h.queued m f in
      let inside : at.at < length s.queue = slice_get_within s.queue at.at m at.is in
      let n : next < length all = chain_inside all x next d l in
      closed s h x next d l (h.done at.at m next (omega (arith, inside, h.total)) at.is c n)

  explored : Explored (mark (blank all) start) (led_to all start)
  explored = explores (length all) 0 (mark (blank all) start) (marks 0 (blank all) start (omega arith) starts here).holds (omega arith)

  -- Each unit that was found is led to.
  pub found_led : (x : ℕ) → Flagged (led_to all start) x → Leads all x start
  found_led x f = explored.holds.sound x (explored.holds.queued x f)

  -- Each unit that is led to was found.
  pub led_found : (x : ℕ) → x < length all → Leads all x start → Flagged (led_to all start) x
  led_found x l r = closed (led_to all start) explored.holds x start r l (explored.keeps.flagged start ((marks 0 (blank all) start (omega arith) starts here).flagged (chain_inside all x start r l)))
