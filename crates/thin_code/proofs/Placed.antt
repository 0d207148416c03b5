-- Each name of a program has its unit of storage.
use Rattle.std.proofs.Common.{◌≡◌, suc, ◌+◌, ◌≤◌, ◌<◌, List, [], ◌∷◌, ◌++◌, length, Bool, true, false, cond, refl, sym, ap, ◌∙◌, subst, arith, eq-eqb, length-append}
use Rattle.std.specs.Prelude.{fold, flat_map, sum_by, ◌||◌, ◌&&◌, not}
use Rattle.std.proofs.lemmas.List.Sums.{sum_by-cons}
use Rattle.std.specs.List.{All, list_any}
use Rattle.std.proofs.lemmas.List.Elements.{All-nil, All-cons}
use Rattle.std.proofs.lemmas.List.Folds.{list_any-append}
use Rattle.std.proofs.lemmas.Bool.{false≢true}
use Rattle.run_model.specs.Storage.{Name, name_eq}
use Rattle.thin_form.specs.declared.statement.Term.{Term}
use Rattle.thin_form.specs.declared.statement.Term.TheVariants.{Variable, Integer}
use Rattle.thin_form.specs.declared.statement.Addend.{Addend}
use Rattle.thin_form.specs.declared.statement.Item.{Item}
use Rattle.thin_form.specs.declared.statement.Item.TheVariants.{Value, Text}
use Rattle.thin_form.specs.declared.statement.Statement.{Statement}
use Rattle.thin_form.specs.declared.statement.Statement.TheVariants.{Assign, Print, End}
use Rattle.thin_form.specs.Programs.{tokens_of, IsTerm, IsItem, IsPlain}
use Rattle.thin_code.specs.Layout.{term_names, item_names, statement_names, with_name, names_of, offset_of}
use Rattle.thin_code.specs.Code.{Frame}
use Rattle.thin_code.proofs.Effects.{IsSoundTerm, IsSoundItem, IsSound}

same_name : (v : Name) → name_eq v v ≡ true
same_name [] = refl
same_name (x ∷ v) = λ i. eq-eqb x x refl i && same_name v i

-- the name is among these
abbrev pub Known : List Name → Name → Type 0
Known ks v = list_any (name_eq v) ks ≡ true

known_keeps : (ks : List Name) (w v : Name) → Known ks v → Known (with_name ks w) v
known_keeps ks w v h = go (list_any (name_eq w) ks)
  where
    go : (b : Bool) → Known (cond b ks (ks ++ w ∷ [])) v
    go true = h
    go false = list_any-append (name_eq v) ks (w ∷ []) ∙ ap (λ b. b || list_any (name_eq v) (w ∷ [])) h

known_new : (ks : List Name) (v : Name) → Known (with_name ks v) v
known_new ks v = go (list_any (name_eq v) ks) refl
  where
    go : (b : Bool) → list_any (name_eq v) ks ≡ b → Known (cond b ks (ks ++ v ∷ [])) v
    go true e = e
    go false e = list_any-append (name_eq v) ks (v ∷ []) ∙ (λ i. e i || (same_name v i || false))

known_fold : (vs ks : List Name) (v : Name) → Known ks v → Known (fold with_name ks vs) v
known_fold [] ks v h = h
known_fold (w ∷ vs) ks v h = known_fold vs (with_name ks w) v (known_keeps ks w v h)

abbrev pub AllKnown : List Name → List Name → Type 0
AllKnown ks [] = Unit {0}
AllKnown ks (v ∷ vs) = Known ks v × AllKnown ks vs

all_known : (vs ks : List Name) → AllKnown (fold with_name ks vs) vs
all_known [] ks = tt
all_known (v ∷ vs) ks = (known_fold vs (with_name ks v) v (known_new ks v), all_known vs (with_name ks v))

known_first : (ks as_ bs : List Name) → AllKnown ks (as_ ++ bs) → AllKnown ks as_
known_first ks [] bs h = tt
known_first ks (a ∷ as_) bs h = (h.0, known_first ks as_ bs h.1)

known_rest : (ks as_ bs : List Name) → AllKnown ks (as_ ++ bs) → AllKnown ks bs
known_rest ks [] bs h = h
known_rest ks (a ∷ as_) bs h = known_rest ks as_ bs h.1

placed : (ks : List Name) (v : Name) → Known ks v → offset_of ks v < length ks
placed [] v h = absurd (false≢true h)
placed (k ∷ ks) v h = go (name_eq v k) h (placed ks v)
  where
    go : (b : Bool) → (b || list_any (name_eq v) ks) ≡ true → (Known ks v → offset_of ks v < length ks) → cond (not b) (1 + offset_of ks v) 0 < suc (length ks)
    go true h ih = omega arith
    go false h ih = let l = ih h in omega arith

-- ---- statements whose names are known

sound_term : (f : Frame) (t : Term) → IsTerm t → AllKnown f.names (term_names t) → IsSoundTerm f t
sound_term f (Variable name) h k = placed f.names name k.0
sound_term f (Integer value) h k = h

sound_addends : (f : Frame) (more : List Addend) → All (λ a. IsTerm a.term) more → AllKnown f.names (flat_map (λ a. term_names a.term) more) → All (λ a. IsSoundTerm f a.term) more
sound_addends f [] h k = All-nil (λ a. IsSoundTerm f a.term)
sound_addends f (a ∷ more) h k =
    All-cons (λ a. IsSoundTerm f a.term) a more
    (sound_term f a.term (h 0 a (omega arith)) (known_first f.names (term_names a.term) (flat_map (λ a. term_names a.term) more) k))
    (sound_addends f more (λ i d l. h (suc i) d (omega arith)) (known_rest f.names (term_names a.term) (flat_map (λ a. term_names a.term) more) k))

sound_item : (f : Frame) (i : Item) → IsItem i → AllKnown f.names (item_names i) → IsSoundItem f i
sound_item f (Text bytes) h k = h
sound_item f (Value term) h k = sound_term f term h k

sound_items : (f : Frame) (items : List Item) → All IsItem items → AllKnown f.names (flat_map item_names items) → All (IsSoundItem f) items
sound_items f [] h k = All-nil (IsSoundItem f)
sound_items f (i ∷ items) h k =
    All-cons (IsSoundItem f) i items
    (sound_item f i (h 0 i (omega arith)) (known_first f.names (item_names i) (flat_map item_names items) k))
    (sound_items f items (λ j d l. h (suc j) d (omega arith)) (known_rest f.names (item_names i) (flat_map item_names items) k))

sound_statement : (f : Frame) (x : Statement) → IsPlain x → AllKnown f.names (statement_names x) → IsSound f x
sound_statement f (Assign target first more) h k = record {
  placed = placed f.names target k.0;
  begins = sound_term f first h.1.0 (known_first f.names (term_names first) (flat_map (λ a. term_names a.term) more) k.1);
  goes_on = sound_addends f more h.1.1 (known_rest f.names (term_names first) (flat_map (λ a. term_names a.term) more) k.1);
}
sound_statement f (Print items) h k = sound_items f items h k
sound_statement f End h k = tt

sound_statements : (f : Frame) (xs : List Statement) → All IsPlain xs → AllKnown f.names (flat_map statement_names xs) → All (IsSound f) xs
sound_statements f [] h k = All-nil (IsSound f)
sound_statements f (x ∷ xs) h k =
    All-cons (IsSound f) x xs
    (sound_statement f x (h 0 x (omega arith)) (known_first f.names (statement_names x) (flat_map statement_names xs) k))
    (sound_statements f xs (λ j d l. h (suc j) d (omega arith)) (known_rest f.names (statement_names x) (flat_map statement_names xs) k))

names_front : (front : List Statement) → flat_map statement_names (front ++ End ∷ []) ≡ flat_map statement_names front
names_front [] = refl
names_front (x ∷ front) = ap (λ vs. statement_names x ++ vs) (names_front front)

-- the statements of a program, in a frame with its names
pub sound : (f : Frame) (front : List Statement) → f.names ≡ names_of (front ++ End ∷ []) → All IsPlain front → All (IsSound f) front
sound f front e h =
    let k = all_known (flat_map statement_names front) [] in
    let z : f.names ≡ fold with_name [] (flat_map statement_names front) = e ∙ ap (fold with_name []) (names_front front) in
    sound_statements f front h (subst (λ ks. AllKnown ks (flat_map statement_names front)) (sym z) k)

-- ---- there are no more names than tokens

with_name_longer : (vs ks : List Name) → length (fold with_name ks vs) ≤ length ks + length vs
with_name_longer [] ks = omega arith
with_name_longer (v ∷ vs) ks = let one = step (list_any (name_eq v) ks) in let more = with_name_longer vs (with_name ks v) in omega arith
  where
    step : (b : Bool) → length (cond b ks (ks ++ v ∷ [])) ≤ length ks + 1
    step true = omega arith
    step false = omega (arith, length-append ks (v ∷ []))

term_few : (t : Term) → length (term_names t) ≤ 1
term_few (Variable name) = omega arith
term_few (Integer value) = omega arith

addends_few : (more : List Addend) → length (flat_map (λ a. term_names a.term) more) ≤ length more
addends_few [] = omega arith
addends_few (a ∷ more) = let l = length-append (term_names a.term) (flat_map (λ a. term_names a.term) more) in omega (arith, l, term_few a.term, addends_few more)

item_few : (i : Item) → length (item_names i) ≤ 1
item_few (Text bytes) = omega arith
item_few (Value term) = term_few term

items_few : (items : List Item) → length (flat_map item_names items) ≤ length items
items_few [] = omega arith
items_few (i ∷ items) = let l = length-append (item_names i) (flat_map item_names items) in omega (arith, l, item_few i, items_few items)

statement_few : (x : Statement) → length (statement_names x) ≤ tokens_of x
statement_few (Assign target first more) = let l = length-append (term_names first) (flat_map (λ a. term_names a.term) more) in omega (arith, l, term_few first, addends_few more)
statement_few (Print items) = omega (arith, items_few items)
statement_few End = omega arith

statements_few : (xs : List Statement) → length (flat_map statement_names xs) ≤ sum_by tokens_of xs
statements_few [] = omega arith
statements_few (x ∷ xs) = let l = length-append (statement_names x) (flat_map statement_names xs) in rw (sum_by-cons tokens_of x xs) (omega (arith, l, statement_few x, statements_few xs))

pub few_names : (body : List Statement) → length (names_of body) ≤ sum_by tokens_of body
few_names body = let a = with_name_longer (flat_map statement_names body) [] in let b = statements_few body in omega (arith, a, b)

pub few_statements : (body : List Statement) → length body ≤ sum_by tokens_of body
few_statements [] = omega arith
few_statements (x ∷ xs) = rw (sum_by-cons tokens_of x xs) (let l = least x in omega (arith, l, few_statements xs))
  where
    least : (x : Statement) → 1 ≤ tokens_of x
    least (Assign target first more) = omega arith
    least (Print items) = omega arith
    least End = omega arith
