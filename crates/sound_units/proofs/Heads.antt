-- The dummies of a unit, each once, and the dummy arrays of its routine by their positions.
use Rattle.std.proofs.Common.{◌≡◌, ℕ, zero, suc, ◌+◌, ◌<◌, ◌≤◌, ⊎_elim, Bool, true, false, not, cond, ◌&&◌, ◌||◌, Some, List, [], ◌∷◌, ◌++◌, append_assoc, append-nil, length, map, flat_map, fold, slice_get, refl, sym, ap, ◌∙◌, subst, arith, nat_eq, if◌then◌else◌}
use Rattle.std.specs.List.{position_or_len}
use Rattle.std.proofs.lemmas.Bool.Decides.{nat_tests}
use Rattle.std.proofs.lemmas.Grind.{flat_map-append}
use Rattle.std.proofs.lemmas.List.Sums.{fold-append}
use Rattle.f77_tree.specs.declared.form.Form.{out-Form}
use Rattle.f77_tree.specs.declared.unit.Stmt.{Stmt}
use Rattle.f77_tree.specs.declared.unit.Unit.{Unit as SourceUnit}
use Rattle.f77_tree.specs.declared.unit.UnitKind.{UnitKind}
use Rattle.f77_tree.specs.declared.unit.UnitKind.TheVariants as kind
use Rattle.f77_names.specs.declared.attributes.Attributes.{Attributes}
use Rattle.f77_names.specs.declared.occurrences.Manner.TheVariants as manner
use Rattle.f77_names.specs.declared.facts.Facts.{Facts}
use Rattle.f77_names.specs.declared.roles.Role.{Role}
use Rattle.f77_names.specs.declared.roles.Role.TheVariants as role
use Rattle.f77_store.specs.Layouts.{is_array as is_array_role, position}
use Rattle.f77_values.specs.Tables.{Name, name_eq, is_among, with_name, distinct, saturated}
use Rattle.f77_names.specs.Occurrences.{occurs, own_name, in_head, in_statement, occurrences, names_that, named_if}
use Rattle.f77_names.specs.Roles.{role as role_of}
use Rattle.check_names.specs.declared.attribute.Attribute.TheVariants.{Dummy}
use Rattle.check_names.specs.Exclusions.{nothing, has, with_attribute, conflicts, is_excluded}
use Rattle.check_names.specs.Givings.{Givings, gives, by_occurrence}
use Rattle.check_names.specs.Conflicts.{given_to, with_giving, conflict_in}
use Rattle.f77_semantics.specs.Program.{DummyArray}
use Rattle.f77_semantics.specs.Source.{dummy_array, dummy_arrays_from}
use Rattle.f77_semantics.specs.Terms.{Meant}
use Rattle.f77_semantics.specs.Units.{is_array}
use Rattle.sound_units.specs.Texts.{guards_action}
use Rattle.sound_units.proofs.Giving.{and_false_right, among_more, given_stays}
use Rattle.sound_units.proofs.Lists.{or_left, or_right, untrue, or_assoc, or_none}
use Rattle.sound_units.proofs.Manners.{no_dummies}
use Rattle.sound_units.proofs.Tables.{name_self, name_is, opposite}

-- ---- the names of the head

abbrev dummy_givings : List Name → Givings
dummy_givings ds = map (gives Dummy) ds

once_dummy : (b c : Bool) → (if b then true else c) ≡ false → b ≡ false
once_dummy true c h = cc
once_dummy false c h = refl

given_now : (name : Name) (earlier : Givings) → has (given_to name (earlier ++ gives Dummy name ∷ [])) Dummy ≡ true
given_now name earlier = ap (λ x. has x Dummy) (fold-append (with_giving name) nothing earlier (gives Dummy name ∷ [])) ∙ go (name_eq name name) (name_self name)
  where
    go : (b : Bool) → b ≡ true → has (cond b (with_attribute (given_to name earlier) Dummy) (given_to name earlier)) Dummy ≡ true
    go true h = refl
    go false h = cc

-- Dummies that are given once are all different.
distinct_from : (ds known : List Name) (earlier rest : Givings) → ((n : Name) → is_among known n ≡ true → has (given_to n earlier) Dummy ≡ true) → conflict_in earlier (dummy_givings ds ++ rest) ≡ false → fold with_name known ds ≡ known ++ ds
distinct_from [] known earlier rest h c = sym (append-nil known)
distinct_from (d ∷ ds) known earlier rest h c =
    let fresh : has (given_to d earlier) Dummy ≡ false = once_dummy (has (given_to d earlier) Dummy) (is_excluded (given_to d earlier) Dummy) (or_left (conflicts (given_to d earlier) Dummy) _ c) in
    let absent : is_among known d ≡ false = untrue (is_among known d) (λ e. opposite (has (given_to d earlier) Dummy) (h d e) fresh) in
    let one : with_name known d ≡ known ++ d ∷ [] = ap (λ b. if b then known else known ++ d ∷ []) absent in
    let more : (n : Name) → is_among (known ++ d ∷ []) n ≡ true → has (given_to n (earlier ++ gives Dummy d ∷ [])) Dummy ≡ true = λ n e. later n (subst (λ k. is_among k n ≡ true) (sym one) e) in
    ap (λ k. fold with_name k ds) one
    ∙ (distinct_from ds (known ++ d ∷ []) (earlier ++ gives Dummy d ∷ []) rest more (or_right (conflicts (given_to d earlier) Dummy) _ c) ∙ append_assoc known (d ∷ []) ds)
  where
    later : (n : Name) → is_among (with_name known d) n ≡ true → has (given_to n (earlier ++ gives Dummy d ∷ [])) Dummy ≡ true
    later n e = ⊎_elim (λ k. given_stays Dummy n earlier (gives Dummy d ∷ []) (h n k)) (λ k. subst (λ n. has (given_to n (earlier ++ gives Dummy d ∷ [])) Dummy ≡ true) (sym (name_is n d k)) (given_now d earlier)) (among_more known d n e)

-- what stands behind others shows no conflict with them
conflict_rest : (xs ys earlier : Givings) → conflict_in earlier (xs ++ ys) ≡ false → conflict_in (earlier ++ xs) ys ≡ false
conflict_rest [] ys earlier c = ap (λ gs. conflict_in gs ys) (append-nil earlier) ∙ c
conflict_rest (g ∷ xs) ys earlier c =
    ap (λ gs. conflict_in gs ys) (sym (append_assoc earlier (g ∷ []) xs)) ∙ conflict_rest xs ys (earlier ++ g ∷ []) (or_right (conflicts (given_to g.name earlier) g.attribute) (conflict_in (earlier ++ g ∷ []) (xs ++ ys)) c)

module _ (a : Attributes) where
  given_dummies : (ds : List Name) → flat_map (by_occurrence a) (map (occurs manner.Dummy) ds) ≡ dummy_givings ds
  given_dummies [] = refl
  given_dummies (d ∷ ds) = ap (λ gs. gives Dummy d ∷ gs) (given_dummies ds)

  -- Dummies that are given once are all different, whatever stands before and behind them.
  pub all_different : (types own rest : Givings) (ds : List Name) → conflict_in [] (types ++ ((own ++ flat_map (by_occurrence a) (map (occurs manner.Dummy) ds)) ++ rest)) ≡ false → distinct ds ≡ ds
  all_different types own rest ds c =
      let given : Givings = flat_map (by_occurrence a) (map (occurs manner.Dummy) ds) in
      let behind : conflict_in types ((own ++ given) ++ rest) ≡ false = conflict_rest types ((own ++ given) ++ rest) [] c in
      let last : conflict_in (types ++ own) (given ++ rest) ≡ false = conflict_rest own (given ++ rest) types (ap (conflict_in types) (sym (append_assoc own given rest)) ∙ behind) in
      distinct_from ds [] (types ++ own) rest (λ n e. cc) (ap (λ gs. conflict_in (types ++ own) (gs ++ rest)) (sym (given_dummies ds)) ∙ last)

-- ---- those of the unit

named_dummies : (ds : List Name) → names_that manner.Dummy (map (occurs manner.Dummy) ds) ≡ ds
named_dummies [] = refl
named_dummies (d ∷ ds) = ap (λ ns. d ∷ ns) (named_dummies ds)

own_dummies : (k : UnitKind) (name : Name) → names_that manner.Dummy (own_name k name) ≡ []
own_dummies kind.Function name = refl
own_dummies k name = refl

stated_dummies : (ss : List Stmt) → ((k : ℕ) (s : Stmt) → slice_get ss k ≡ Some s → guards_action (out-Form s.form) ≡ true) → names_that manner.Dummy (flat_map in_statement ss) ≡ []
stated_dummies [] h = refl
stated_dummies (s ∷ ss) h =
    flat_map-append (named_if manner.Dummy) (in_statement s) (flat_map in_statement ss)
    ∙ (ap (λ ns. ns ++ names_that manner.Dummy (flat_map in_statement ss)) (no_dummies s (h 0 s refl)) ∙ stated_dummies ss (λ k x e. h (suc k) x e))

-- The names that occur as dummies are those of the head.
pub head_dummies : (u : SourceUnit) → ((k : ℕ) (s : Stmt) → slice_get u.statements k ≡ Some s → guards_action (out-Form s.form) ≡ true) → names_that manner.Dummy (occurrences u) ≡ u.dummies
head_dummies u h =
    flat_map-append (named_if manner.Dummy) (in_head u) (flat_map in_statement u.statements)
    ∙ (ap (λ ns. names_that manner.Dummy (in_head u) ++ ns) (stated_dummies u.statements h)
    ∙ (append-nil (names_that manner.Dummy (in_head u))
    ∙ (flat_map-append (named_if manner.Dummy) (own_name u.kind u.name) (map (occurs manner.Dummy) u.dummies)
    ∙ (ap (λ ns. ns ++ names_that manner.Dummy (map (occurs manner.Dummy) u.dummies)) (own_dummies u.kind u.name) ∙ named_dummies u.dummies))))

-- ---- positions

pub record Located (ds : List Name) (name : Name) : Type 0 where
  pub at : ℕ
  pub inside : at < length ds
  pub stands : slice_get ds at ≡ Some name
  pub is : position_or_len (name_eq name) ds ≡ at

pub located : (ds : List Name) (name : Name) → is_among ds name ≡ true → Located ds name
located [] name h = cc
located (d ∷ ds) name h = go (name_eq name d) refl h (located ds name)
  where
    go : (b : Bool) → name_eq name d ≡ b → (b || is_among ds name) ≡ true → (is_among ds name ≡ true → Located ds name) → Located (d ∷ ds) name
    go true e h rest = record { at = 0; inside = omega arith; stands = ap Some (sym (name_is name d e)); is = ap (λ b. cond (not b) (1 + position_or_len (name_eq name) ds) 0) e }
    go false e h rest =
        let r : Located ds name = rest h in
        let l : r.at < length ds = r.inside in
        let next : 1 + r.at ≡ suc r.at = omega arith in
        record { at = suc r.at; inside = omega (arith, l); stands = r.stands; is = ap (λ b. cond (not b) (1 + position_or_len (name_eq name) ds) 0) e ∙ (ap (λ n. 1 + n) r.is ∙ next) }

same_number : (j k : ℕ) → j ≡ k → nat_eq j k ≡ true
same_number j k e = grind (arith, nat_tests)

other_number : (j k : ℕ) → k < j → nat_eq j k ≡ false
other_number j k l = grind (arith, nat_tests)

lesser_number : (j k : ℕ) → j < k → nat_eq j k ≡ false
lesser_number j k l = grind (arith, nat_tests)

module _ (f : Facts) (meant : Name → Meant) where
  both_arrays : (xs ys : List DummyArray) (k : ℕ) → is_array (xs ++ ys) k ≡ (is_array xs k || is_array ys k)
  both_arrays [] ys k = refl
  both_arrays (x ∷ xs) ys k = ap (λ b. nat_eq x.dummy k || b) (both_arrays xs ys k) ∙ sym (or_assoc (nat_eq x.dummy k) (is_array xs k) (is_array ys k))

  one_array : (j k : ℕ) (r : Role) → is_array (dummy_array meant j r) k ≡ (is_array_role r && nat_eq j k)
  one_array j k (role.Array bounds) = or_none (nat_eq j k)
  one_array j k r = refl

  and_all : (b : Bool) → (b && true) ≡ b
  and_all true = refl
  and_all false = refl

  not_before : (ds : List Name) (j k : ℕ) → k < j → is_array (dummy_arrays_from f meant j ds) k ≡ false
  not_before [] j k l = refl
  not_before (d ∷ ds) j k l =
      both_arrays (dummy_array meant j (role_of f d)) (dummy_arrays_from f meant (suc j) ds) k
      ∙ (λ i. (one_array j k (role_of f d) ∙ (ap (λ b. is_array_role (role_of f d) && b) (other_number j k l) ∙ and_false_right (is_array_role (role_of f d)))) i || not_before ds (suc j) k (omega (arith, l)) i)

  from_here : (ds : List Name) (j i : ℕ) (name : Name) → slice_get ds i ≡ Some name → is_array (dummy_arrays_from f meant j ds) (j + i) ≡ is_array_role (role_of f name)
  from_here [] j i name e = cc
  from_here (d ∷ ds) j zero name e =
      let same : d ≡ name = cc in
      let here : is_array (dummy_array meant j (role_of f d)) (j + 0) ≡ is_array_role (role_of f d) = one_array j (j + 0) (role_of f d) ∙ (ap (λ b. is_array_role (role_of f d) && b) (same_number j (j + 0) (omega arith)) ∙ and_all (is_array_role (role_of f d))) in
      both_arrays (dummy_array meant j (role_of f d)) (dummy_arrays_from f meant (suc j) ds) (j + 0)
      ∙ ((λ i. here i || not_before ds (suc j) (j + 0) (omega arith) i) ∙ (or_none (is_array_role (role_of f d)) ∙ ap (λ d. is_array_role (role_of f d)) same))
  from_here (d ∷ ds) j (suc i) name e =
      let k : ℕ = j + suc i in
      let next : suc j + i ≡ k = omega arith in
      let here : is_array (dummy_array meant j (role_of f d)) k ≡ false = one_array j k (role_of f d) ∙ (ap (λ b. is_array_role (role_of f d) && b) (lesser_number j k (omega arith)) ∙ and_false_right (is_array_role (role_of f d))) in
      both_arrays (dummy_array meant j (role_of f d)) (dummy_arrays_from f meant (suc j) ds) k
      ∙ (λ i. here i || is_array (dummy_arrays_from f meant (suc j) ds) k) ∙ (ap (is_array (dummy_arrays_from f meant (suc j) ds)) (sym next) ∙ from_here ds (suc j) i name e)

  -- A dummy is an array of the routine where its role is that of an array.
  pub dummy_is_array : (ds : List Name) (name : Name) → f.attributes.dummies ≡ ds → length ds ≤ 63 → is_among ds name ≡ true → is_array (dummy_arrays_from f meant 0 ds) (position f name) ≡ is_array_role (role_of f name)
  dummy_is_array ds name e l h =
      let x : Located ds name = located ds name h in
      let i : x.at < length ds = x.inside in
      let small : saturated x.at ≡ 0 + x.at = omega (arith, i, l) in
      let there : position f name ≡ 0 + x.at = ap (λ ns. saturated (position_or_len (name_eq name) ns)) e ∙ (ap saturated x.is ∙ small) in
      ap (is_array (dummy_arrays_from f meant 0 ds)) there ∙ from_here ds 0 x.at name x.stands
