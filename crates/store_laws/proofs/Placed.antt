-- Members of a block lie within it, one behind the other.
use Rattle.std.proofs.Common.{◌≡◌, ℕ, ◌+◌, ◌<◌, ◌≤◌, Bool, true, false, cond, ◌||◌, Some, List, [], ◌∷◌, ◌++◌, map, sum_by, refl, sym, ap, ◌∙◌, subst, arith, ◌⊎◌, inl, inr, is_some, unwrap_or, if◌then◌else◌}
use Rattle.std.specs.List.{list_any}
use Rattle.std.proofs.Common.{append_assoc}
use Rattle.f77_values.proofs.SameNames.{same_name}
use Rattle.f77_values.specs.Tables.{Name, name_eq, is_among, distinct, what, most, saturated}
use Rattle.f77_store.specs.declared.areas.Member.{Member}
use Rattle.f77_store.specs.declared.areas.Place.{Place}
use Rattle.f77_store.specs.Areas.{units_in, total, placed, places, sized, blocks}
use Rattle.store_laws.proofs.Lists.{Each, one_behind, part_of_sum, contra, Differs}
use Rattle.store_laws.proofs.Told.{name_self, told_each, what_each, told_comes, distinct_among}

-- a member of this name stands in the list, and its place is behind those of its block before it
pub record Stands (size : Name → ℕ) (members : List Member) (pair : Name × Place) : Type 0 where
  pub before : List Member
  pub member : Member
  pub behind : List Member
  pub splits : members ≡ before ++ member ∷ behind
  pub name_is : member.name ≡ pair.0
  pub block_is : member.block ≡ pair.1.block
  pub from_is : pair.1.from ≡ saturated (total size pair.1.block before)

each_placed : (size : Name → ℕ) (members before ms : List Member) → members ≡ before ++ ms → Each (Stands size members) (placed size before ms)
each_placed size members before [] e = tt
each_placed size members before (m ∷ ms) e = (
  record { before = before; member = m; behind = ms; splits = e; name_is = refl; block_is = refl; from_is = refl },
  each_placed size members (before ++ m ∷ []) ms (e ∙ sym (append_assoc before (m ∷ []) ms)),
)

pub place_is : (size : Name → ℕ) (members : List Member) (name : Name) (p : Place) → what (places size members) name ≡ Some p → Stands size members (name, p)
place_is size members name p e = what_each (Stands size members) (places size members) name p (told_each (Stands size members) (placed size [] members) [] tt (each_placed size members [] members refl)) e

-- each member has a place
names_placed : (size : Name → ℕ) (before ms : List Member) (name : Name) → list_any (λ m. name_eq name m.name) ms ≡ true → list_any (λ (p : Name × Place). name_eq name p.0) (placed size before ms) ≡ true
names_placed size before [] name h = h
names_placed size before (m ∷ ms) name h = go (name_eq name m.name) h (names_placed size (before ++ m ∷ []) ms name)
  where
    go : (b : Bool) → (b || list_any (λ (m : Member). name_eq name m.name) ms) ≡ true → (list_any (λ (m : Member). name_eq name m.name) ms ≡ true → list_any (λ (p : Name × Place). name_eq name p.0) (placed size (before ++ m ∷ []) ms) ≡ true)
        → (b || list_any (λ (p : Name × Place). name_eq name p.0) (placed size (before ++ m ∷ []) ms)) ≡ true
    go true h rest = refl
    go false h rest = rest h

pub place_known : (size : Name → ℕ) (members : List Member) (name : Name) → list_any (λ m. name_eq name m.name) members ≡ true → is_some (what (places size members) name) ≡ true
place_known size members name h = told_comes (placed size [] members) [] name (names_placed size [] members name h)

-- ---- within, and apart

small : (t : ℕ) → saturated t < most → t < most
small t h = omega (arith, h)

exact : (t : ℕ) → t < most → saturated t ≡ t
exact t h = omega (arith, h)

units_are : (size : Name → ℕ) (name block : Name) (m : Member) → m.name ≡ name → m.block ≡ block → units_in size block m ≡ size name
units_are size name block m n b = ap (λ x. if name_eq x block then size m.name else 0) b ∙ (ap (λ x. if x then size m.name else 0) (name_self block) ∙ ap size n)

module _ (size : Name → ℕ) (members : List Member) (name : Name) (p : Place) (s : Stands size members (name, p)) (counted : saturated (total size p.block members) < most) where
  whole : total size p.block s.before + size name ≤ total size p.block members
  whole =
      subst (λ n. total size p.block s.before + n ≤ total size p.block members) (units_are size name p.block s.member s.name_is s.block_is)
      (subst (λ all. sum_by (units_in size p.block) s.before + units_in size p.block s.member ≤ total size p.block all) (sym s.splits) (part_of_sum (units_in size p.block) s.before s.member s.behind))

  -- The place is exact.
  pub from_exact : p.from ≡ total size p.block s.before
  from_exact = let c = small (total size p.block members) counted in let w = whole in let l : total size p.block s.before < most = omega (arith, c, w) in s.from_is ∙ exact (total size p.block s.before) l

  pub lies_within : p.from + size name ≤ saturated (total size p.block members)
  lies_within = let c = small (total size p.block members) counted in let e = exact (total size p.block members) c in let w = whole in let f = from_exact in omega (arith, e, w, f)

pub stand_apart : (size : Name → ℕ) (members : List Member) (n1 n2 : Name) (p1 p2 : Place) (s1 : Stands size members (n1, p1)) (s2 : Stands size members (n2, p2)) → p1.block ≡ p2.block → Differs n1 n2
    → saturated (total size p1.block members) < most → (p1.from + size n1 ≤ p2.from) ⊎ (p2.from + size n2 ≤ p1.from)
stand_apart size members n1 n2 p1 p2 s1 s2 same differ counted =
    let counted2 : saturated (total size p2.block members) < most = subst (λ b. saturated (total size b members) < most) same counted in
    let f1 : p1.from ≡ total size p2.block s1.before = from_exact size members n1 p1 s1 counted ∙ ap (λ b. total size b s1.before) same in
    let f2 : p2.from ≡ total size p2.block s2.before = from_exact size members n2 p2 s2 counted2 in
    let u1 : units_in size p2.block s1.member ≡ size n1 = units_are size n1 p2.block s1.member s1.name_is (s1.block_is ∙ same) in
    let u2 : units_in size p2.block s2.member ≡ size n2 = units_are size n2 p2.block s2.member s2.name_is s2.block_is in
    go f1 f2 u1 u2 (one_behind (units_in size p2.block) s1.before s2.before s1.member s2.member s1.behind s2.behind (sym s1.splits ∙ s2.splits) (λ e. contra (sym (subst (λ n. name_eq n2 n ≡ true) (n_is e) (name_self n2)) ∙ differ)))
  where
    n_is : s1.member ≡ s2.member → n2 ≡ n1
    n_is e = sym s2.name_is ∙ (sym (ap (λ (m : Member). m.name) e) ∙ s1.name_is)

    go : p1.from ≡ total size p2.block s1.before → p2.from ≡ total size p2.block s2.before → units_in size p2.block s1.member ≡ size n1 → units_in size p2.block s2.member ≡ size n2
        → (sum_by (units_in size p2.block) s1.before + units_in size p2.block s1.member ≤ sum_by (units_in size p2.block) s2.before) ⊎ (sum_by (units_in size p2.block) s2.before + units_in size p2.block s2.member ≤ sum_by (units_in size p2.block) s1.before)
        → (p1.from + size n1 ≤ p2.from) ⊎ (p2.from + size n2 ≤ p1.from)
    go f1 f2 u1 u2 (inl h) = inl (omega (arith, f1, f2, u1, h))
    go f1 f2 u1 u2 (inr h) = inr (omega (arith, f1, f2, u2, h))

-- ---- the size of a block

what_sized : (size : Name → ℕ) (members : List Member) (names : List Name) (block : Name) → is_among names block ≡ true → what (map (sized size members) names) block ≡ Some (saturated (total size block members))
what_sized size members [] block h = cc
what_sized size members (n ∷ names) block h = go (name_eq block n) refl h (what_sized size members names block)
  where
    go : (b : Bool) → name_eq block n ≡ b → (b || is_among names block) ≡ true → (is_among names block ≡ true → what (map (sized size members) names) block ≡ Some (saturated (total size block members)))
        → what (map (sized size members) (n ∷ names)) block ≡ Some (saturated (total size block members))
    go true e h rest = ap (λ b. cond b (Some (saturated (total size n members))) (what (map (sized size members) names) block)) e ∙ ap (λ b. Some (saturated (total size b members))) (sym (same_name block n e))
    go false e h rest = ap (λ b. cond b (Some (saturated (total size n members))) (what (map (sized size members) names) block)) e ∙ rest h

block_among : (before : List Member) (m : Member) (behind : List Member) → is_among (map (λ m. m.block) (before ++ m ∷ behind)) m.block ≡ true
block_among [] m behind = ap (λ b. b || is_among (map (λ m. m.block) behind) m.block) (name_self m.block)
block_among (x ∷ before) m behind = go (name_eq m.block x.block) (block_among before m behind)
  where
    go : (b : Bool) → is_among (map (λ m. m.block) (before ++ m ∷ behind)) m.block ≡ true → (b || is_among (map (λ m. m.block) (before ++ m ∷ behind)) m.block) ≡ true
    go true h = refl
    go false h = h

pub block_size : (size : Name → ℕ) (members : List Member) (name : Name) (p : Place) → Stands size members (name, p) → unwrap_or (what (blocks size members) p.block) 0 ≡ saturated (total size p.block members)
block_size size members name p s =
    let here : is_among (map (λ m. m.block) members) p.block ≡ true = subst (λ b. is_among (map (λ m. m.block) members) b ≡ true) s.block_is (subst (λ all. is_among (map (λ m. m.block) all) s.member.block ≡ true) (sym s.splits) (block_among s.before s.member s.behind)) in
    ap (λ o. unwrap_or o 0) (what_sized size members (distinct (map (λ m. m.block) members)) p.block (distinct_among (map (λ m. m.block) members) p.block here))
