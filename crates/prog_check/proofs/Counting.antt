-- What the scans of main programs and of sums find comes first.
use Rattle.std.proofs.Common.{◌≡◌, ℕ, zero, suc, ◌+◌, ◌<◌, ◌≤◌, List, [], ◌∷◌, Bool, true, false, ◌||◌, Some, None, length, take, refl, sym, subst, ap, ◌∙◌, ◌⊎◌, inl, inr, arith, if◌then◌else◌}
use Rattle.std.specs.declared.option.Option.{Option}
use Rattle.std.specs.Prelude.{nat_lt, sum_by}
use Rattle.std.specs.List.{slice_get, list_any}
use Rattle.std.proofs.lemmas.Bool.Decides.{nat_tests}
use Rattle.std.proofs.lemmas.List.Sums.{sum_by-cons}
use Rattle.f77_tree.specs.declared.unit.Unit.{Unit as SourceUnit}
use Rattle.call_cycles.specs.declared.marks.ProgramMark.{ProgramMark}
use Rattle.prog_check.specs.Mains.{is_main, has_main, IsLaterMain, LacksMain}
use Rattle.prog_check.specs.Limits.{Passes}
use Rattle.call_cycles.specs.Marks.{comes_first, IsFirst, Earliest}
use Rattle.prog_check.specs.Scans.{later_main, passing}
use Rattle.call_cycles.specs.Marks.{mark_at}
use Rattle.call_cycles.proofs.Firsts.{earlier_unit, earlier_line, mapped, nowhere_first}

some_is : {A : Type 0} (x y : A) → Some x ≡ Some y → x ≡ y
some_is x y e = cc

none_some : {A : Type 0} (x : A) → None ≡ Some x → ⊥
none_some x e = cc

-- the same number and line, at this unit or a later one
from_here : (n l line p k : ℕ) (m : ProgramMark) → m ≡ mark_at n l (Some (p + k)) line → comes_first (mark_at n l (Some p) line) m ≡ true
from_here n l line p zero m i = subst (λ x. comes_first (mark_at n l (Some p) line) x ≡ true) (sym (i ∙ ap (λ q. mark_at n l (Some q) line) (omega arith))) (earlier_line n l p line line (omega arith))
from_here n l line p (suc k) m i = subst (λ x. comes_first (mark_at n l (Some p) line) x ≡ true) (sym i) (earlier_unit n l p (p + suc k) line line (omega arith))

one_on : (n l line p k : ℕ) (m : ProgramMark) → m ≡ mark_at n l (Some (suc p + k)) line → m ≡ mark_at n l (Some (p + suc k)) line
one_on n l line p k m i = i ∙ ap (λ q. mark_at n l (Some q) line) (omega arith)

one_back : (n l line p k : ℕ) (m : ProgramMark) → m ≡ mark_at n l (Some (p + suc k)) line → m ≡ mark_at n l (Some (suc p + k)) line
one_back n l line p k m i = i ∙ ap (λ q. mark_at n l (Some q) line) (omega arith)

-- ---- main programs

record LaterFrom (seen : Bool) (place : ℕ) (units : List SourceUnit) (mark : ProgramMark) : Type 0 where
  k : ℕ
  unit : SourceUnit
  stands : slice_get units k ≡ Some unit
  main : is_main unit ≡ true
  earlier : (seen || has_main (take k units)) ≡ true
  mark_is : mark ≡ mark_at 28 0 (Some (place + k)) 1

seen_more : (seen b : Bool) (rest : Bool) → (seen || (b || rest)) ≡ ((if b then true else seen) || rest)
seen_more true true rest = refl
seen_more true false rest = refl
seen_more false true rest = refl
seen_more false false rest = refl

later_first : (seen : Bool) (place : ℕ) (units : List SourceUnit) → Earliest (LaterFrom seen place units) (later_main seen place units)
later_first seen place [] = λ m r. none_some r.unit r.stands
later_first seen place (u ∷ units) = go seen (is_main u) refl (λ now. later_first now (suc place) units)
  where
    to : (seen : Bool) (b : Bool) → is_main u ≡ b → (m : ProgramMark) → LaterFrom (if b then true else seen) (suc place) units m → LaterFrom seen place (u ∷ units) m
    to seen b e m r = record {
      k = suc r.k;
      unit = r.unit;
      stands = r.stands;
      main = r.main;
      earlier = ap (λ x. seen || (x || has_main (take r.k units))) e ∙ (seen_more seen b (has_main (take r.k units)) ∙ r.earlier);
      mark_is = one_on 28 0 1 place r.k m r.mark_is;
    }

    from_at : (seen : Bool) (b : Bool) → is_main u ≡ b → (b ≡ true → seen ≡ true → ⊥) → (m : ProgramMark) (k : ℕ) (v : SourceUnit) → slice_get (u ∷ units) k ≡ Some v → is_main v ≡ true → (seen || has_main (take k (u ∷ units))) ≡ true → m ≡ mark_at 28 0 (Some (place + k)) 1 → LaterFrom (if b then true else seen) (suc place) units m
    from_at true b e n m zero v s h l i =
        let same : u ≡ v = some_is u v s in
        absurd (n (sym e ∙ (ap is_main same ∙ h)) refl)
    from_at false b e n m zero v s h l i = cc
    from_at seen b e n m (suc k) v s h l i = record {
      k = k;
      unit = v;
      stands = s;
      main = h;
      earlier = sym (seen_more seen b (has_main (take k units))) ∙ (ap (λ x. seen || (x || has_main (take k units))) (sym e) ∙ l);
      mark_is = one_back 28 0 1 place k m i;
    }

    from : (seen : Bool) (b : Bool) → is_main u ≡ b → (b ≡ true → seen ≡ true → ⊥) → (m : ProgramMark) → LaterFrom seen place (u ∷ units) m → LaterFrom (if b then true else seen) (suc place) units m
    from seen b e n m r = from_at seen b e n m r.k r.unit r.stands r.main r.earlier r.mark_is

    no_tf : false ≡ true → ⊥
    no_tf h = cc

    go : (seen : Bool) (b : Bool) → is_main u ≡ b → ((now : Bool) → Earliest (LaterFrom now (suc place) units) (later_main now (suc place) units)) → Earliest (LaterFrom seen place (u ∷ units)) (if b then (if seen then Some (mark_at 28 0 (Some place) 1) else later_main true (suc place) units) else later_main seen (suc place) units)
    go true true e rest = record {
      shows = record { k = 0; unit = u; stands = refl; main = e; earlier = refl; mark_is = ap (λ q. mark_at 28 0 (Some q) 1) (omega arith) };
      first = λ m r. from_here 28 0 1 place r.k m r.mark_is;
    }
    go false true e rest = mapped (LaterFrom true (suc place) units) (LaterFrom false place (u ∷ units)) (later_main true (suc place) units) (to false true e) (from false true e (λ _ h. no_tf h)) (rest true)
    go seen false e rest = mapped (LaterFrom seen (suc place) units) (LaterFrom seen place (u ∷ units)) (later_main seen (suc place) units) (to seen false e) (from seen false e (λ h _. no_tf h)) (rest seen)

pub later_found : (units : List SourceUnit) → Earliest (IsLaterMain units) (later_main false 0 units)
later_found units = mapped (LaterFrom false 0 units) (IsLaterMain units) (later_main false 0 units)
    (λ m r. record { place = r.k; unit = r.unit; stands = r.stands; main = r.main; earlier = r.earlier; mark_is = r.mark_is ∙ ap (λ q. mark_at 28 0 (Some q) 1) (omega arith) })
    (λ m r. record { k = r.place; unit = r.unit; stands = r.stands; main = r.main; earlier = r.earlier; mark_is = r.mark_is ∙ ap (λ q. mark_at 28 0 (Some q) 1) (omega arith) })
    (later_first false 0 units)

pub lacking_found : (units : List SourceUnit) (has : Bool) → has_main units ≡ has → Earliest (LacksMain units) (if has then None else Some (mark_at 27 0 None 0))
lacking_found units true h = λ m l. no_tf (sym l.lacks ∙ h)
  where
    no_tf : false ≡ true → ⊥
    no_tf h = cc
lacking_found units false h = record { shows = record { lacks = h; mark_is = refl }; first = λ m l. subst (λ x. comes_first (mark_at 27 0 None 0) x ≡ true) (sym l.mark_is) (nowhere_first 27 0 0) }

-- ---- sums

pub record PassesFrom (count : SourceUnit → ℕ) (limit sum place : ℕ) (units : List SourceUnit) (mark : ProgramMark) : Type 0 where
  pub k : ℕ
  pub before : sum + sum_by count (take k units) ≤ limit
  pub behind : limit < sum + sum_by count (take (suc k) units)
  pub mark_is : mark ≡ mark_at 37 limit (Some (place + k)) 1

cons_is : (count : SourceUnit → ℕ) (u : SourceUnit) (units : List SourceUnit) (k : ℕ) → sum_by count (take (suc k) (u ∷ units)) ≡ count u + sum_by count (take k units)
cons_is count u units k = sum_by-cons count u (take k units)

nothing_more : (count : SourceUnit → ℕ) (k : ℕ) → sum_by count (take k []) ≡ 0
nothing_more count zero = refl
nothing_more count (suc k) = refl

within : (x y : ℕ) → nat_lt x y ≡ false → y ≤ x
within x y h = grind (arith, nat_tests)

over : (x y : ℕ) → nat_lt x y ≡ true → x < y
over x y h = grind (arith, nat_tests)

pub passing_first : (count : SourceUnit → ℕ) (limit sum place : ℕ) (units : List SourceUnit) → sum ≤ limit → Earliest (PassesFrom count limit sum place units) (passing count limit sum place units)
passing_first count limit sum place [] h = λ m r. omega (arith, h, r.behind, nothing_more count (suc r.k))
passing_first count limit sum place (u ∷ units) h = go (nat_lt limit (sum + count u)) refl (passing_first count limit (sum + count u) (suc place) units)
  where
    first_is : sum_by count (take 1 (u ∷ units)) ≡ count u
    first_is = omega (arith, cons_is count u units 0, nothing_is)
      where
        nothing_is : sum_by count (take 0 units) ≡ 0
        nothing_is = refl

    to : (m : ProgramMark) → PassesFrom count limit (sum + count u) (suc place) units m → PassesFrom count limit sum place (u ∷ units) m
    to m r = record {
      k = suc r.k;
      before = omega (arith, r.before, cons_is count u units r.k);
      behind = omega (arith, r.behind, cons_is count u units (suc r.k));
      mark_is = one_on 37 limit 1 place r.k m r.mark_is;
    }

    from_at : sum + count u ≤ limit → (m : ProgramMark) (k : ℕ) → sum + sum_by count (take k (u ∷ units)) ≤ limit → limit < sum + sum_by count (take (suc k) (u ∷ units)) → m ≡ mark_at 37 limit (Some (place + k)) 1 → PassesFrom count limit (sum + count u) (suc place) units m
    from_at w m zero b p i = absurd (omega (arith, w, p, first_is))
    from_at w m (suc k) b p i = record {
      k = k;
      before = omega (arith, b, cons_is count u units k);
      behind = omega (arith, p, cons_is count u units (suc k));
      mark_is = one_back 37 limit 1 place k m i;
    }

    go : (b : Bool) → nat_lt limit (sum + count u) ≡ b → (sum + count u ≤ limit → Earliest (PassesFrom count limit (sum + count u) (suc place) units) (passing count limit (sum + count u) (suc place) units)) → Earliest (PassesFrom count limit sum place (u ∷ units)) (if b then Some (mark_at 37 limit (Some place) 1) else passing count limit (sum + count u) (suc place) units)
    go true e rest = record {
      shows = record { k = 0; before = omega (arith, h); behind = omega (arith, over limit (sum + count u) e, first_is); mark_is = ap (λ q. mark_at 37 limit (Some q) 1) (omega arith) };
      first = λ m r. from_here 37 limit 1 place r.k m r.mark_is;
    }
    go false e rest =
        let w : sum + count u ≤ limit = within limit (sum + count u) e in
        mapped (PassesFrom count limit (sum + count u) (suc place) units) (PassesFrom count limit sum place (u ∷ units)) (passing count limit (sum + count u) (suc place) units) to (λ m r. from_at w m r.k r.before r.behind r.mark_is) (rest w)

pub passing_found : (count : SourceUnit → ℕ) (limit : ℕ) (units : List SourceUnit) → Earliest (Passes count limit units) (passing count limit 0 0 units)
passing_found count limit units = mapped (PassesFrom count limit 0 0 units) (Passes count limit units) (passing count limit 0 0 units)
    (λ m r. record { place = r.k; before = omega (arith, r.before); behind = omega (arith, r.behind); mark_is = r.mark_is ∙ ap (λ q. mark_at 37 limit (Some q) 1) (omega arith) })
    (λ m r. record { k = r.place; before = omega (arith, r.before); behind = omega (arith, r.behind); mark_is = r.mark_is ∙ ap (λ q. mark_at 37 limit (Some q) 1) (omega arith) })
    (passing_first count limit 0 0 units (omega arith))
