-- What the scans of texts, main programs and sums find comes first.
use Rattle.std.proofs.Common.{◌≡◌, ℕ, zero, suc, ◌+◌, ◌<◌, ◌≤◌, min, List, [], ◌∷◌, Bool, true, false, ◌||◌, Some, None, length, take, fold, map, refl, sym, subst, ap, ◌∙◌, ◌⊎◌, inl, inr, arith, if◌then◌else◌}
use Rattle.std.specs.declared.option.Option.{Option}
use Rattle.std.specs.Prelude.{nat_lt, option_map, sum_by}
use Rattle.std.specs.List.{slice_get, list_any}
use Rattle.std.proofs.lemmas.Bool.Decides.{nat_tests}
use Rattle.std.proofs.lemmas.List.Sums.{sum_by-cons}
use Rattle.f77_tree.specs.declared.unit.Unit.{Unit as SourceUnit}
use Rattle.call_cycles.specs.declared.marks.ProgramMark.{ProgramMark}
use Rattle.prog_texts.specs.declared.mentions.Mention.{Mention}
use Rattle.prog_check.specs.declared.checks.Check.{Check}
use Rattle.prog_check.specs.Checks.{shows, line_of, number_of}
use Rattle.prog_check.specs.Mains.{is_main, has_main, IsLaterMain}
use Rattle.prog_check.specs.Limits.{Passes}
use Rattle.call_cycles.specs.Marks.{comes_first, IsFirst, Earliest}
use Rattle.prog_texts.specs.Mentions.{mentions}
use Rattle.prog_check.specs.Scans.{sooner, with_mention, earliest_line, mark_or, first_text, later_main, passing}
use Rattle.call_cycles.specs.Marks.{mark_at}
use Rattle.prog_check.specs.Shown.{TextShows}
use Rattle.prog_texts.specs.Signatures.{Signatures, signatures}
use Rattle.call_cycles.proofs.Firsts.{earlier_unit, earlier_line, mapped}

less : (x y : ℕ) → (x ≤ y) ⊎ (y < x)
less zero y = inl (omega arith)
less (suc x) zero = inr (omega arith)
less (suc x) (suc y) = elim (less x y) [ inl h ↦ inl (omega arith) | inr h ↦ inr (omega arith) ]

-- ---- one text

module _ (c : Check) (all : Signatures) where
  record Shown (text : List Mention) (line : ℕ) : Type 0 where
    at : ℕ
    mention : Mention
    says : slice_get text at ≡ Some mention
    holds : shows c all mention ≡ true
    line_is : line_of mention ≡ line

  abbrev AtMost : Option ℕ → ℕ → Type 0
  AtMost None n = ⊥
  AtMost (Some l) n = l ≤ n

  weaker : (r : Option ℕ) (m n : ℕ) → m ≤ n → AtMost r m → AtMost r n
  weaker None m n h a = a
  weaker (Some l) m n h a = omega arith

  record Least (text : List Mention) (best found : Option ℕ) : Type 0 where
    told : (line : ℕ) → found ≡ Some line → (best ≡ Some line) ⊎ Shown text line
    best_is : (b : ℕ) → best ≡ Some b → AtMost found b
    each : (at : ℕ) (m : Mention) → slice_get text at ≡ Some m → shows c all m ≡ true → AtMost found (line_of m)

  some_is : {A : Type 0} (x y : A) → Some x ≡ Some y → x ≡ y
  some_is x y e = cc

  none_some : {A : Type 0} (x : A) → None ≡ Some x → ⊥
  none_some x e = cc

  behind : (m : Mention) (text : List Mention) (line : ℕ) → Shown text line → Shown (m ∷ text) line
  behind m text line s = record { at = suc s.at; mention = s.mention; says = s.says; holds = s.holds; line_is = s.line_is }

  -- one more mention, with what was best before
  told_here : (m : Mention) (text : List Mention) (best : Option ℕ) (b : Bool) → shows c all m ≡ b → (line : ℕ) → (if b then sooner best (line_of m) else best) ≡ Some line → (best ≡ Some line) ⊎ Shown (m ∷ text) line
  told_here m text None true e line h = inr (record { at = 0; mention = m; says = refl; holds = e; line_is = some_is (line_of m) line h })
  told_here m text (Some x) true e line h =
      let i : min x (line_of m) ≡ line = some_is (min x (line_of m)) line h in
      elim (less x (line_of m)) [
        | inl l ↦ inl (ap Some (omega (arith, i)))
        | inr l ↦ inr (record { at = 0; mention = m; says = refl; holds = e; line_is = omega (arith, i) })
      ]
  told_here m text best false e line h = inl h

  kept_best : (m : Mention) (best found : Option ℕ) (b : Bool) → ((x : ℕ) → (if b then sooner best (line_of m) else best) ≡ Some x → AtMost found x) → (x : ℕ) → best ≡ Some x → AtMost found x
  kept_best m None found b h x e = absurd (none_some x e)
  kept_best m (Some y) found true h x e =
      let same : y ≡ x = some_is y x e in
      weaker found (min y (line_of m)) x (omega (arith, same)) (h (min y (line_of m)) refl)
  kept_best m (Some y) found false h x e = h x e

  this_one : (m : Mention) (best found : Option ℕ) (b : Bool) → b ≡ true → ((x : ℕ) → (if b then sooner best (line_of m) else best) ≡ Some x → AtMost found x) → AtMost found (line_of m)
  this_one m None found true e h = h (line_of m) refl
  this_one m (Some y) found true e h = weaker found (min y (line_of m)) (line_of m) (omega arith) (h (min y (line_of m)) refl)
  this_one m best found false e h = cc

  least_more : (m : Mention) (text : List Mention) (best : Option ℕ) → Least text (with_mention c all best m) (fold (with_mention c all) (with_mention c all best m) text) → Least (m ∷ text) best (fold (with_mention c all) (with_mention c all best m) text)
  least_more m text best rest = record { told = told; best_is = best_is; each = each }
    where
      told : (line : ℕ) → fold (with_mention c all) (with_mention c all best m) text ≡ Some line → (best ≡ Some line) ⊎ Shown (m ∷ text) line
      told line e = elim (rest.told line e) [ inl h ↦ told_here m text best (shows c all m) refl line h | inr s ↦ inr (behind m text line s) ]

      best_is : (b : ℕ) → best ≡ Some b → AtMost (fold (with_mention c all) (with_mention c all best m) text) b
      best_is = kept_best m best (fold (with_mention c all) (with_mention c all best m) text) (shows c all m) rest.best_is

      each : (at : ℕ) (n : Mention) → slice_get (m ∷ text) at ≡ Some n → shows c all n ≡ true → AtMost (fold (with_mention c all) (with_mention c all best m) text) (line_of n)
      each zero n e s =
          let same : m ≡ n = some_is m n e in
          subst (λ x. AtMost (fold (with_mention c all) (with_mention c all best m) text) (line_of x)) same
          (this_one m best (fold (with_mention c all) (with_mention c all best m) text) (shows c all m) (ap (shows c all) same ∙ s) rest.best_is)
      each (suc at) n e s = rest.each at n e s

  least : (text : List Mention) (best : Option ℕ) → Least text best (fold (with_mention c all) best text)
  least [] best = record { told = λ line e. inl e; best_is = itself best; each = λ at m e s. absurd (none_some m e) }
    where
      itself : (best : Option ℕ) (b : ℕ) → best ≡ Some b → AtMost best b
      itself None b e = absurd (none_some b e)
      itself (Some x) b e = let same : x ≡ b = some_is x b e in omega (arith, same)
  least (m ∷ text) best = least_more m text best (least text (with_mention c all best m))

  -- ---- all texts

  record RowShows (place : ℕ) (texts : List (List Mention)) (mark : ProgramMark) : Type 0 where
    k : ℕ
    text : List Mention
    stands : slice_get texts k ≡ Some text
    line : ℕ
    shown : Shown text line
    mark_is : mark ≡ mark_at (number_of c) 0 (Some (place + k)) line

  text_first : (place : ℕ) (texts : List (List Mention)) → Earliest (RowShows place texts) (first_text c all place texts)
  text_first place [] = λ m r. none_some r.text r.stands
  text_first place (text ∷ texts) = go (earliest_line c all text) (least text None) (first_text c all (suc place) texts) (text_first (suc place) texts)
    where
      later : (m : ProgramMark) → RowShows (suc place) texts m → RowShows place (text ∷ texts) m
      later m r = record { k = suc r.k; text = r.text; stands = r.stands; line = r.line; shown = r.shown; mark_is = r.mark_is ∙ ap (λ n. mark_at (number_of c) 0 (Some n) r.line) (omega arith) }

      lines : (line : ℕ) (found : Option ℕ) → found ≡ Some line → Least text None found → (other : ℕ) → Shown text other → line ≤ other
      lines line found e h other s =
          let m : AtMost (Some line) (line_of s.mention) = subst (λ x. AtMost x (line_of s.mention)) e (h.each s.at s.mention s.says s.holds) in
          omega (arith, m, s.line_is)

      first : (line : ℕ) → Least text None (Some line) → (m : ProgramMark) (k : ℕ) (t : List Mention) → slice_get (text ∷ texts) k ≡ Some t → (other : ℕ) → Shown t other → m ≡ mark_at (number_of c) 0 (Some (place + k)) other → comes_first (mark_at (number_of c) 0 (Some place) line) m ≡ true
      first line h m zero t e other s i =
          let same : text ≡ t = some_is text t e in
          let below : line ≤ other = lines line (Some line) refl h other (subst (λ x. Shown x other) (sym same) s) in
          subst (λ x. comes_first (mark_at (number_of c) 0 (Some place) line) x ≡ true) (sym (i ∙ ap (λ n. mark_at (number_of c) 0 (Some n) other) (omega arith))) (earlier_line (number_of c) 0 place line other below)
      first line h m (suc k) t e other s i =
          subst (λ x. comes_first (mark_at (number_of c) 0 (Some place) line) x ≡ true) (sym i) (earlier_unit (number_of c) 0 place (place + suc k) line other (omega arith))

      shown_at : (line : ℕ) → Least text None (Some line) → Shown text line
      shown_at line h = elim (h.told line refl) [ inl e ↦ absurd (none_some line e) | inr s ↦ s ]

      go : (found : Option ℕ) → Least text None found → (rest : Option ProgramMark) → Earliest (RowShows (suc place) texts) rest → Earliest (RowShows place (text ∷ texts)) (mark_or c place found rest)
      go None h rest r = mapped (RowShows (suc place) texts) (RowShows place (text ∷ texts)) rest later from r
        where
          from : (m : ProgramMark) → RowShows place (text ∷ texts) m → RowShows (suc place) texts m
          from m s = sooner_or s.k s.text s.stands s.line s.shown s.mark_is
            where
              sooner_or : (k : ℕ) (t : List Mention) → slice_get (text ∷ texts) k ≡ Some t → (line : ℕ) → Shown t line → m ≡ mark_at (number_of c) 0 (Some (place + k)) line → RowShows (suc place) texts m
              sooner_or zero t e line sh i =
                  let same : text ≡ t = some_is text t e in
                  let here : Shown text line = subst (λ x. Shown x line) (sym same) sh in
                  absurd (h.each here.at here.mention here.says here.holds)
              sooner_or (suc k) t e line sh i = record { k = k; text = t; stands = e; line = line; shown = sh; mark_is = i ∙ ap (λ n. mark_at (number_of c) 0 (Some n) line) (omega arith) }
      go (Some line) h rest r = record {
        shows = record { k = 0; text = text; stands = refl; line = line; shown = shown_at line h; mark_is = ap (λ n. mark_at (number_of c) 0 (Some n) line) (omega arith) };
        first = λ m s. first line h m s.k s.text s.stands s.line s.shown s.mark_is;
      }

pub text_found : (units : List SourceUnit) (c : Check) → Earliest (TextShows units c) (first_text c (signatures units) 0 (map mentions units))
text_found units c = mapped (RowShows c (signatures units) 0 (map mentions units)) (TextShows units c) (first_text c (signatures units) 0 (map mentions units)) to from (text_first c (signatures units) 0 (map mentions units))
  where
    unit_at : (us : List SourceUnit) (k : ℕ) (text : List Mention) → slice_get (map mentions us) k ≡ Some text → (u : SourceUnit) × (slice_get us k ≡ Some u) × (mentions u ≡ text)
    unit_at [] k text e = absurd (none_some c (signatures units) text e)
    unit_at (u ∷ us) zero text e = (u, refl, some_is c (signatures units) (mentions u) text e)
    unit_at (u ∷ us) (suc k) text e = unit_at us k text e

    text_at : (us : List SourceUnit) (k : ℕ) (u : SourceUnit) → slice_get us k ≡ Some u → slice_get (map mentions us) k ≡ Some (mentions u)
    text_at [] k u e = absurd (none_some c (signatures units) u e)
    text_at (v ∷ us) zero u e = ap (λ x. Some (mentions x)) (some_is c (signatures units) v u e)
    text_at (v ∷ us) (suc k) u e = text_at us k u e

    to : (m : ProgramMark) → RowShows c (signatures units) 0 (map mentions units) m → TextShows units c m
    to m r =
        let u = unit_at units r.k r.text r.stands in
        record {
          place = r.k;
          unit = u.0;
          stands = u.1;
          at = r.shown.at;
          mention = r.shown.mention;
          says = subst (λ t. slice_get t r.shown.at ≡ Some r.shown.mention) (sym u.2) r.shown.says;
          holds = r.shown.holds;
          mark_is = r.mark_is ∙ (ap (λ n. mark_at (number_of c) 0 (Some n) r.line) (omega arith) ∙ ap (mark_at (number_of c) 0 (Some r.k)) (sym r.shown.line_is));
        }

    from : (m : ProgramMark) → TextShows units c m → RowShows c (signatures units) 0 (map mentions units) m
    from m s = record {
      k = s.place;
      text = mentions s.unit;
      stands = text_at units s.place s.unit s.stands;
      line = line_of s.mention;
      shown = record { at = s.at; mention = s.mention; says = s.says; holds = s.holds; line_is = refl };
      mark_is = s.mark_is ∙ ap (λ n. mark_at (number_of c) 0 (Some n) (line_of s.mention)) (omega arith);
    }
