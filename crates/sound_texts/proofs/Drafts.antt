-- Drafts, and the trees of those that are accepted.
use Rattle.std.proofs.Common.{◌≡◌, ℕ, zero, suc, Some, List, [], ◌∷◌, map, slice_get, refl, sym, ap, ◌∙◌, subst, arith}
use Rattle.std.specs.List.{All, AllZip}
use Rattle.f77_tree.specs.declared.unit.Unit.{Unit as SourceUnit}
use Rattle.fixed_form.specs.declared.reader.UnitText.{UnitText}
use Rattle.f77_values.specs.Tables.{Name, Told, told}
use Rattle.f77_parse.specs.Statements.{EndsUnit}
use Rattle.sound_units.specs.Sites.{Each}
use Rattle.rn_draft.specs.Accepted.{IsAccepted, Accepted}
use Rattle.rn_draft.specs.Drafts.{named, drafted}
use Rattle.sound_texts.specs.Laws.{AreSound, DraftsDiffer, TreesAreTexts}
use Rattle.sound_units.proofs.Tables.{some_is, each_at, told_each}
use Rattle.sound_texts.proofs.Names.{distinct_all, apart}

abbrev entries : List UnitText → Told UnitText
entries units = told (map named units)

-- a unit of a draft and its entry
record HasEntry (es : Told UnitText) (i : ℕ) (u : UnitText) : Type 0 where
  entry : Name × UnitText
  stands : slice_get es i ≡ Some entry
  is : entry.1 ≡ u

has_entry : (es : Told UnitText) (i : ℕ) (u : UnitText) → slice_get (map (λ e. e.1) es) i ≡ Some u → HasEntry es i u
has_entry [] i u e = absurd (cc)
has_entry (x ∷ es) zero u e = record { entry = x; stands = refl; is = some_is x.1 u e }
has_entry (x ∷ es) (suc i) u e =
    let r = has_entry es i u e in
    record { entry = r.entry; stands = r.stands; is = r.is }

-- each entry has the name of its unit, and what holds of all units holds of it
record Fits (P : UnitText → Type 0) (e : Name × UnitText) : Type 0 where
  name_is : e.1.name ≡ e.0
  holds : P e.1

named_fit : (P : UnitText → Type 0) (units : List UnitText) → All P units → Each (Fits P) (map named units)
named_fit P [] h = tt
named_fit P (u ∷ units) h = (record { name_is = refl; holds = h 0 u (omega arith) }, named_fit P units (λ k d l. h (suc k) d (omega arith)))

fitting : (P : UnitText → Type 0) (units : List UnitText) → All P units → (i : ℕ) (u : UnitText) → slice_get (drafted units) i ≡ Some u → P u
fitting P units h i u e =
    let r = has_entry (entries units) i u e in
    subst P r.is (each_at (Fits P) (entries units) i r.entry (told_each (Fits P) (map named units) [] tt (named_fit P units h)) r.stands).holds

abbrev Any : UnitText → Type 0
Any u = Unit {0}

own_name : (units : List UnitText) (i : ℕ) (u : UnitText) (r : HasEntry (entries units) i u) → r.entry.0 ≡ u.name
own_name units i u r =
    sym (each_at (Fits Any) (entries units) i r.entry (told_each (Fits Any) (map named units) [] tt (named_fit Any units (λ k d l. tt))) r.stands).name_is
    ∙ ap (λ (v : UnitText). v.name) r.is

pub drafts_differ : DraftsDiffer
drafts_differ units i j u v e g same =
    let r = has_entry (entries units) i u e in
    let s = has_entry (entries units) j v g in
    apart (entries units) i j r.entry s.entry (distinct_all (map named units) [] tt) r.stands s.stands (own_name units i u r ∙ (same ∙ sym (own_name units j v s)))

-- ---- trees

-- a tree and its text
record HasText (units : List UnitText) (k : ℕ) (unit : SourceUnit) : Type 0 where
  text : UnitText
  stands : slice_get units k ≡ Some text
  accepted : IsAccepted text unit

has_text : (units : List UnitText) (trees : List SourceUnit) → AllZip IsAccepted units trees → (k : ℕ) (unit : SourceUnit) → slice_get trees k ≡ Some unit → HasText units k unit
has_text [] [] h k unit e = absurd (cc)
has_text [] (t ∷ trees) h k unit e = absurd h
has_text (u ∷ units) [] h k unit e = absurd h
has_text (u ∷ units) (t ∷ trees) h zero unit e = record { text = u; stands = refl; accepted = subst (IsAccepted u) (some_is t unit e) h.0 }
has_text (u ∷ units) (t ∷ trees) h (suc k) unit e =
    let r = has_text units trees h.1 k unit e in
    record { text = r.text; stands = r.stands; accepted = r.accepted }

pub accepted_sound : TreesAreTexts → (units : List UnitText) (trees : List SourceUnit) → All EndsUnit units → Accepted (drafted units) trees → AreSound trees
accepted_sound tree_text units trees ends a = record {
  good = λ k unit e.
      let r = has_text (drafted units) trees a.each k unit e in record {
        sound = r.accepted.sound;
        text = tree_text r.text unit (fitting EndsUnit units ends k r.text r.stands) r.accepted.tree r.accepted.faultless;
      };
  differ = λ i j u v e g same.
      let r = has_text (drafted units) trees a.each i u e in
      let s = has_text (drafted units) trees a.each j v g in
      drafts_differ units i j r.text s.text r.stands s.stands (sym r.accepted.tree.name ∙ (same ∙ s.accepted.tree.name));
  whole = a.whole;
}
