-- Units taken one after another.
use Rattle.std.proofs.Common.{◌≡◌, ℕ, suc, ◌+◌, ◌≤◌, ◌<◌, None, List, [], ◌∷◌, ◌++◌, length, take, drop, get_or, refl, sym, ap, ◌∙◌, subst}
use Rattle.std.specs.List.{All, AllZip}
use Rattle.std.proofs.lemmas.List.{take_more, take_all}
use Rattle.std.proofs.lemmas.List.Elements.{All-nil, All-push}
use Rattle.std.proofs.Math.Seq.{split_at}
use Rattle.f77_tree.specs.declared.fault.Refused.{Refused}
use Rattle.f77_tree.specs.declared.fault.Refused.TheVariants.{Fault, OutOfMemory as Starved}
use Rattle.f77_tree.specs.declared.unit.Unit.{Unit as SourceUnit}
use Rattle.fixed_form.specs.declared.reader.UnitText.{UnitText}
use Rattle.f77_parse.specs.Parsed as parsed
use Rattle.f77_parse.specs.Statements.{EndsUnit}
use Rattle.f77_parse.specs.UnitFaults as text
use Rattle.f77_check.specs.UnitFaults as checked
use Rattle.prog_check.specs.ProgramFaults as program
use Rattle.call_cycles.specs.Marks.{mark_at}
use Rattle.rn_draft.specs.Accepted.{IsAccepted, Accepted, Explains, of_text, of_tree, of_unit, of_program}
use Rattle.rn_draft.specs.Gathering.{HasFewTokens, ExplainsUnit, ExplainsAmong}

-- ---- one unit

pub text_fault : (e : Refused) (u : UnitText) → text.Explains e u → ExplainsUnit e u
text_fault (Fault fault) u h = of_text h
text_fault Starved u h = tt

pub tree_fault : (e : Refused) (u : UnitText) (unit : SourceUnit) → parsed.IsUnit u unit → parsed.IsFaultless u → checked.Explains e unit → ExplainsUnit e u
tree_fault (Fault fault) u unit is faultless h = of_tree unit is faultless h
tree_fault Starved u unit is faultless h = tt

-- ---- units so far with their trees

pub record Gathered (units : List UnitText) (i : ℕ) (trees : List SourceUnit) : Type 0 where
  pub accepted : AllZip IsAccepted (take i units) trees
  pub few : All HasFewTokens trees

pub gathered_start : (units : List UnitText) → Gathered units 0 []
gathered_start units = record { accepted = tt; few = All-nil HasFewTokens }

zip_push : {A B : Type 0} (R : A → B → Type 0) (xs : List A) (x : A) (zs : List B) (z : B) → AllZip R xs zs → R x z → AllZip R (xs ++ x ∷ []) (zs ++ z ∷ [])
zip_push R [] x [] z h r = (r, tt)
zip_push R [] x (w ∷ zs) z h r = absurd h
zip_push R (w ∷ xs) x [] z h r = absurd h
zip_push R (w ∷ xs) x (v ∷ zs) z h r = (h.0, zip_push R xs x zs z h.1 r)

pub gathered_more : (units : List UnitText) (i : ℕ) (unit : UnitText) (trees next : List SourceUnit) (tree : SourceUnit) → i < length units → unit ≡ get_or units i unit → Gathered units i trees →
    IsAccepted unit tree → HasFewTokens tree → next ≡ trees ++ tree ∷ [] → Gathered units (i + 1) next
gathered_more units i unit trees next tree l e g accepted few is =
    let cut : take (i + 1) units ≡ take i units ++ unit ∷ [] = take_more units i unit l ∙ ap (λ y. take i units ++ y ∷ []) (sym e) in
    subst (Gathered units (i + 1)) (sym is) (record {
      accepted = subst (λ us. AllZip IsAccepted us (trees ++ tree ∷ [])) (sym cut) (zip_push IsAccepted (take i units) unit trees tree g.accepted accepted);
      few = All-push HasFewTokens trees tree g.few few;
    })

pub gathered_all : (units : List UnitText) (i : ℕ) (trees : List SourceUnit) → length units ≤ i → Gathered units i trees → AllZip IsAccepted units trees
gathered_all units i trees l g = subst (λ us. AllZip IsAccepted us trees) (take_all i units l) g.accepted

pub gathered_fault : (e : Refused) (units : List UnitText) (i : ℕ) (unit : UnitText) (trees : List SourceUnit) → i < length units → unit ≡ get_or units i unit → Gathered units i trees → ExplainsUnit e unit → ExplainsAmong e units
gathered_fault (Fault fault) units i unit trees l e g h = record {
  before = take i units;
  unit = unit;
  behind = drop (suc i) units;
  cut = split_at units i unit l ∙ ap (λ y. take i units ++ y ∷ drop (suc i) units) (sym e);
  trees = trees;
  accepted = g.accepted;
  first = h;
}
gathered_fault Starved units i unit trees l e g h = tt

pub ended_at : (units : List UnitText) (i : ℕ) (unit : UnitText) → i < length units → unit ≡ get_or units i unit → All EndsUnit units → EndsUnit unit
ended_at units i unit l e h = subst EndsUnit (sym e) (h i unit l)

-- ---- the program

pub among_fault : (e : Refused) (units : List UnitText) → ExplainsAmong e units → Explains e units
among_fault (Fault fault) units h = of_unit h
among_fault Starved units h = tt

pub program_fault : (e : Refused) (units : List UnitText) (trees : List SourceUnit) → AllZip IsAccepted units trees → program.Explains e trees → Explains e units
program_fault (Fault fault) units trees each h = of_program trees each h
program_fault Starved units trees each h = tt

no_trees : (trees : List SourceUnit) → AllZip IsAccepted [] trees → trees ≡ []
no_trees [] h = refl
no_trees (t ∷ trees) h = absurd h

-- no units are no program
pub no_program : (trees : List SourceUnit) → Accepted [] trees → ⊥
no_program trees a = (subst program.IsAccepted (no_trees trees a.each) a.whole).none (mark_at 27 0 None 0) (program.mains (program.no_main (record { lacks = refl; mark_is = refl })))
