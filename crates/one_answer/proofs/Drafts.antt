-- A draft has one list of trees or one first fault.
use Rattle.std.proofs.Common.{◌≡◌, List, [], ◌∷◌, ◌++◌, sym, ◌∙◌, subst}
use Rattle.std.specs.List.{AllZip}
use Rattle.f77_tree.specs.declared.fault.SourceFault.{SourceFault}
use Rattle.f77_tree.specs.declared.unit.Unit.{Unit as SourceUnit}
use Rattle.fixed_form.specs.declared.reader.UnitText.{UnitText}
use Rattle.f77_parse.specs.Parsed.{IsUnit, IsFaultless}
use Rattle.f77_parse.specs.UnitFaults as text
use Rattle.f77_check.specs.UnitFaults as checked
use Rattle.prog_check.specs.ProgramFaults as program
use Rattle.rn_draft.specs.Accepted.{IsAccepted, Accepted, IsUnitFault, of_text, of_tree, IsFaultAmong, IsFirstFault, of_unit, of_program}
use Rattle.one_answer.proofs.Cutting.{Places, same, earlier, later, places}
use Rattle.one_answer.proofs.Trees.{one_list_of}

module _
    (one_tree : (u : UnitText) (a b : SourceUnit) → IsUnit u a → IsUnit u b → a ≡ b)
    (one_text : (u : UnitText) (a b : SourceFault) → text.IsUnitFault a u → text.IsUnitFault b u → a ≡ b)
    (no_text : (u : UnitText) (fault : SourceFault) → IsFaultless u → text.IsUnitFault fault u → ⊥)
    (one_check : (u : SourceUnit) (a b : SourceFault) → checked.IsUnitFault a u → checked.IsUnitFault b u → a ≡ b)
    (no_check : (u : SourceUnit) (fault : SourceFault) → checked.IsSound u → checked.IsUnitFault fault u → ⊥)
    (one_program : (units : List SourceUnit) (a b : SourceFault) → program.IsProgramFault a units → program.IsProgramFault b units → a ≡ b)
    (no_program : (units : List SourceUnit) (fault : SourceFault) → program.IsAccepted units → program.IsProgramFault fault units → ⊥) where
  -- ---- a unit

  one_of_unit : (u : UnitText) (a b : SourceFault) → IsUnitFault a u → IsUnitFault b u → a ≡ b
  one_of_unit u a b (of_text h) (of_text k) = one_text u a b h k
  one_of_unit u a b (of_text h) (of_tree unit tree none k) = absurd (no_text u a none h)
  one_of_unit u a b (of_tree unit tree none h) (of_text k) = absurd (no_text u b none k)
  one_of_unit u a b (of_tree unit tree none h) (of_tree other is clear k) =
      one_check unit a b h (subst (checked.IsUnitFault b) (one_tree u other unit is tree) k)

  no_of_unit : (u : UnitText) (unit : SourceUnit) (fault : SourceFault) → IsAccepted u unit → IsUnitFault fault u → ⊥
  no_of_unit u unit fault h (of_text k) = no_text u fault h.faultless k
  no_of_unit u unit fault h (of_tree other is none k) = no_check unit fault h.sound (subst (checked.IsUnitFault fault) (one_tree u other unit is h.tree) k)

  one_accepted : (u : UnitText) (a b : SourceUnit) → IsAccepted u a → IsAccepted u b → a ≡ b
  one_accepted u a b h k = one_tree u a b h.tree k.tree

  -- ---- units

  trees_same : (units : List UnitText) (a b : List SourceUnit) → AllZip IsAccepted units a → AllZip IsAccepted units b → a ≡ b
  trees_same = one_list_of IsAccepted one_accepted

  -- a unit among those that have trees has no fault
  none_among : (units before behind : List UnitText) (u : UnitText) (trees : List SourceUnit) (fault : SourceFault) → AllZip IsAccepted units trees → units ≡ before ++ u ∷ behind → IsUnitFault fault u → ⊥
  none_among [] [] behind u trees fault h e k = cc
  none_among [] (b ∷ before) behind u trees fault h e k = cc
  none_among (x ∷ units) before behind u [] fault h e k = h
  none_among (x ∷ units) [] behind u (t ∷ trees) fault h e k =
      let first : x ≡ u = cc in no_of_unit u t fault (subst (λ v. IsAccepted v t) first h.0) k
  none_among (x ∷ units) (b ∷ before) behind u (t ∷ trees) fault h e k =
      let more : units ≡ before ++ u ∷ behind = cc in none_among units before behind u trees fault h.1 more k

  one_among : (units : List UnitText) (a b : SourceFault) → IsFaultAmong a units → IsFaultAmong b units → a ≡ b
  one_among units a b h k = go (places h.before k.before h.behind k.behind h.unit k.unit (sym h.cut ∙ k.cut))
    where
      go : Places h.before k.before h.unit k.unit → a ≡ b
      go (same p q) = one_of_unit h.unit a b h.first (subst (IsUnitFault b) (sym q) k.first)
      go (earlier between p) = absurd (none_among k.before h.before between h.unit k.trees a k.accepted p h.first)
      go (later between p) = absurd (none_among h.before k.before between k.unit h.trees b h.accepted p k.first)

  no_among : (units : List UnitText) (trees : List SourceUnit) (fault : SourceFault) → AllZip IsAccepted units trees → IsFaultAmong fault units → ⊥
  no_among units trees fault h k = none_among units k.before k.behind k.unit trees fault h k.cut k.first

  -- ---- drafts

  pub one_trees : (units : List UnitText) (a b : List SourceUnit) → Accepted units a → Accepted units b → a ≡ b
  one_trees units a b h k = trees_same units a b h.each k.each

  pub one_draft_fault : (units : List UnitText) (a b : SourceFault) → IsFirstFault a units → IsFirstFault b units → a ≡ b
  one_draft_fault units a b (of_unit h) (of_unit k) = one_among units a b h k
  one_draft_fault units a b (of_unit h) (of_program trees each k) = absurd (no_among units trees a each h)
  one_draft_fault units a b (of_program trees each h) (of_unit k) = absurd (no_among units trees b each k)
  one_draft_fault units a b (of_program trees each h) (of_program others all k) =
      one_program trees a b h (subst (program.IsProgramFault b) (trees_same units others trees all each) k)

  pub accepted_or_faulty : (units : List UnitText) (trees : List SourceUnit) (fault : SourceFault) → Accepted units trees → IsFirstFault fault units → ⊥
  accepted_or_faulty units trees fault h (of_unit k) = no_among units trees fault h.each k
  accepted_or_faulty units trees fault h (of_program others all k) = no_program trees fault h.whole (subst (program.IsProgramFault fault) (trees_same units others trees all h.each) k)
