-- The faults of texts and of main programs, from their kinds.
use Rattle.std.proofs.Common.{◌≡◌, ℕ, List, [], map, false, Some, None, refl, sym, subst, ap, ◌∙◌, ◌⊎◌, inl, inr}
use Rattle.std.specs.declared.option.Option.{Option}
use Rattle.f77_tree.specs.declared.unit.Unit.{Unit as SourceUnit}
use Rattle.call_cycles.specs.declared.marks.ProgramMark.{ProgramMark}
use Rattle.prog_texts.specs.declared.mentions.Mention.{Mention}
use Rattle.prog_check.specs.declared.checks.Check.{Check}
use Rattle.prog_check.specs.declared.checks.Check.TheVariants.{BlockName, Callee, Count, Actual, Kind, Procedure}
use Rattle.prog_check.specs.Mains.{LacksMain, IsLaterMain}
use Rattle.call_cycles.specs.Marks.{Earliest, first_of}
use Rattle.prog_texts.specs.Mentions.{mentions}
use Rattle.prog_check.specs.ProgramFaults as p
use Rattle.prog_check.specs.ProgramFaults.{MainFaults, TextFaults}
use Rattle.prog_check.specs.Scans.{first_text, any_text, later_main}
use Rattle.prog_check.specs.Shown.{TextShows}
use Rattle.prog_texts.specs.Signatures.{Signatures, signatures}
use Rattle.call_cycles.proofs.Firsts.{mapped, either}
use Rattle.prog_check.proofs.Scanning.{text_found}
use Rattle.prog_check.proofs.Counting.{later_found}

module _ (units : List SourceUnit) where
  abbrev S : Check → ProgramMark → Type 0
  S c = TextShows units c

  abbrev F : Check → Option ProgramMark
  F c = first_text c (signatures units) 0 (map mentions units)

  abbrev Any : ProgramMark → Type 0
  Any m = S BlockName m ⊎ (S Callee m ⊎ (S Count m ⊎ (S Actual m ⊎ (S Kind m ⊎ S Procedure m))))

  to : (m : ProgramMark) → Any m → TextFaults units m
  to m (inl h) = p.text BlockName h
  to m (inr (inl h)) = p.text Callee h
  to m (inr (inr (inl h))) = p.text Count h
  to m (inr (inr (inr (inl h)))) = p.text Actual h
  to m (inr (inr (inr (inr (inl h))))) = p.text Kind h
  to m (inr (inr (inr (inr (inr h))))) = p.text Procedure h

  of_check : (m : ProgramMark) (c : Check) → S c m → Any m
  of_check m BlockName h = inl h
  of_check m Callee h = inr (inl h)
  of_check m Count h = inr (inr (inl h))
  of_check m Actual h = inr (inr (inr (inl h)))
  of_check m Kind h = inr (inr (inr (inr (inl h))))
  of_check m Procedure h = inr (inr (inr (inr (inr h))))

  from : (m : ProgramMark) → TextFaults units m → Any m
  from m (p.text c h) = of_check m c h

  pub texts_found : Earliest (TextFaults units) (any_text (signatures units) (map mentions units))
  texts_found =
      let kinds = either (S Kind) (S Procedure) (F Kind) (F Procedure) (text_found units Kind) (text_found units Procedure) in
      let actuals = either (S Actual) (λ m. S Kind m ⊎ S Procedure m) (F Actual) (first_of (F Kind) (F Procedure)) (text_found units Actual) kinds in
      let counts = either (S Count) (λ m. S Actual m ⊎ (S Kind m ⊎ S Procedure m)) (F Count) (first_of (F Actual) (first_of (F Kind) (F Procedure))) (text_found units Count) actuals in
      let callees = either (S Callee) (λ m. S Count m ⊎ (S Actual m ⊎ (S Kind m ⊎ S Procedure m))) (F Callee) (first_of (F Count) (first_of (F Actual) (first_of (F Kind) (F Procedure)))) (text_found units Callee) counts in
      let all = either (S BlockName) (λ m. S Callee m ⊎ (S Count m ⊎ (S Actual m ⊎ (S Kind m ⊎ S Procedure m)))) (F BlockName) (first_of (F Callee) (first_of (F Count) (first_of (F Actual) (first_of (F Kind) (F Procedure))))) (text_found units BlockName) callees in
      mapped Any (TextFaults units) (any_text (signatures units) (map mentions units)) to from all

  mains_to : (m : ProgramMark) → LacksMain units m ⊎ IsLaterMain units m → MainFaults units m
  mains_to m (inl h) = p.no_main h
  mains_to m (inr h) = p.two_mains h

  mains_from : (m : ProgramMark) → MainFaults units m → LacksMain units m ⊎ IsLaterMain units m
  mains_from m (p.no_main h) = inl h
  mains_from m (p.two_mains h) = inr h

  pub mains_found : (a b : Option ProgramMark) → Earliest (LacksMain units) a → b ≡ later_main false 0 units → Earliest (MainFaults units) (first_of a b)
  mains_found a b h e =
      let later = subst (Earliest (IsLaterMain units)) (sym e) (later_found units) in
      mapped (λ m. LacksMain units m ⊎ IsLaterMain units m) (MainFaults units) (first_of a b) mains_to mains_from (either (LacksMain units) (IsLaterMain units) a b h later)
