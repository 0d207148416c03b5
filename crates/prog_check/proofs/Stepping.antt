-- A scan, one step on.
use Rattle.std.proofs.Common.{◌≡◌, ℕ, suc, ◌+◌, ◌<◌, List, [], ◌∷◌, Bool, true, false, Some, None, length, drop, get_or, refl, sym, ap, ◌∙◌, add-one, if◌then◌else◌}
use Rattle.std.specs.declared.option.Option.{Option}
use Rattle.std.proofs.lemmas.List.{drop_more}
use Rattle.f77_tree.specs.declared.unit.Unit.{Unit as SourceUnit}
use Rattle.call_cycles.specs.declared.marks.ProgramMark.{ProgramMark}
use Rattle.prog_texts.specs.declared.mentions.Mention.{Mention}
use Rattle.prog_check.specs.declared.checks.Check.{Check}
use Rattle.prog_check.specs.Mains.{is_main}
use Rattle.prog_check.specs.Scans.{earliest_line, mark_or, first_text, later_main}
use Rattle.call_cycles.specs.Marks.{mark_at}
use Rattle.prog_texts.specs.Signatures.{Signatures}

pub text_more : (c : Check) (all : Signatures) (texts : List (List Mention)) (i : ℕ) (text : List Mention) (found : Option ℕ) → i < length texts → text ≡ get_or texts i text → found ≡ earliest_line c all text
    → first_text c all i (drop i texts) ≡ mark_or c i found (first_text c all (i + 1) (drop (i + 1) texts))
text_more c all texts i text found h e f =
    ap (first_text c all i) (drop_more texts i text h ∙ ap (λ x. x ∷ drop (i + 1) texts) (sym e))
    ∙ (ap (λ x. mark_or c i x (first_text c all (suc i) (drop (i + 1) texts))) (sym f)
    ∙ ap (λ n. mark_or c i found (first_text c all n (drop (i + 1) texts))) (sym (add-one i)))

pub main_more : (seen : Bool) (units : List SourceUnit) (i : ℕ) (u : SourceUnit) (test : Bool) → i < length units → u ≡ get_or units i u → test ≡ is_main u
    → later_main seen i (drop i units) ≡ (if test then (if seen then Some (mark_at 28 0 (Some i) 1) else later_main true (i + 1) (drop (i + 1) units)) else later_main seen (i + 1) (drop (i + 1) units))
main_more seen units i u test h e t =
    ap (later_main seen i) (drop_more units i u h ∙ ap (λ x. x ∷ drop (i + 1) units) (sym e))
    ∙ (ap (λ x. if x then (if seen then Some (mark_at 28 0 (Some i) 1) else later_main true (suc i) (drop (i + 1) units)) else later_main seen (suc i) (drop (i + 1) units)) (sym t)
    ∙ ap (λ n. if test then (if seen then Some (mark_at 28 0 (Some i) 1) else later_main true n (drop (i + 1) units)) else later_main seen n (drop (i + 1) units)) (sym (add-one i)))
