-- A table that tells a slot more.
use Rattle.std.proofs.Common.{◌≡◌, ℕ, suc, ◌+◌, ◌<◌, Bool, true, false, cond, List, Option, Some, None, length, drop, get_or, refl, sym, ap, ◌∙◌, subst, if◌then◌else◌, add-one}
use Rattle.std.proofs.Math.Seq.{drop-cons}
use Rattle.std.proofs.lemmas.Cmp.{nat_list_eq_equiv}
use Rattle.f77_names.specs.declared.facts.Facts.{Facts}
use Rattle.f77_store.specs.declared.storage.Slot.{Slot}
use Rattle.f77_values.specs.Tables.{Name, Told, name_eq, what}
use Rattle.f77_names.specs.Roles.{role}
use Rattle.f77_values.proofs.SameNames.{same_name}
use Rattle.f77_semantics.specs.Terms.{meant_as}
use Rattle.f77_semantics.specs.Source.{slot_named}
use Rattle.interp_data.specs.declared.meaning.Meaning.{Meaning}
use Rattle.interp_data.specs.Meanings.{meant_of, meaning_as, is_told, told_or, slot_before, TellsMore, Tells}
use Rattle.interp_data.proofs.Exact.{meant-there, only_meaning}

module _ (f : Facts) where
  first_told : (s : Slot) (q : Name) (old : Option Meaning) (others : Option Slot) (m : Meaning) → is_told old ≡ false → name_eq q s.name ≡ true
      → meant_of m ≡ meant_as f.constants q (role f q) (Some s) → m ≡ told_or f q old (slot_before q s others)
  first_told s q None others m t e h = only_meaning h ∙ ap (λ b. meaning_as (meant_as f.constants q (role f q) (cond b (Some s) others))) (sym e)
  first_told s q (Some old) others m t e h = cc

  not_named : (s : Slot) (q : Name) (old : Option Meaning) (others : Option Slot) → name_eq q s.name ≡ false → told_or f q old others ≡ told_or f q old (slot_before q s others)
  not_named s q old others e = ap (λ b. told_or f q old (cond b (Some s) others)) (sym e)

  pub tells_more : (s : Slot) (old new : Told Meaning) (m : Meaning)
      → is_told (what old s.name) ≡ false
      → meant_of m ≡ meant_as f.constants s.name (role f s.name) (Some s)
      → ((q : Name) → what new q ≡ (if name_eq s.name q then Some m else what old q))
      → TellsMore f s old new
  tells_more s old new m t h w q others = ap (λ o. told_or f q o others) (w q) ∙ by_name (name_eq s.name q) refl
    where
      by_name : (b : Bool) → name_eq s.name q ≡ b → told_or f q (cond b (Some m) (what old q)) others ≡ told_or f q (what old q) (slot_before q s others)
      by_name true e =
          let same : s.name ≡ q = same_name s.name q e in
          first_told s q (what old q) others m (subst (λ n. is_told (what old n) ≡ false) same t) (nat_list_eq_equiv.symm q s.name ∙ e) (subst (λ n. meant_of m ≡ meant_as f.constants n (role f n) (Some s)) same h)
      by_name false e = not_named s q (what old q) others (nat_list_eq_equiv.symm q s.name ∙ e)

  named_first : (slots : List Slot) (i : ℕ) (d : Slot) (q : Name) → i < length slots → slot_named (drop i slots) q ≡ slot_before q (get_or slots i d) (slot_named (drop (suc i) slots) q)
  named_first slots i d q h = ap (λ ss. slot_named ss q) (drop-cons slots i d h)

  -- the slots that are left, one less
  pub tells_next : (slots : List Slot) (i : ℕ) (d : Slot) (old new : Told Meaning)
      → ((q : Name) → told_or f q (what old q) (slot_named (drop i slots) q) ≡ told_or f q None (slot_named slots q))
      → i < length slots → TellsMore f (get_or slots i d) old new
      → (q : Name) → told_or f q (what new q) (slot_named (drop (i + 1) slots) q) ≡ told_or f q None (slot_named slots q)
  tells_next slots i d old new h within more q =
      subst (λ (k : ℕ). told_or f q (what new q) (slot_named (drop k slots) q) ≡ told_or f q None (slot_named slots q)) (sym (add-one i))
      (more q (slot_named (drop (suc i) slots) q) ∙ (ap (told_or f q (what old q)) (sym (named_first slots i d q within)) ∙ h q))

  -- what isn't told has no slot
  pub untold : (slots : List Slot) (told : Told Meaning) → Tells f slots told → (q : Name) → what told q ≡ None → meant_as f.constants q (role f q) None ≡ meant_as f.constants q (role f q) (slot_named slots q)
  untold slots told h q e =
      let alike : meaning_as (meant_as f.constants q (role f q) None) ≡ meaning_as (meant_as f.constants q (role f q) (slot_named slots q)) = ap (λ o. told_or f q o None) (sym e) ∙ h q in
      sym (meant-there (meant_as f.constants q (role f q) None)) ∙ (ap meant_of alike ∙ meant-there (meant_as f.constants q (role f q) (slot_named slots q)))

  pub told : (slots : List Slot) (told : Told Meaning) (m : Meaning) → Tells f slots told → (q : Name) → what told q ≡ Some m → meant_of m ≡ meant_as f.constants q (role f q) (slot_named slots q)
  told slots t m h q e =
      let alike : m ≡ meaning_as (meant_as f.constants q (role f q) (slot_named slots q)) = ap (λ o. told_or f q o None) (sym e) ∙ h q in
      ap meant_of alike ∙ meant-there (meant_as f.constants q (role f q) (slot_named slots q))
