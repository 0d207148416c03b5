-- Where a part isn't read, the whole isn't.
use Rattle.std.proofs.Common.{◌≡◌, ℕ, List, Option, Some, None, length, sym, ap, subst, ◌∙◌, codes}
use Rattle.std.specs.Prelude.{MatchOption}
use Rattle.serde_json.specs.Data.{Data, null, string, object, Members, no_members, member}
use Rattle.obj_form.specs.declared.object.InitialRun.{InitialRun}
use Rattle.obj_form.specs.declared.object.Object.{Object}
use Rattle.obj_form.specs.declared.object.Reloc.{Reloc}
use Rattle.obj_form.specs.declared.object.Target.{Target}
use Rattle.obj_form.specs.declared.object.Target.TheVariants.{Call, Own, Block}
use Rattle.obj_form.specs.Grammar.{IsArrayOf, IsBlock, IsCode, IsInitial, IsObject, IsReloc, IsRelocs, IsRun, IsTarget, Never, Reads, Writes, four, three, two}
use Rattle.obj_form.specs.Objects.{ArePairs, AreRuns}
use Rattle.obj_form.proofs.Unique.{first_in, one_array, one_code, one_object, one_reloc, one_run, rest_in}

pub no_block : (d w b n : Data) → d ≡ three w b n → Never IsBlock b → (name : List ℕ) (k : ℕ) → IsTarget d (Block name k) → ⊥
no_block d w b n e never name k h = never name (subst (λ x. IsBlock x name) (ap (λ v. first_in (rest_in v)) (sym h.2 ∙ e)) h.3)

none_of_three : (d : Data) → ((a b : Data) → d ≡ two a b → ⊥) → ((name : List ℕ) (k : ℕ) → IsTarget d (Block name k) → ⊥) → (t : Target) → IsTarget d t → ⊥
none_of_three d not_two not_block (Call name) h = not_two (string (codes "call")) h.0 h.1
none_of_three d not_two not_block (Own k) h = not_two (string (codes "own")) h.0 h.1
none_of_three d not_two not_block (Block name k) h = not_block name k h

pub of_three : (d : Data) → ((a b : Data) → d ≡ two a b → ⊥) → (found : Option Target)
    → MatchOption found ((name : List ℕ) (k : ℕ) → IsTarget d (Block name k) → ⊥) (IsTarget d) → Reads IsTarget d found
of_three d not_two None h = none_of_three d not_two h
of_three d not_two (Some t) h = h

pub not_in_order : (d : Data) (runs : List InitialRun) → IsArrayOf IsRun d runs → (AreRuns runs → ⊥) → Never IsInitial d
not_in_order d runs here not all h = not (subst AreRuns (one_array IsRun one_run d all runs h.0 here) h.1)

pub not_apart : (words : ℕ) (d : Data) (relocs : List Reloc) → IsArrayOf IsReloc d relocs → (ArePairs words relocs → ⊥) → Never (IsRelocs words) d
not_apart words d relocs here not all h = not (subst (ArePairs words) (one_array IsReloc one_reloc d all relocs h.0 here) h.1)

-- ---- the members of an object, by their places

abbrev members_in : Data → Members
members_in (object ms) = ms
members_in _ = no_members

abbrev member_in : Members → Data
member_in (member k d ms) = d
member_in no_members = null

abbrev behind_in : Members → Members
behind_in (member k d ms) = ms
behind_in no_members = no_members

module _ (d a b c e : Data) (is : d ≡ four a b c e) where
  pub no_initial : Never IsInitial b → Never IsObject d
  no_initial never o h = never o.initial (subst (λ x. IsInitial x o.initial) (ap (λ v. member_in (behind_in (members_in v))) (sym h.4 ∙ is)) h.6)

  pub no_relocs : (code : List ℕ) → IsCode a code → Never (IsRelocs (length code)) c → Never IsObject d
  no_relocs code here never o h =
      let same : o.code ≡ code = one_code a o.code code (subst (λ x. IsCode x o.code) (ap (λ v. member_in (members_in v)) (sym h.4 ∙ is)) h.5) here in
      never o.relocs
      (subst (λ xs. IsRelocs (length xs) c o.relocs) same
      (subst (λ x. IsRelocs (length o.code) x o.relocs) (ap (λ v. member_in (behind_in (behind_in (members_in v)))) (sym h.4 ∙ is)) h.7))

-- what was written is read as it was
pub read_again : (d v : Data) (o : Object) (found : Option Object) → Writes IsObject v o → Reads IsObject v found → IsObject d o → found ≡ Some o
read_again d v o None writes reads h = absurd (reads o (subst (λ x. IsObject x o) (sym (writes d h)) h))
read_again d v o (Some p) writes reads h = ap Some (one_object v p o reads (subst (λ x. IsObject x o) (sym (writes d h)) h))
