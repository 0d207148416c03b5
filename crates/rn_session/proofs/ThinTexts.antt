-- From the units of a text to the statements of its program.
use Rattle.std.proofs.Common.{◌≡◌, ℕ, ◌≤◌, Ok, Err, List, [], ◌∷◌, length, sum_by, ap, ◌∙◌, subst, arith}
use Rattle.std.specs.Prelude.{IfOk, IfErr}
use Rattle.std.specs.declared.result.Result.{Result}
use Rattle.std.specs.List.{All, AllZip}
use Rattle.f77_tree.specs.declared.fault.Refused.{Refused}
use Rattle.f77_tree.specs.declared.fault.Refused.TheVariants.{Fault, OutOfMemory as Starved}
use Rattle.f77_tree.specs.declared.unit.Unit.{Unit as SourceUnit}
use Rattle.fixed_form.specs.Lines.{lines_of}
use Rattle.fixed_form.specs.Reading.{Reads}
use Rattle.fixed_form.specs.Reading as r
use Rattle.fixed_form.specs.declared.reader.UnitText.{UnitText}
use Rattle.f77_parse.specs.Limits.{CountTokens}
use Rattle.f77_parse.specs.Statements.{IsShortText}
use Rattle.rn_draft.specs.Accepted as a
use Rattle.rn_draft.specs.Accepted.{IsAccepted, Accepted}
use Rattle.rn_draft.specs.Drafts.{drafted}
use Rattle.rn_draft.specs.Gathering.{HasFewTokens}
use Rattle.thin_form.specs.declared.statement.Statement.{Statement}
use Rattle.thin_form.specs.Programs.{size_of, IsShort, IsSmall}
use Rattle.thin_text.specs.declared.thin.Thin.{Thin}
use Rattle.thin_text.specs.declared.thin.Thin.TheVariants.{Program, Broken, Nothing}
use Rattle.thin_text.specs.Progress.{Tells}
use Rattle.thin_text.specs.Thin.{IsThin, text_bytes}
use Rattle.rn_session.specs.Made.{IsKnown, Breaks, IsSizedText}
use Rattle.rn_session.specs.Texts.{Explains, of_reading, of_draft, of_form}

-- ---- refusals

pub reading_fault : (e : Refused) (bytes : List ℕ) → r.Explains e (lines_of bytes) → Explains e bytes
reading_fault (Fault fault) bytes h = of_reading h
reading_fault Starved bytes h = tt

pub draft_fault : (e : Refused) (bytes : List ℕ) (units draft : List UnitText) → Reads (lines_of bytes) units → draft ≡ drafted units → a.Explains e draft → Explains e bytes
draft_fault (Fault fault) bytes units draft reads is h = of_draft units reads (subst (a.IsFirstFault fault) is h)
draft_fault Starved bytes units draft reads is h = tt

form_fault : (e : Refused) (bytes : List ℕ) (units : List UnitText) (trees : List SourceUnit) (thin : Thin) → Reads (lines_of bytes) units → Accepted (drafted units) trees → Tells thin units → Breaks e thin → Explains e bytes
form_fault (Fault fault) bytes units trees thin reads accepted told h = of_form units trees reads accepted (subst (λ t. Tells t units) h told)
form_fault Starved bytes units trees thin reads accepted told h = tt

-- ---- accepted texts

-- An accepted draft has a unit.
pub known : ((trees : List SourceUnit) → Accepted [] trees → ⊥) → (thin : Thin) (units : List UnitText) (trees : List SourceUnit) → Tells thin units → Accepted (drafted units) trees → IsKnown thin
known none (Program body) units trees told accepted = tt
known none (Broken fault) units trees told accepted = tt
known none Nothing units trees told accepted = none trees (subst (λ us. Accepted (drafted us) trees) told accepted)

all_head : {X : Type 0} (P : X → Type 0) (x : X) (xs : List X) → All P (x ∷ xs) → P x
all_head P x xs h = h 0 x (omega arith)

few_one : (u : UnitText) (trees : List SourceUnit) (n : ℕ) → AllZip IsAccepted (u ∷ []) trees → All HasFewTokens trees → ((m : ℕ) → CountTokens u.statements m → n ≤ m) → n ≤ 20000
few_one u [] n each few most = absurd each
few_one u (t ∷ trees) n each few most = let p = most t.tokens each.0.tree.tokens in let q = all_head HasFewTokens t trees few in omega (arith, p, q)

small : (units : List UnitText) (trees : List SourceUnit) (body : List Statement) → ((u : UnitText) → drafted (u ∷ []) ≡ u ∷ []) → (h : IsThin units body) → Accepted (drafted units) trees → All HasFewTokens trees →
    ((m : ℕ) → CountTokens h.unit.statements m → length body ≤ m) → All IsShort body → IsSmall body
small units trees body one h accepted few most short =
    let alone : drafted units ≡ h.unit ∷ [] = ap drafted h.alone ∙ one h.unit in
    record { few = few_one h.unit trees (length body) (subst (λ us. AllZip IsAccepted us trees) alone accepted.each) few most; short = short }

thin_body : (thin : Thin) (units : List UnitText) (body : List Statement) → thin ≡ Program body → Tells thin units → IsThin units body
thin_body thin units body e told = (subst (λ t. Tells t units) e told).0

-- ---- what is found of a text

-- what is known of a text whose draft was accepted
pub record Known (bytes : List ℕ) (thin : Thin) : Type 0 where
  pub units : List UnitText
  pub reads : Reads (lines_of bytes) units
  pub told : Tells thin units
  pub trees : List SourceUnit
  pub accepted : Accepted (drafted units) trees
  pub few : All HasFewTokens trees

pub known_text : (bytes : List ℕ) (thin : Thin) (units slice draft slice_of_draft : List UnitText) (trees : List SourceUnit) → Reads (lines_of bytes) units → slice ≡ units → Tells thin slice → draft ≡ drafted units → slice_of_draft ≡ draft →
    Accepted slice_of_draft trees → All HasFewTokens trees → Known bytes thin
known_text bytes thin units slice draft slice_of_draft trees reads same told is same_draft accepted few = record {
  units = units;
  reads = reads;
  told = subst (Tells thin) same told;
  trees = trees;
  accepted = subst (λ us. Accepted us trees) (same_draft ∙ is) accepted;
  few = few;
}

pub text_of : {E : Type 0} (found : Result (List Statement) E) (bytes : List ℕ) (thin : Thin) → Known bytes thin → ((units : List UnitText) (body : List Statement) → IsThin units body → sum_by size_of body ≤ text_bytes units) →
    IfOk found (λ body. thin ≡ Program body) → IfOk found (λ body. IsSizedText bytes body)
text_of (Ok body) bytes thin k size e =
    let h = thin_body thin k.units body e k.told in
    record { text = record { units = k.units; reads = k.reads; trees = k.trees; accepted = k.accepted; thin = h }; size = size k.units body h }
text_of (Err x) bytes thin k size e = tt

pub small_of : {E : Type 0} (found : Result (List Statement) E) (bytes : List ℕ) (thin : Thin) → Known bytes thin → ((u : UnitText) → drafted (u ∷ []) ≡ u ∷ []) →
    ((units : List UnitText) (body : List Statement) (h : IsThin units body) (n : ℕ) → CountTokens h.unit.statements n → length body ≤ n) →
    ((units : List UnitText) (body : List Statement) → IsThin units body → All (λ u. All IsShortText u.statements) units → All IsShort body) →
    ((lines : List (List ℕ)) (units : List UnitText) → Reads lines units → All (λ u. All IsShortText u.statements) units) →
    IfOk found (λ body. thin ≡ Program body) → IfOk found (λ body. IsSmall body)
small_of (Ok body) bytes thin k one few short read e =
    let h = thin_body thin k.units body e k.told in
    small k.units k.trees body one h k.accepted k.few (few k.units body h) (short k.units body h (read (lines_of bytes) k.units k.reads))
small_of (Err x) bytes thin k one few short read e = tt

pub fault_of : {A : Type 0} (found : Result A Refused) (bytes : List ℕ) (thin : Thin) → Known bytes thin → IfErr found (λ e. Breaks e thin) → IfErr found (λ e. Explains e bytes)
fault_of (Ok x) bytes thin k h = tt
fault_of (Err e) bytes thin k h = form_fault e bytes k.units k.trees thin k.reads k.accepted k.told h
