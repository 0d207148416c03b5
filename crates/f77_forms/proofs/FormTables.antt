-- The form of a text is the one of its kind and its word.
use Rattle.std.proofs.Common.{◌≡◌, true, false, ◌++◌, Option, Some, None, MatchOption, Result, Ok, Err, IfOk, codes, ap, sym, ◌∙◌, subst}
use Rattle.std.specs.declared.alloc.AllocError.{AllocError}
use Rattle.f77_tree.specs.declared.form.Form.{Form}
use Rattle.f77_tree.specs.declared.form.Form.TheVariants as f
use Rattle.f77_expr.specs.Spelling.{Text}
use Rattle.f77_expr.specs.Kinds.{Tokens}
use Rattle.fixed_form.specs.Heads.{Lacks}
use Rattle.fixed_form.proofs.WordRuns.{false_true}
use Rattle.form_kinds.specs.declared.keywords.Keyword.{Keyword}
use Rattle.form_kinds.specs.declared.statement_kinds.StatementKind.{StatementKind}
use Rattle.form_kinds.specs.declared.statement_kinds.StatementKind.TheVariants as kind
use Rattle.form_parts.specs.Answers.{AreTokens, InTokens}
use Rattle.form_parts.specs.Only.{Sole, Never}
use Rattle.form_kinds.specs.StatementKinds.{IsIf, NoIf, IsKind}
use Rattle.form_kinds.specs.Keywords.{keyword_of, behind}
use Rattle.f77_forms.specs.HeadForms.{IsHeadForm}
use Rattle.f77_forms.specs.TooDeep.{IsTooDeep}
use Rattle.form_parts.specs.Parts.{IsExpression}
use Rattle.f77_forms.specs.Forms.{WordForm, IsWorded, head, by_word, BehindIf, KindForm, HasPlainForm, is_action, HasAction, IsLogicalIf, IsConditional, HasForm, plain, logical_if}
use Rattle.form_parts.proofs.Answered.{sole_in, never_in, never_tokens}
use Rattle.form_kinds.proofs.KindTests.{kind_same, if_same}

-- ---- words and heads

head_only : {text : Text} {form y : Form} → Sole IsHeadForm text form → IsWorded text y → y ≡ form
head_only {y = y} sole (head h) = sole.only y h
head_only {form = form} sole (by_word w never e i) = absurd (never.not form sole.is)

pub sole_head : {text : Text} {form : Form} → Sole IsHeadForm text form → Sole IsWorded text form
sole_head sole = record { is = head sole.is; only = λ y w. head_only sole w }

some_word : {v w : Keyword} → Some v ≡ Some w → v ≡ w
some_word e = cc

no_word_at : {text : Text} {y : Form} → Never IsHeadForm text → keyword_of text ≡ None → IsWorded text y → ⊥
no_word_at {y = y} never e (head h) = never.not y h
no_word_at never e (by_word w other g i) = let some : None ≡ Some w = sym e ∙ g in cc

pub never_word : {text : Text} → Never IsHeadForm text → keyword_of text ≡ None → Never IsWorded text
never_word never e = record { not = λ y w. no_word_at never e w }

pub word_in : (text : Text) (w v : Keyword) {y : Form} → keyword_of text ≡ Some w → keyword_of text ≡ Some v → InTokens (WordForm v) (behind v text) y → InTokens (WordForm w) (behind w text) y
word_in text w v {y = y} e g i = subst (λ v. InTokens (WordForm v) (behind v text) y) (some_word (sym g ∙ e)) i

worded_only : {text : Text} {w : Keyword} {form y : Form} → Never IsHeadForm text → keyword_of text ≡ Some w → Sole (InTokens (WordForm w)) (behind w text) form → IsWorded text y → y ≡ form
worded_only {y = y} never e sole (head h) = absurd (never.not y h)
worded_only {text} {w} {y = y} never e sole (by_word v other g i) = sole.only y (word_in text w v e g i)

sole_worded : {text : Text} {w : Keyword} {form : Form} → Never IsHeadForm text → keyword_of text ≡ Some w → Sole (InTokens (WordForm w)) (behind w text) form → Sole IsWorded text form
sole_worded {w = w} never e sole = record { is = by_word w never e sole.is; only = λ y i. worded_only never e sole i }

no_worded : {text : Text} {w : Keyword} {y : Form} → Never IsHeadForm text → keyword_of text ≡ Some w → Never (InTokens (WordForm w)) (behind w text) → IsWorded text y → ⊥
no_worded {y = y} never e none (head h) = never.not y h
no_worded {text} {w} {y = y} never e none (by_word v other g i) = none.not y (word_in text w v e g i)

pub never_worded : {text : Text} {w : Keyword} → Never IsHeadForm text → keyword_of text ≡ Some w → Never (InTokens (WordForm w)) (behind w text) → Never IsWorded text
never_worded never e none = record { not = λ y i. no_worded never e none i }

pub never_word_tokens : {text rest : Text} {w : Keyword} → Never IsHeadForm text → keyword_of text ≡ Some w → rest ≡ behind w text → Never AreTokens rest → Never IsWorded text
never_word_tokens {text} {rest} {w} never e g none = never_worded never e (never_tokens (subst (Never AreTokens) g none))

pub found_worded : {text rest : Text} {ts : Tokens} (w : Keyword) (r : Result (Option Form) AllocError) → Never IsHeadForm text → keyword_of text ≡ Some w → rest ≡ behind w text → Sole AreTokens rest ts →
    IfOk r (λ found. MatchOption found (Never (WordForm w) ts) (λ form. Sole (WordForm w) ts form)) → IfOk r (λ found. MatchOption found (Never IsWorded text) (λ form. Sole IsWorded text form))
found_worded {ts = ts} w (Ok None) never e g tokens h = never_worded never e (never_in (subst (λ t. Sole AreTokens t ts) g tokens) h)
found_worded {ts = ts} w (Ok (Some form)) never e g tokens h = sole_worded never e (sole_in (subst (λ t. Sole AreTokens t ts) g tokens) h)
found_worded w (Err x) never e g tokens h = tt

-- ---- IF

behind_same : {text rest other : Text} → text ≡ codes "IF" ++ rest → text ≡ codes "IF" ++ other → other ≡ rest
behind_same e g = cc (e, g)

pub sole_behind : {text rest : Text} {form : Form} (Is : Tokens → Form → Type 0) → text ≡ codes "IF" ++ rest → Sole (InTokens Is) rest form → Sole (BehindIf Is) text form
sole_behind {rest = rest} Is e sole = record { is = record { rest = rest; cut = e; is = sole.is }; only = λ y b. sole.only y (subst (λ r. InTokens Is r y) (behind_same e b.cut) b.is) }

pub never_behind : {text rest : Text} (Is : Tokens → Form → Type 0) → text ≡ codes "IF" ++ rest → Never (InTokens Is) rest → Never (BehindIf Is) text
never_behind Is e never = record { not = λ y b. never.not y (subst (λ r. InTokens Is r y) (behind_same e b.cut) b.is) }

pub never_if : {text : Text} (Is : Tokens → Form → Type 0) → Lacks text (codes "IF") → Never (BehindIf Is) text
never_if Is lacks = record { not = λ y b. lacks.not b.rest b.cut }

pub found_behind : {text rest : Text} {ts : Tokens} (Is : Tokens → Form → Type 0) (r : Result (Option Form) AllocError) → text ≡ codes "IF" ++ rest → Sole AreTokens rest ts → IfOk r (λ found. MatchOption found (Never Is ts) (λ form. Sole Is ts form)) →
    IfOk r (λ found. MatchOption found (Never (BehindIf Is) text) (λ form. Sole (BehindIf Is) text form))
found_behind Is (Ok None) e tokens h = never_behind Is e (never_in tokens h)
found_behind Is (Ok (Some form)) e tokens h = sole_behind Is e (sole_in tokens h)
found_behind Is (Err x) e tokens h = tt

-- ---- kinds

plain_only : {text : Text} {k : StatementKind} {form y : Form} → IsKind text k → Sole (KindForm k) text form → HasPlainForm text y → y ≡ form
plain_only {text} {k} {form} {y} is sole p = sole.only y (subst (λ k. KindForm k text y) (kind_same p.is_kind is) p.is)

pub sole_kind : {text : Text} {form : Form} (k : StatementKind) → IsKind text k → Sole (KindForm k) text form → Sole HasPlainForm text form
sole_kind k is sole = record { is = record { kind = k; is_kind = is; is = sole.is }; only = λ y p. plain_only is sole p }

pub never_kind : {text : Text} (k : StatementKind) → IsKind text k → Never (KindForm k) text → Never HasPlainForm text
never_kind {text} k is never = record { not = λ y p. never.not y (subst (λ k. KindForm k text y) (kind_same p.is_kind is) p.is) }

pub found_kind : {text : Text} (k : StatementKind) (r : Result (Option Form) AllocError) → IsKind text k → IfOk r (λ found. MatchOption found (Never (KindForm k) text) (λ form. Sole (KindForm k) text form)) →
    IfOk r (λ found. MatchOption found (Never HasPlainForm text) (λ form. Sole HasPlainForm text form))
found_kind k (Ok None) is h = never_kind k is h
found_kind k (Ok (Some form)) is h = sole_kind k is h
found_kind k (Err x) is h = tt

-- ---- logical IF

action_only : {text : Text} {form y : Form} → Sole HasPlainForm text form → HasAction text y → y ≡ form
action_only {y = y} sole a = sole.only y a.plain

pub sole_action : {text : Text} {form : Form} → Sole HasPlainForm text form → is_action form ≡ true → Sole HasAction text form
sole_action sole action = record { is = record { plain = sole.is; action = action }; only = λ y a. action_only sole a }

pub never_action : {text : Text} {form : Form} → Sole HasPlainForm text form → is_action form ≡ false → Never HasAction text
never_action sole wrong = record { not = λ y a. false_true wrong (ap is_action (sym (action_only sole a)) ∙ a.action) }

pub never_plain_action : {text : Text} → Never HasPlainForm text → Never HasAction text
never_plain_action never = record { not = λ y a. never.not y a.plain }

if_condition : {text condition statement : Text} {y : Form} → IsIf text condition statement → (l : IsLogicalIf text y) → InTokens IsExpression condition l.test
if_condition cut l = subst (λ t. InTokens IsExpression t l.test) (if_same l.cut cut).before l.is_test

if_statement : {text condition statement : Text} {y : Form} → IsIf text condition statement → (l : IsLogicalIf text y) → HasAction statement l.inner
if_statement cut l = subst (λ t. HasAction t l.inner) (if_same l.cut cut).behind l.is_inner

logical_same : {text condition statement : Text} {inner form y : Form} → IsIf text condition statement → Sole HasAction statement inner → IsConditional condition inner form → IsLogicalIf text y → y ≡ form
logical_same {inner = inner} cut acts c l =
    l.made ∙ (ap (λ t. f.LogicalIf t l.inner) (c.is_test.only l.test (if_condition cut l)) ∙ (ap (λ i. f.LogicalIf c.test i) (acts.only l.inner (if_statement cut l)) ∙ sym c.made))

pub never_cut : {text : Text} → NoIf text → Never IsLogicalIf text
never_cut none = record { not = λ y l. none.not l.condition l.statement l.cut }

pub never_deep : {text : Text} → IsTooDeep text → Never IsLogicalIf text
never_deep deep = record { not = λ y l. l.shallow deep }

pub never_inner : {text condition statement : Text} → IsIf text condition statement → Never HasAction statement → Never IsLogicalIf text
never_inner cut never = record { not = λ y l. never.not l.inner (if_statement cut l) }

pub found_conditional : {text condition statement : Text} {inner : Form} (r : Result (Option Form) AllocError) → (IsTooDeep text → ⊥) → IsIf text condition statement → Sole HasAction statement inner →
    IfOk r (λ found. MatchOption found (Never (InTokens IsExpression) condition) (λ form. IsConditional condition inner form)) → IfOk r (λ found. MatchOption found (Never IsLogicalIf text) (λ form. Sole IsLogicalIf text form))
found_conditional (Ok None) shallow cut acts h = record { not = λ y l. h.not l.test (if_condition cut l) }
found_conditional {condition = condition} {statement = statement} {inner = inner} (Ok (Some form)) shallow cut acts h = record {
  is = record { condition = condition; statement = statement; test = h.test; inner = inner; cut = cut; is_test = h.is_test.is; is_inner = acts.is; shallow = shallow; made = h.made };
  only = λ y l. logical_same cut acts h l;
}
found_conditional (Err x) shallow cut acts h = tt

-- ---- all forms

no_plain : {text : Text} {y : Form} → IsKind text kind.LogicalIf → HasPlainForm text y → ⊥
no_plain {text} {y} is p = subst (λ k. KindForm k text y) (kind_same p.is_kind is) p.is

logical_only : {text : Text} {form y : Form} → IsKind text kind.LogicalIf → Sole IsLogicalIf text form → HasForm text y → y ≡ form
logical_only is sole (plain p) = absurd (no_plain is p)
logical_only {y = y} is sole (logical_if other l) = sole.only y l

no_logical : {text : Text} {y : Form} → IsKind text kind.LogicalIf → Never IsLogicalIf text → HasForm text y → ⊥
no_logical is never (plain p) = no_plain is p
no_logical {y = y} is never (logical_if other l) = never.not y l

pub found_logical : {text : Text} (r : Result (Option Form) AllocError) → IsKind text kind.LogicalIf → IfOk r (λ found. MatchOption found (Never IsLogicalIf text) (λ form. Sole IsLogicalIf text form)) →
    IfOk r (λ found. MatchOption found (Never HasForm text) (λ form. Sole HasForm text form))
found_logical (Ok None) is h = record { not = λ y p. no_logical is h p }
found_logical (Ok (Some form)) is h = record { is = logical_if is h.is; only = λ y p. logical_only is h p }
found_logical (Err x) is h = tt

other_only : {text : Text} {k : StatementKind} {form y : Form} → IsKind text k → (k ≡ kind.LogicalIf → ⊥) → Sole HasPlainForm text form → HasForm text y → y ≡ form
other_only {y = y} is other sole (plain p) = sole.only y p
other_only is other sole (logical_if l i) = absurd (other (kind_same is l))

no_other : {text : Text} {k : StatementKind} {y : Form} → IsKind text k → (k ≡ kind.LogicalIf → ⊥) → Never HasPlainForm text → HasForm text y → ⊥
no_other {y = y} is other never (plain p) = never.not y p
no_other is other never (logical_if l i) = other (kind_same is l)

pub found_plain : {text : Text} (k : StatementKind) (r : Result (Option Form) AllocError) → IsKind text k → (k ≡ kind.LogicalIf → ⊥) → IfOk r (λ found. MatchOption found (Never (KindForm k) text) (λ form. Sole (KindForm k) text form)) →
    IfOk r (λ found. MatchOption found (Never HasForm text) (λ form. Sole HasForm text form))
found_plain k (Ok None) is other h = record { not = λ y p. no_other is other (never_kind k is h) p }
found_plain k (Ok (Some form)) is other h = record { is = plain (sole_kind k is h).is; only = λ y p. other_only is other (sole_kind k is h) p }
found_plain k (Err x) is other h = tt
