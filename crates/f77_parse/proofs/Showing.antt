-- What a statement shows, from its parts.
use Rattle.std.proofs.Common.{◌≡◌, ℕ, Bool, true, not, ◌&&◌, List, [], Some, None, refl, sym, subst, ◌⊎◌, inl, inr}
use Rattle.std.specs.Bool.{MatchBool}
use Rattle.std.specs.declared.option.Option.{Option}
use Rattle.std.specs.Option.{is_some}
use Rattle.f77_tree.specs.declared.form.Form.{Form}
use Rattle.f77_tree.specs.declared.unit.UnitKind.{UnitKind}
use Rattle.fixed_form.specs.declared.reader.Line.{Line}
use Rattle.f77_parse.specs.declared.context.Context.{Context}
use Rattle.fault_marks.specs.declared.marks.Mark.{Mark}
use Rattle.f77_parse.specs.Statements.{HasFormAt}
use Rattle.f77_parse.specs.Order.{BreaksOrder}
use Rattle.f77_parse.specs.Limits.{PassesTokens, PassesDummies}
use Rattle.f77_parse.specs.UnitFaults as u
use Rattle.f77_parse.specs.UnitFaults.{is_foreign_head, Shows, IsAt}
use Rattle.fault_marks.specs.Earliest.{first_of, mark_if, Earliest}
use Rattle.f77_parse.specs.Context.{breaks_order, Knows}
use Rattle.f77_parse.specs.Shown as s
use Rattle.f77_parse.specs.Shown.{IsOnly, KnowsForm, KnowsPassing, Explained, FormShows, FormPart, mark_at}
use Rattle.f77_parse.proofs.Deciding.{told, decides_not, decides_and}
use Rattle.fault_marks.specs.Places.{Marks}
use Rattle.fault_marks.proofs.Firsts.{mapped, either, marked}
use Rattle.f77_parse.proofs.Numbered.{Numbered, numbered}
use Rattle.f77_parse.proofs.Contexts.{order_told}

-- ---- a form

abbrev Parts : UnitKind → List Line → ℕ → Form → Mark → Type 0
Parts kind before line form m = Marks ((is_foreign_head form ≡ true) × (before ≡ [] → ⊥)) line 7 0 m ⊎ (Marks (BreaksOrder kind before form) line 8 0 m ⊎ Marks (PassesDummies form) line 37 63 m)

form_to : (kind : UnitKind) (before : List Line) (line : ℕ) (form : Form) (m : Mark) → Parts kind before line form m → FormShows kind before line form m
form_to kind before line form m (inl h) = s.foreign_head h
form_to kind before line form m (inr (inl h)) = s.order h
form_to kind before line form m (inr (inr h)) = s.dummies h

form_from : (kind : UnitKind) (before : List Line) (line : ℕ) (form : Form) (m : Mark) → FormShows kind before line form m → Parts kind before line form m
form_from kind before line form m (s.foreign_head h) = inl h
form_from kind before line form m (s.order h) = inr (inl h)
form_from kind before line form m (s.dummies h) = inr (inr h)

pub form_first : (c : Context) (before : List Line) (line : ℕ) (form : Form) → Knows before c → (late passed : Bool) → late ≡ is_foreign_head form && not c.first → (broken : Bool) → broken ≡ breaks_order c form →
    MatchBool passed (PassesDummies form) (PassesDummies form → ⊥) → (a b d e : Option Mark) → a ≡ mark_if late line 7 0 → b ≡ mark_if broken line 8 0 → d ≡ mark_if passed line 37 63 → e ≡ first_of a (first_of b d) → Earliest (FormShows c.kind before line form) e
form_first c before line form k late passed l broken o p a b d e is_a is_b is_d is_e =
    let H : Type 0 = (is_foreign_head form ≡ true) × (before ≡ [] → ⊥) in
    let head : MatchBool late H (H → ⊥) = subst (λ t. MatchBool t H (H → ⊥)) (sym l) (decides_and (is_foreign_head form) (not c.first) (is_foreign_head form ≡ true) (before ≡ [] → ⊥) (told (is_foreign_head form)) (decides_not c.first (before ≡ []) k.first)) in
    let order : MatchBool broken (BreaksOrder c.kind before form) (BreaksOrder c.kind before form → ⊥) = subst (λ t. MatchBool t (BreaksOrder c.kind before form) (BreaksOrder c.kind before form → ⊥)) (sym o) (order_told c before form k) in
    let first = subst (Earliest (Marks H line 7 0)) (sym is_a) (marked H late line 7 0 head) in
    let second = subst (Earliest (Marks (BreaksOrder c.kind before form) line 8 0)) (sym is_b) (marked (BreaksOrder c.kind before form) broken line 8 0 order) in
    let third = subst (Earliest (Marks (PassesDummies form) line 37 63)) (sym is_d) (marked (PassesDummies form) passed line 37 63 p) in
    let others = either (Marks (BreaksOrder c.kind before form) line 8 0) (Marks (PassesDummies form) line 37 63) b d second third in
    let all = either (Marks H line 7 0) (λ m. Marks (BreaksOrder c.kind before form) line 8 0 m ⊎ Marks (PassesDummies form) line 37 63 m) a (first_of b d) first others in
    subst (Earliest (FormShows c.kind before line form)) (sym is_e) (mapped (Parts c.kind before line form) (FormShows c.kind before line form) (first_of a (first_of b d)) (form_to c.kind before line form) (form_from c.kind before line form) all)

-- ---- a statement

abbrev All : UnitKind → List Line → Line → List Line → Option Form → Mark → Type 0
All kind before line behind form m = Numbered (Explained behind line.text) line.line m ⊎ (FormPart kind before line.line form m ⊎ Marks (PassesTokens before line) line.line 37 20000 m)

at_line : (H : Type 0) (line : Line) (number limit : ℕ) (m : Mark) → Marks H line.line number limit m → IsAt line number limit m
at_line H line number limit m k = record { line_is = k.line_is; number_is = k.number_is; limit_is = k.limit_is }

marks : (H : Type 0) (line : Line) (number limit : ℕ) (m : Mark) → H → IsAt line number limit m → Marks H line.line number limit m
marks H line number limit m h k = record { holds = h; line_is = k.line_is; number_is = k.number_is; limit_is = k.limit_is }

explained_to : (kind : UnitKind) (before : List Line) (line : Line) (behind : List Line) (m : Mark) → Numbered (Explained behind line.text) line.line m → Shows kind before line behind m
explained_to kind before line behind m n = go n.is
  where
    go : Explained behind line.text m.number → Shows kind before line behind m
    go (s.by_tokens t) = u.by_tokens m.number t (record { line_is = n.line_is; number_is = refl; limit_is = n.limit_is })
    go (s.foreign l i e) = u.foreign l i (record { line_is = n.line_is; number_is = e; limit_is = n.limit_is })
    go (s.no_form l i e) = u.no_form l i (record { line_is = n.line_is; number_is = e; limit_is = n.limit_is })

part_to : (kind : UnitKind) (before : List Line) (line : Line) (behind : List Line) (form : Option Form) → KnowsForm behind line.text form → (m : Mark) → FormPart kind before line.line form m → Shows kind before line behind m
part_to kind before line behind None k m h = absurd h
part_to kind before line behind (Some form) k m (s.foreign_head h) = u.foreign_head form k.is h.holds.0 h.holds.1 (at_line _ line 7 0 m h)
part_to kind before line behind (Some form) k m (s.order h) = u.order form k.is h.holds (at_line _ line 8 0 m h)
part_to kind before line behind (Some form) k m (s.dummies h) = u.dummies form k.is h.holds (at_line _ line 37 63 m h)

all_to : (kind : UnitKind) (before : List Line) (line : Line) (behind : List Line) (form : Option Form) → KnowsForm behind line.text form → (m : Mark) → All kind before line behind form m → Shows kind before line behind m
all_to kind before line behind form k m (inl n) = explained_to kind before line behind m n
all_to kind before line behind form k m (inr (inl h)) = part_to kind before line behind form k m h
all_to kind before line behind form k m (inr (inr h)) = u.tokens h.holds (at_line _ line 37 20000 m h)

-- what a form shows is shown by the form that was found
found_part : (kind : UnitKind) (before : List Line) (line : Line) (behind : List Line) (found : Option Form) → KnowsForm behind line.text found → (m : Mark) (form : Form) → HasFormAt behind line.text form → FormShows kind before line.line form m → FormPart kind before line.line found m
found_part kind before line behind None k m form h shows = absurd (k.not form h)
found_part kind before line behind (Some known) k m form h shows = subst (λ x. FormShows kind before line.line x m) (k.only form h) shows

all_from : (kind : UnitKind) (before : List Line) (line : Line) (behind : List Line) (form : Option Form) → KnowsForm behind line.text form → (m : Mark) → Shows kind before line behind m → All kind before line behind form m
all_from kind before line behind form k m (u.by_tokens n t at) = inl (record { is = subst (Explained behind line.text) (sym at.number_is) (s.by_tokens t); line_is = at.line_is; limit_is = at.limit_is })
all_from kind before line behind form k m (u.foreign l i at) = inl (record { is = s.foreign l i at.number_is; line_is = at.line_is; limit_is = at.limit_is })
all_from kind before line behind form k m (u.no_form l i at) = inl (record { is = s.no_form l i at.number_is; line_is = at.line_is; limit_is = at.limit_is })
all_from kind before line behind form k m (u.foreign_head f h r n at) = inr (inl (found_part kind before line behind form k m f h (s.foreign_head (marks _ line 7 0 m (r, n) at))))
all_from kind before line behind form k m (u.order f h b at) = inr (inl (found_part kind before line behind form k m f h (s.order (marks _ line 8 0 m b at))))
all_from kind before line behind form k m (u.tokens p at) = inr (inr (marks _ line 37 20000 m p at))
all_from kind before line behind form k m (u.dummies f h p at) = inr (inl (found_part kind before line behind form k m f h (s.dummies (marks _ line 37 63 m p at))))

pub statement_first : (kind : UnitKind) (before : List Line) (line : Line) (behind : List Line) (form : Option Form) → KnowsForm behind line.text form → (number : Option ℕ) → IsOnly (Explained behind line.text) number → (passes : Bool) → KnowsPassing before line passes →
    (a b d e : Option Mark) → a ≡ mark_at line.line number → Earliest (FormPart kind before line.line form) b → d ≡ mark_if passes line.line 37 20000 → e ≡ first_of a (first_of b d) → Earliest (Shows kind before line behind) e
statement_first kind before line behind form k number only passes p a b d e is_a h is_d is_e =
    let first = subst (Earliest (Numbered (Explained behind line.text) line.line)) (sym is_a) (numbered (Explained behind line.text) line.line number only) in
    let third = subst (Earliest (Marks (PassesTokens before line) line.line 37 20000)) (sym is_d) (marked (PassesTokens before line) passes line.line 37 20000 p) in
    let others = either (FormPart kind before line.line form) (Marks (PassesTokens before line) line.line 37 20000) b d h third in
    let all = either (Numbered (Explained behind line.text) line.line) (λ m. FormPart kind before line.line form m ⊎ Marks (PassesTokens before line) line.line 37 20000 m) a (first_of b d) first others in
    subst (Earliest (Shows kind before line behind)) (sym is_e) (mapped (All kind before line behind form) (Shows kind before line behind) (first_of a (first_of b d)) (all_to kind before line behind form k) (all_from kind before line behind form k) all)

-- whether a form was found tells whether the text has one
pub formed_of : (behind : List Line) (text : List ℕ) (found : Option Form) → KnowsForm behind text found → (formed : Bool) → formed ≡ is_some found → s.IsFormed behind text formed
formed_of behind text None k formed e = subst (s.IsFormed behind text) (sym e) k
formed_of behind text (Some form) k formed e = subst (s.IsFormed behind text) (sym e) (record { form = form; is = k.is })
