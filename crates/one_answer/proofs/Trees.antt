-- A unit has one name, one tree and one first fault.
use Rattle.std.proofs.Common.{◌≡◌, ℕ, List, [], ◌∷◌, map, length, refl, sym, ap, ◌∙◌, subst, rules}
use Rattle.std.specs.Prelude.{sum}
use Rattle.std.specs.List.{All, AllZip}
use Rattle.std.specs.declared.option.Option.{Option}
use Rattle.std.proofs.lemmas.List.Elements.{All-head, All-tail}
use Rattle.f77_tree.specs.declared.fault.SourceFault.{SourceFault}
use Rattle.f77_tree.specs.declared.form.Form.{Form, the_lemmas}
use Rattle.f77_tree.specs.declared.form.Form.TheVariants as f
use Rattle.f77_tree.specs.declared.form.TypeWord.{TypeWord}
use Rattle.f77_tree.specs.declared.unit.Stmt.{Stmt}
use Rattle.f77_tree.specs.declared.unit.Unit.{Unit as SourceUnit}
use Rattle.f77_tree.specs.declared.unit.UnitKind.{UnitKind}
use Rattle.fixed_form.specs.declared.reader.Line.{Line}
use Rattle.fixed_form.specs.declared.reader.UnitText.{UnitText}
use Rattle.fixed_form.specs.Reading.{Reads, statements_of}
use Rattle.f77_expr.specs.Laws.{PiecesAreUnique}
use Rattle.f77_expr.specs.Lexing.{Counts}
use Rattle.f77_forms.specs.Forms.{HasForm}
use Rattle.f77_forms.specs.Laws.{OneForm}
use Rattle.fault_marks.specs.Refusals.{fault_of}
use Rattle.f77_parse.specs.HeadNames as n
use Rattle.f77_parse.specs.Limits.{CountTokens}
use Rattle.f77_parse.specs.Parsed.{IsStatement, IsUnit, IsFaultless}
use Rattle.f77_parse.specs.Statements.{HasHead, headed, headless}
use Rattle.f77_parse.specs.UnitFaults as text
use Rattle.f77_check.specs.UnitFaults as checked
use Rattle.prog_check.specs.ProgramFaults as program
use Rattle.one_answer.proofs.Firsts.{one_mark, one_program_mark}
use Rattle.one_answer.proofs.Lines.{one_parts}

-- ---- heads

one_line : (x y : Line) (xs ys : List Line) → x ∷ xs ≡ y ∷ ys → x ≡ y
one_line x y xs ys e = cc

module _ (k g : UnitKind) (word more : Option TypeWord) (name other : List ℕ) (all names : List (List ℕ)) (e : f.Head k word name all ≡ f.Head g more other names) where
  one_kind : k ≡ g
  one_kind = search (rules, the_lemmas)

  one_name : name ≡ other
  one_name = search (rules, the_lemmas)

  one_list : all ≡ names
  one_list = search (rules, the_lemmas)

-- the form of one first statement is that of the other
one_first : OneForm → (lines : List Line) (x y : Line) (xs ys : List Line) (a b : Form) → lines ≡ x ∷ xs → lines ≡ y ∷ ys → HasForm x.text a → HasForm y.text b → a ≡ b
one_first unique lines x y xs ys a b e d h k = unique x.text a b h (subst (λ l. HasForm l.text b) (one_line y x ys xs (sym d ∙ e)) k)

name_of_head : OneForm → (u v : UnitText) → u.statements ≡ v.statements → n.IsNamedByHead u → n.IsNamedByHead v → u.name ≡ v.name
name_of_head unique u v e (n.headed x xs k w d cut h) (n.headed y ys g m c other i) =
    one_name k g w m u.name v.name d c (one_first unique u.statements x y xs ys (f.Head k w u.name d) (f.Head g m v.name c) cut (e ∙ other) h i)
name_of_head unique u v e (n.headed x xs k w d cut h) (n.headless none i) = absurd (none x xs k w u.name d (sym e ∙ cut) h)
name_of_head unique u v e (n.headless none h) (n.headed y ys g m c other i) = absurd (none y ys g m v.name c (e ∙ other) i)
name_of_head unique u v e (n.headless none h) (n.headless neither i) = h ∙ sym i

same_units : OneForm → (a b : List UnitText) → map (λ u. u.statements) a ≡ map (λ u. u.statements) b → All n.IsNamedByHead a → All n.IsNamedByHead b → a ≡ b
same_units unique [] [] e h k = refl
same_units unique [] (v ∷ b) e h k = absurd cc
same_units unique (u ∷ a) [] e h k = absurd cc
same_units unique (u ∷ a) (v ∷ b) e h k =
    let first : u.statements ≡ v.statements = cc in
    let more : map (λ u. u.statements) a ≡ map (λ u. u.statements) b = cc in
    let name = name_of_head unique u v first (All-head n.IsNamedByHead u a h) (All-head n.IsNamedByHead v b k) in
    let rest = same_units unique a b more (All-tail n.IsNamedByHead u a h) (All-tail n.IsNamedByHead v b k) in
    λ i. record { name = name i; statements = first i } ∷ rest i

-- A text is read to one list of units.
pub one_reading : OneForm → ((lines : List (List ℕ)) → (units : List UnitText) → Reads lines units → All n.IsNamedByHead units) → (lines : List (List ℕ)) (a b : List UnitText) → Reads lines a → Reads lines b → a ≡ b
one_reading unique named lines a b h k =
    same_units unique a b
    (h.units ∙ ap (map statements_of) (one_parts h.parts k.parts h.each k.each (sym h.cards ∙ k.cards)) ∙ sym k.units)
    (named lines a h) (named lines b k)

-- ---- trees

record SameHead (k g : UnitKind) (d e : List (List ℕ)) : Type 0 where
  kind : k ≡ g
  names : d ≡ e

one_head : OneForm → (lines : List Line) (k g : UnitKind) (d c : List (List ℕ)) → HasHead lines k d → HasHead lines g c → SameHead k g d c
one_head unique lines k g d c (headed x xs w name e h) (headed y ys m other cut i) =
    let same = one_first unique lines x y xs ys (f.Head k w name d) (f.Head g m other c) e cut h i in
    record { kind = one_kind k g w m name other d c same; names = one_list k g w m name other d c same }
one_head unique lines k g d c (headed x xs w name e h) (headless none i j) = absurd (none x xs k w name d e h)
one_head unique lines k g d c (headless none h i) (headed y ys m other cut j) = absurd (none y ys g m other c cut j)
one_head unique lines k g d c (headless none h i) (headless neither j l) = record { kind = h ∙ sym j; names = i ∙ sym l }

one_statement : OneForm → (line : Line) (a b : Stmt) → IsStatement line a → IsStatement line b → a ≡ b
one_statement unique line a b h k =
    let label = h.label ∙ sym k.label in
    let at = h.line_is ∙ sym k.line_is in
    let form = unique line.text a.form b.form h.form k.form in
    λ i. record { label = label i; line = at i; form = form i }

-- lists that stand place by place for one list
pub one_list_of : {X Y : Type 0} (R : X → Y → Type 0) → ((x : X) (a b : Y) → R x a → R x b → a ≡ b) → (xs : List X) (ys zs : List Y) → AllZip R xs ys → AllZip R xs zs → ys ≡ zs
one_list_of R one [] [] [] h k = refl
one_list_of R one [] [] (b ∷ zs) h k = absurd k
one_list_of R one [] (a ∷ ys) zs h k = absurd h
one_list_of R one (x ∷ xs) [] zs h k = absurd h
one_list_of R one (x ∷ xs) (a ∷ ys) [] h k = absurd k
one_list_of R one (x ∷ xs) (a ∷ ys) (b ∷ zs) h k =
    let first = one x a b h.0 k.0 in
    let rest = one_list_of R one xs ys zs h.1 k.1 in
    λ i. first i ∷ rest i

one_count : PiecesAreUnique → (text : List ℕ) (a b : ℕ) → Counts text a → Counts text b → a ≡ b
one_count unique text a b h k = h.number ∙ ap length (unique text h.all k.all h.pieces k.pieces) ∙ sym k.number

one_total : PiecesAreUnique → (lines : List Line) (a b : ℕ) → CountTokens lines a → CountTokens lines b → a ≡ b
one_total unique lines a b h k =
    h.total ∙ ap sum (one_list_of (λ line count. Counts line.text count) (λ line. one_count unique line.text) lines h.counts k.counts h.each k.each) ∙ sym k.total

pub one_tree : OneForm → PiecesAreUnique → (u : UnitText) (a b : SourceUnit) → IsUnit u a → IsUnit u b → a ≡ b
one_tree unique pieces u a b h k =
    let head = one_head unique u.statements a.kind b.kind a.dummies b.dummies h.head k.head in
    let name = h.name ∙ sym k.name in
    let statements = one_list_of IsStatement (one_statement unique) u.statements a.statements b.statements h.statements k.statements in
    let tokens = one_total pieces u.statements a.tokens b.tokens h.tokens k.tokens in
    λ i. record { kind = head.kind i; name = name i; dummies = head.names i; statements = statements i; tokens = tokens i }

-- ---- faults

pub one_text_fault : (u : UnitText) (a b : SourceFault) → text.IsUnitFault a u → text.IsUnitFault b u → a ≡ b
one_text_fault u a b h k = h.told ∙ ap (fault_of u.name) (one_mark (text.UnitShows u) h.mark k.mark h.first k.first) ∙ sym k.told

pub no_text_fault : (u : UnitText) (fault : SourceFault) → IsFaultless u → text.IsUnitFault fault u → ⊥
no_text_fault u fault none h = none.none h.mark h.first.shows

pub one_tree_fault : (u : SourceUnit) (a b : SourceFault) → checked.IsUnitFault a u → checked.IsUnitFault b u → a ≡ b
one_tree_fault u a b h k = h.told ∙ ap (fault_of u.name) (one_mark (checked.UnitFaults u) h.mark k.mark h.first k.first) ∙ sym k.told

pub no_tree_fault : (u : SourceUnit) (fault : SourceFault) → checked.IsSound u → checked.IsUnitFault fault u → ⊥
no_tree_fault u fault sound h = sound.none h.mark h.first.shows

pub one_program_fault : (units : List SourceUnit) (a b : SourceFault) → program.IsProgramFault a units → program.IsProgramFault b units → a ≡ b
one_program_fault units a b h k = h.told ∙ ap (program.fault_of units) (one_program_mark (program.ProgramShows units) h.mark k.mark h.first k.first) ∙ sym k.told

pub no_program_fault : (units : List SourceUnit) (fault : SourceFault) → program.IsAccepted units → program.IsProgramFault fault units → ⊥
no_program_fault units fault accepted h = accepted.none h.mark h.first.shows
